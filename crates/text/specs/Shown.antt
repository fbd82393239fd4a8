-- What a line shows (SPEC 9).
use Rattle.std.specs.Prelude.{ℕ, ◌+◌, ◌/◌, ◌%◌, ◌^◌, min, max, List, [], ◌∷◌, ◌++◌, length, take, drop, replicate, ltb}
use Rattle.io.specs.Digits.{last_digits}
use Rattle.refusals.specs.Why.{Why}
use Rattle.majority.specs.Seek.{first_from}
use Rattle.text.specs.declared.Line.{Line}

-- a line's text: its first len bytes
abbrev pub shown : Line → List ℕ
shown l = take l.len l.bytes

-- these bytes, of which the first len are the text
abbrev pub line_of : List ℕ → ℕ → Line
line_of bytes len = record { bytes = bytes; len = len }

-- a line with no text
unfoldable pub empty_line : Line
empty_line = line_of (replicate 128 0) 0

-- room with a word behind its first len bytes, as far as it goes; what stands behind that is as it was
unfoldable pub appended : List ℕ → ℕ → List ℕ → Line
appended room len word =
    line_of (take (length room) (take len room ++ word) ++ drop (len + length word) room) (max len (min (length room) (len + length word)))

-- the line with a word after its text, cut where the line is full
abbrev pub with_word : Line → List ℕ → Line
with_word l word = appended l.bytes l.len word

-- how many decimal digits a number below 2^64 takes: the first k from 1 up with n < 10^k
unfoldable pub places : ℕ → ℕ
places n = first_from (λ k. ltb n (10 ^ k)) 1 20

-- a number in decimal, in as many digits as it takes
unfoldable pub decimal : ℕ → List ℕ
decimal n = last_digits 10 (places n) n

-- a number below 2^64 in 16 hexadecimal digits, `a` to `f` for those from ten up, with zeros in front
unfoldable pub hexadecimal : ℕ → List ℕ
hexadecimal n = last_digits 16 16 n

-- `refused `, ` at ` and a blank in ASCII
abbrev pub refused_word : List ℕ
refused_word = 114 ∷ 101 ∷ 102 ∷ 117 ∷ 115 ∷ 101 ∷ 100 ∷ 32 ∷ []

abbrev pub at_word : List ℕ
at_word = 32 ∷ 97 ∷ 116 ∷ 32 ∷ []

abbrev pub blank : List ℕ
blank = 32 ∷ []

-- the line with a word and a number after its text
abbrev pub with_number : Line → List ℕ → ℕ → Line
with_number l word n = with_word (with_word l word) (decimal n)

-- the line with a refusal after its text: its number, the record that it carries, and which edge of it
unfoldable pub with_refusal : Line → Why → Line
with_refusal l w = with_number (with_number (with_number l refused_word w.number) at_word w.place) blank w.edge

-- the low 32 bits of a number, low byte first
abbrev pub four_bytes : ℕ → List ℕ
four_bytes n = n % 256 ∷ n / 256 % 256 ∷ n / 65536 % 256 ∷ n / 16777216 % 256 ∷ []
