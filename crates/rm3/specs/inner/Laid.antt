-- Bytes that a table is written to, record by record (SPEC 6.1).
use Rattle.std.specs.Prelude.{ℕ, zero, suc, ◌+◌, ◌*◌, ◌≤◌, ◌<◌, ◌≡◌, List, [], length, get_or, take, drop}
use Rattle.majority.specs.Table.{output, record_at}
use Rattle.translation.specs.Translate.{Draft, Placed, parts3, operations, translation}
use Rattle.majority.specs.declared.Record.{Record}
use Rattle.majority.specs.declared.Counts.{Counts}
use Rattle.translation.specs.declared.Mode.{Mode}
use Rattle.tables.specs.Bytes.{record_in, put_record}
use Rattle.tables.specs.Sound.{Table}
use Rattle.rm3.specs.inner.Turned.{Turned, Named}
use Rattle.rm3.specs.declared.writing.Writer.{Writer}

-- the RM3 table of an accepted table
abbrev pub made_of : Mode → Table → List Record
made_of mode t = translation mode t.counts.inputs t.counts.gates t.records

-- the bytes xs hold the table so far, from record 0 on, and the outputs so far, from record `first` on; past these they are the bytes ys
pub record Laid (ys : List ℕ) (first : ℕ) (ts os : List Record) (xs : List ℕ) : Type 0 where
  pub size : length xs ≡ length ys
  pub table : (i : ℕ) → i < length ts → record_in xs i ≡ record_at ts i
  pub outputs : (i : ℕ) → i < length os → record_in xs (first + i) ≡ record_at os i
  pub rest : drop (8 * (first + length os)) xs ≡ drop (8 * (first + length os)) ys

-- as the table grows from ts to ts' the bytes go from xs to xs', wherever there is room for it
pub record Grows (ts ts' : List Record) (xs xs' : List ℕ) : Type 0 where
  pub laid : (ys : List ℕ) (first : ℕ) (os : List Record) → length ts' ≤ first → 8 * (first + length os) ≤ length ys → Laid ys first ts os xs → Laid ys first ts' os xs'

-- the helper of node k in a list that has one place a node, 0 where it has none
abbrev pub helper_in : List ℕ → ℕ → ℕ
helper_in hs k = get_or hs k 0

-- a draft of `at` records, whose helpers are those in the list hs
pub record Drafted (at : ℕ) (hs : List ℕ) (d : Draft) : Type 0 where
  pub here : length d.table ≡ at
  pub room : length hs ≡ 1057
  pub helpers : (k : ℕ) → helper_in hs k ≡ d.helpers k

-- a draft of `at` records with the helpers hs, whichever it is, grows to one of `after` records with the helpers hs', as f makes it
pub record Writes (f : Draft → Draft) (at after : ℕ) (hs hs' xs xs' : List ℕ) : Type 0 where
  pub drafts : (d : Draft) → Drafted at hs d → Drafted after hs' (f d)
  pub grows : (d : Draft) → Drafted at hs d → Grows d.table (f d).table xs xs'

-- the same of an edge that gets the operand x, as p makes it
pub record Places (p : Draft → Placed) (at x after : ℕ) (hs hs' xs xs' : List ℕ) : Type 0 where
  pub near : after ≤ at + 1
  pub operand : (d : Draft) → Drafted at hs d → x ≡ (p d).operand
  pub writes : Writes (λ d. (p d).draft) at after hs hs' xs xs'

-- a writer that goes on in its mode and its buffer
pub record GoesOn (w w' : Writer) : Type 0 where
  pub mode : w'.mode ≡ w.mode
  pub lent : w'.out.ghost_name ≡ w.out.ghost_name
  pub size : length w'.out.now ≡ length w.out.now

-- the number of inputs and operations of the RM3 table
abbrev pub operands_in : Mode → List Record → Counts → ℕ
operands_in mode rs c = c.inputs + operations mode c.inputs c.gates rs

-- the records before record i are translated: `operands` begins with the operands of their nodes, hs has the helpers so far, and the bytes xs, which were ys,
-- begin with a table of `at` records where there is room for all
pub record Gone (mode : Mode) (c : Counts) (rs : List Record) (ys : List ℕ) (i at : ℕ) (operands hs xs : List ℕ) : Type 0 where
  pub draft : Draft
  pub drafted : Drafted at hs draft
  pub room : length operands ≡ 1057
  pub turned : Turned mode c.inputs c.gates rs i (take (suc i) operands) draft
  pub size : length xs ≡ length ys
  pub laid : 8 * operands_in mode rs c ≤ length ys → Laid ys (operands_in mode rs c) draft.table [] xs

-- so are all of them and the first j outputs, whose operands are the first of `named`
pub record Naming (mode : Mode) (c : Counts) (rs : List Record) (ys : List ℕ) (j at : ℕ) (operands hs named xs : List ℕ) : Type 0 where
  pub draft : Draft
  pub outputs : List Record
  pub drafted : Drafted at hs draft
  pub room : length named ≡ 32
  pub turned : Named mode c.inputs c.gates rs (take (suc (c.inputs + c.gates)) operands) j draft outputs
  pub names : (i : ℕ) → i < j → record_at outputs i ≡ output (get_or named i 0)
  pub size : length xs ≡ length ys
  pub laid : 8 * operands_in mode rs c ≤ length ys → Laid ys (operands_in mode rs c) draft.table [] xs

-- all inputs and operations, `first` in number, are laid in the bytes xs, which were ys, where there is room; `named` has the operand of each output
pub record Put (mode : Mode) (c : Counts) (rs : List Record) (ys : List ℕ) (first : ℕ) (named xs : List ℕ) : Type 0 where
  pub count : first ≡ operands_in mode rs c
  pub names : (j : ℕ) → j < c.outputs → record_at (parts3 mode c.inputs c.gates rs).outputs j ≡ output (get_or named j 0)
  pub size : length xs ≡ length ys
  pub laid : 8 * operands_in mode rs c ≤ length ys → Laid ys (operands_in mode rs c) (parts3 mode c.inputs c.gates rs).draft.table [] xs

-- the bytes xs with the first k outputs, of these operands, from record `first` on
unfoldable pub outputs_put : List ℕ → ℕ → ℕ → List ℕ → List ℕ
outputs_put named first zero xs = xs
outputs_put named first (suc k) xs = put_record (outputs_put named first k xs) (first + k) (output (get_or named k 0))
