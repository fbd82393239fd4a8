-- The gates' records in chunks of eight bytes are those of the table.
use Rattle.std.proofs.Common.{◌≡◌, ℕ, zero, suc, ◌+◌, ◌-◌, ◌*◌, ◌/◌, ◌<◌, List, [], length, get_or, take, drop, sym, ap, ◌∙◌, arith, length-take, length-drop, get_or-take, get_or-drop}
use Rattle.std.specs.Simd.{first_chunks}
use Rattle.majority.specs.Table.{record_at, Below}
use Rattle.majority.specs.declared.Counts.{Counts}
use Rattle.tables.specs.Bytes.{record_in}
use Rattle.tables.specs.Field.{field_at}
use Rattle.tables.specs.Sound.{Sound, held, GatesIn}
use Rattle.tables.proofs.Sound.{sound_record, sound_below}

-- byte d of chunk i
chunk_byte : (k : ℕ) (xs : List ℕ) (i d j : ℕ) → i < k → d < 8 → j ≡ 8 * i + d → get_or (get_or (first_chunks 8 k xs) i []) d 0 ≡ get_or xs j 0
chunk_byte zero xs i d j h l e = absurd (omega arith)
chunk_byte (suc k) xs zero d j h l e =
    let on : d ≡ j = omega arith in
    get_or-take 8 xs d 0 l ∙ ap (λ (n : ℕ). get_or xs n 0) on
chunk_byte (suc k) xs (suc i) d j h l e =
    let on : 8 + (8 * i + d) ≡ j = omega arith in
    chunk_byte k (drop 8 xs) i d (8 * i + d) (omega arith) l (omega arith) ∙ get_or-drop 8 xs (8 * i + d) 0 ∙ ap (λ (n : ℕ). get_or xs n 0) on

chunk_record : (k : ℕ) (xs : List ℕ) (i : ℕ) → i < k → record_in (get_or (first_chunks 8 k xs) i []) 0 ≡ record_in xs i
unfolding field_at
chunk_record k xs i h =
    let byte = λ (d j : ℕ). chunk_byte k xs i d j h in
    let kind = byte 0 (8 * i) (omega arith) (omega arith) in
    let block = byte 1 (8 * i + 1) (omega arith) (omega arith) in
    let low1 = byte 2 (2 * (4 * i + 1)) (omega arith) (omega arith) in
    let high1 = byte 3 (2 * (4 * i + 1) + 1) (omega arith) (omega arith) in
    let low2 = byte 4 (2 * (4 * i + 2)) (omega arith) (omega arith) in
    let high2 = byte 5 (2 * (4 * i + 2) + 1) (omega arith) (omega arith) in
    let low3 = byte 6 (2 * (4 * i + 3)) (omega arith) (omega arith) in
    let high3 = byte 7 (2 * (4 * i + 3) + 1) (omega arith) (omega arith) in
    rw (kind, block, low1, high1, low2, high2, low3, high3)

pub gates_in : {xs : List ℕ} {c : Counts} (sound : Sound xs c) (bs : List (List ℕ)) → bs ≡ first_chunks 8 (length xs / 8) xs → length bs ≡ length xs / 8
    → GatesIn (held xs c) (take (c.inputs + c.gates - c.inputs) (drop c.inputs bs))
gates_in {xs} {c} sound bs is long = record { many = omega (arith, sound.fits, length-take (c.inputs + c.gates - c.inputs) (drop c.inputs bs), length-drop c.inputs bs); each = each; below = below }
  where
    here : (i : ℕ) → i < c.gates → record_in (get_or (take (c.inputs + c.gates - c.inputs) (drop c.inputs bs)) i []) 0 ≡ record_in xs (c.inputs + i)
    here i h =
        let there = get_or-take (c.inputs + c.gates - c.inputs) (drop c.inputs bs) i [] (omega arith) ∙ get_or-drop c.inputs bs i [] ∙ ap (λ (l : List (List ℕ)). get_or l (c.inputs + i) []) is in
        rw there (chunk_record (length xs / 8) xs (c.inputs + i) (omega (arith, sound.fits)))

    each : (i : ℕ) → i < c.gates → record_in (get_or (take (c.inputs + c.gates - c.inputs) (drop c.inputs bs)) i []) 0 ≡ record_at (held xs c).records (c.inputs + i)
    each i h = here i h ∙ sym (sound_record sound (c.inputs + i) (omega arith))

    below : (i : ℕ) → i < c.gates → Below 1057 (record_in (get_or (take (c.inputs + c.gates - c.inputs) (drop c.inputs bs)) i []) 0)
    below i h = rw (here i h) (sound_below sound (c.inputs + i) (omega arith))
