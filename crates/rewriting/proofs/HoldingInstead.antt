-- A table in place of another: one that has not shrunk is held at the buffer's front, one that has is held with cleared records behind it.
use Rattle.std.proofs.Common.{◌≡◌, ℕ, zero, suc, ◌+◌, ◌-◌, ◌*◌, ◌≤◌, List, [], ◌∷◌, ◌++◌, length, drop, replicate, sym, refl, ap, ◌∙◌, append_assoc, arith, length-append, drop-drop, drop_at}
use lib.ListN.{length-replicate, replicate-append-replicate}
use Rattle.majority.specs.Table.{blank}
use Rattle.majority.specs.declared.Record.{Record}
use Rattle.tables.specs.Bytes.{record_bytes, encode, holding}
use Rattle.rewriting.specs.Calls.{holding_instead}

-- encoding goes record by record
encode_append : (t u : List Record) → encode (t ++ u) ≡ encode t ++ encode u
unfolding encode
encode_append [] u = refl
encode_append (r ∷ t) u = ap (record_bytes r) (encode_append t u)

-- cleared records are zeros
encode_blank : (k : ℕ) → encode (replicate k blank) ≡ replicate (8 * k) 0
unfolding encode
encode_blank zero = refl
encode_blank (suc k) =
    let e : 8 * suc k ≡ 8 + 8 * k = omega arith in
    ap (record_bytes blank) (encode_blank k) ∙ replicate-append-replicate 8 (8 * k) 0 ∙ ap (λ (n : ℕ). replicate n 0) (sym e)

-- a table that is at least as long as the old
pub instead_long : (t : List Record) (used : ℕ) (xs : List ℕ) → used ≤ 8 * length t → holding_instead t used xs ≡ holding t xs
unfolding holding_instead holding
instead_long t used xs h =
    let more = 8 * length t - used in
    let e : 8 * length t ≡ used + more = omega arith in
    let zeros : List ℕ = replicate used 0 in
    ap (λ (ys : List ℕ). encode t ++ ys)
    (ap (λ (k : ℕ). drop k (zeros ++ drop used xs)) e
    ∙ sym (drop-drop more used (zeros ++ drop used xs))
    ∙ ap (drop more) (drop_at zeros (drop used xs) used (length-replicate used 0))
    ∙ drop-drop more used xs
    ∙ ap (λ (k : ℕ). drop k xs) (sym e))

-- one that is k records shorter
pub instead_short : (t : List Record) (k used : ℕ) (xs : List ℕ) → used ≡ 8 * (length t + k) → holding_instead t used xs ≡ holding (t ++ replicate k blank) xs
unfolding holding_instead holding
instead_short t k used xs e =
    let n = 8 * length t in
    let zeros : List ℕ = replicate (8 * k) 0 in
    let rest = drop used xs in
    let sum : used ≡ n + 8 * k = omega arith in
    let end : used ≡ 8 * length (t ++ replicate k blank) = omega (arith, length-append t (replicate k blank), length-replicate k blank) in
    let split : replicate used 0 ≡ replicate n 0 ++ zeros = ap (λ (j : ℕ). replicate j 0) sum ∙ sym (replicate-append-replicate n (8 * k) 0) in
    let apart : replicate used 0 ++ rest ≡ replicate n 0 ++ (zeros ++ rest) = ap (λ (ys : List ℕ). ys ++ rest) split ∙ append_assoc (replicate n 0) zeros rest in
    let behind : drop n (replicate used 0 ++ rest) ≡ zeros ++ rest = ap (drop n) apart ∙ drop_at (replicate n 0) (zeros ++ rest) n (length-replicate n 0) in
    ap (λ (ys : List ℕ). encode t ++ ys) behind
    ∙ sym (append_assoc (encode t) zeros rest)
    ∙ ap (λ (ys : List ℕ). ys ++ rest) (sym (encode_append t (replicate k blank) ∙ ap (λ (ys : List ℕ). encode t ++ ys) (encode_blank k)))
    ∙ ap (λ (j : ℕ). encode (t ++ replicate k blank) ++ drop j xs) end
