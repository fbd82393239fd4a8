-- Each entry of the catalogue computes its own number: one test, at every entry, that antt computes.
use Prim.Native.Nat.{ℕ, zero, suc, ◌+◌, ◌<◌}
use mathlib.Core.Path.{◌≡◌, refl, sym, ap, ◌∙◌}
use mathlib.Core.Bool.{Bool, true, false, true≢false, ◌&&◌}
use mathlib.Core.List.{List}
use native.Mathlib.Omega.{arith}
use borrow.Author.Tests.{eqb-true, leb-true}
use lib.Dec.{eqb, leb}
use lib.ListN.{length, get_or}
use Rattle.std.specs.Prelude.{if◌then◌else◌, Result, Ok, Err}
use Rattle.majority.specs.Node.{edge_worth, record_worth, worths, worth}
use Rattle.majority.specs.Value.{bit, majority_of, output_value, number, output_number}
use Rattle.majority.specs.Seek.{first_from}
use Rattle.majority.specs.Check.{counts, kind_before, bad_kind_at, count, faulty, faulty_at, check_fields, check_kinds, check_records}
use Rattle.majority.specs.declared.Counts.{Counts}
use Rattle.majority.proofs.Logic.{both}
use Rattle.majority.proofs.Every.{every, every_at}
use Rattle.majority.proofs.Numbers.{number_low, number_bit}
use Rattle.majority.proofs.Accepted.{acceptance}
use Rattle.rules.specs.Sweep.{member, reached}
use Rattle.catalogue.specs.Entries.{entries}
use Rattle.catalogue.specs.Networks.{digit, gate_count, gates_of, network_of, entry_of, network}
use Rattle.catalogue.specs.Computes.{Computes}
use Rattle.refusals.specs.declared.Refusal.{Refusal}

-- a check was accepted with these counts
accepted_as : Counts → Result Counts Refusal → Bool
accepted_as c (Ok d) = eqb d.inputs c.inputs && (eqb d.gates c.gates && eqb d.outputs c.outputs)
accepted_as c (Err w) = false

accepted_as_lem : (c : Counts) (r : Result Counts Refusal) → accepted_as c r ≡ true → r ≡ Ok c
unfolding accepted_as
accepted_as_lem c (Ok d) t =
    let i = both (eqb d.inputs c.inputs) _ t in
    let g = both (eqb d.gates c.gates) _ i.1 in
    let inputs = eqb-true _ _ i.0 in
    let gates = eqb-true _ _ g.0 in
    let outputs = eqb-true _ _ g.1 in
    ap Ok (λ k. record { inputs = inputs k; gates = gates k; outputs = outputs k })
accepted_as_lem c (Err w) t = absurd (true≢false (sym t))

-- the nodes from g on, k of them, are among those reached
all_among : ℕ → ℕ → List ℕ → Bool
all_among g zero nodes = true
all_among g (suc k) nodes = member g nodes && all_among (suc g) k nodes

all_among_lem : (g k : ℕ) (nodes : List ℕ) → all_among g k nodes ≡ true → (j : ℕ) → j < k → member (g + j) nodes ≡ true
unfolding all_among
all_among_lem g zero nodes t j h = absurd (omega arith)
all_among_lem g (suc k) nodes t zero h = let e : g + 0 ≡ g = omega arith in rw e (both (member g nodes) (all_among (suc g) k nodes) t).0
all_among_lem g (suc k) nodes t (suc j) h =
    let e : g + suc j ≡ suc g + j = omega arith in
    rw e (all_among_lem (suc g) k nodes (both (member g nodes) (all_among (suc g) k nodes) t).1 j (omega arith))

-- the output under assignment k is true
output_is : ℕ → ℕ → Bool
output_is x k = eqb (output_number k 3 (gate_count x) 1 (network_of x)) 1

-- the entry x at n has at most seven gates, the check accepts its table, so that each gate reads only lower nodes, each gate is reached, and the
-- outputs under assignments 0 to 7 are the bits of n
right : ℕ → ℕ → Bool
right n x =
    leb (gate_count x) 7
    && (accepted_as (counts 3 (gate_count x) 1) (check_records (network_of x))
    && (all_among 4 (gate_count x) (reached (network_of x))
    && eqb (number (output_is x) 8) n))

passes : every right 0 entries ≡ true
unfolding right accepted_as all_among output_is entries digit gates_of network_of check_records check_kinds check_fields bad_kind_at kind_before count faulty faulty_at first_from member output_number number output_value worth worths record_worth edge_worth majority_of
passes = refl

many : length entries ≡ 256
unfolding entries
many = refl

-- a number below 2, by whether it is 1
one_or_none : (v : ℕ) → v < 2 → v ≡ (if eqb v 1 then 1 else 0)
one_or_none zero h = refl
one_or_none (suc zero) h = refl
one_or_none (suc (suc v)) h = absurd (omega arith)

-- the table of the function with the number n computes it
pub network_computes : (n : ℕ) → n < 256 → Computes n (gate_count (entry_of n)) (network n)
unfolding right output_is output_number entry_of
network_computes n h =
    let x = get_or entries n 0 in
    let t = every_at right entries passes n (omega (arith, many)) in
    let few = both (leb (gate_count x) 7) _ t in
    let sound = both (accepted_as (counts 3 (gate_count x) 1) (check_records (network_of x))) _ few.1 in
    let reach = both (all_among 4 (gate_count x) (reached (network_of x))) _ sound.1 in
    let is = accepted_as_lem _ _ sound.0 in
    record {
      few = leb-true _ _ few.0;
      accepted_is = is;
      formed = (acceptance 3 (gate_count x) 1 (network_of x) is).formed;
      all_reached = all_among_lem 4 (gate_count x) (reached (network_of x)) reach.0;
      outputs = λ k l. one_or_none _ (number_low (output_value k 3 (gate_count x) (network_of x)) 1) ∙ ap (λ (b : Bool). if b then 1 else 0) (sym (number_bit (output_is x) 8 k l) ∙ ap (λ (v : ℕ). bit v k) (eqb-true _ _ reach.1));
    }
