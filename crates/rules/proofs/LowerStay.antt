-- Every rule but sweep leaves the records of the nodes below its gate as they were.
use Prim.Native.Nat.{ℕ, suc, ◌+◌, ◌-◌, ◌*◌, ◌≤◌, ◌<◌}
use mathlib.Core.Path.{◌≡◌, refl, ◌∙◌}
use mathlib.Core.Bool.{false, true≢false}
use mathlib.Core.List.{List}
use native.Mathlib.Omega.{arith}
use lib.ListN.{length}
use Rattle.majority.specs.Table.{record_at}
use Rattle.majority.specs.Edit.{redirect_all, insert, become}
use Rattle.majority.specs.declared.Record.{Record}
use Rattle.rules.specs.Rules.{exchange, majority_rule, associativity, outward, inward, inversion, share, opposite}
use Rattle.rules.specs.Voter.{voter}
use Rattle.rules.specs.Step.{is_sweep, rewritten}
use Rattle.rules.specs.declared.Rule.{Rule}
use Rattle.rules.specs.declared.Rule.TheVariants.{Exchange, Majority, Associativity, Outward, Inward, Inversion, Share, Sweep, Voter, Opposite}
use Rattle.rules.proofs.GateNodes.{GateOf}
use Rattle.rules.proofs.Become.{become_other}
use Rattle.rules.proofs.Insert.{insert_below}
use Rattle.rules.proofs.Redirect.{redirect_below}

module _ {n m o g : ℕ} {rs : List Record} (is : GateOf n m o g rs) (j : ℕ) (lower : suc j < g) where
  some : 0 < g
  some = omega (arith, is.from)

  inside : g - 1 ≤ length rs
  inside = omega (arith, is.formed.whole, is.upto)

  -- a gate from g on becomes another
  become_stays : (k : ℕ) → g ≤ k → (s : Record) (ts : List Record) → record_at ts j ≡ record_at rs j → record_at (become k s ts) j ≡ record_at rs j
  become_stays k h s ts same = become_other k s ts j (λ e. omega arith) ∙ same

  redirect_stays : (e : ℕ) → record_at (redirect_all g e rs) j ≡ record_at rs j
  redirect_stays e = redirect_below is.formed g e some j (omega (arith, inside)) (omega arith)

  -- gates are inserted before g, and a gate from g on becomes another
  grown_stays : (k : ℕ) → g ≤ k → (s : Record) (news : List Record) → record_at (become k s (insert g news rs)) j ≡ record_at rs j
  grown_stays k h s news = become_stays k h s (insert g news rs) (insert_below is.formed g news some inside j (omega arith))

  pub lower_stays : (rule : Rule) → is_sweep rule ≡ false → (a b : ℕ) → record_at (rewritten n rs rule g a b) j ≡ record_at rs j
  unfolding rewritten exchange majority_rule associativity outward inward inversion share voter opposite
  lower_stays Exchange other a b = become_stays g (omega arith) _ rs refl
  lower_stays Majority other a b = redirect_stays _
  lower_stays Associativity other a b = grown_stays (g + 1) (omega arith) _ _
  lower_stays Outward other a b = grown_stays (g + 2) (omega arith) _ _
  lower_stays Inward other a b = grown_stays (g + 1) (omega arith) _ _
  lower_stays Inversion other a b = become_stays g (omega arith) _ _ (redirect_stays _)
  lower_stays Share other a b = redirect_stays _
  lower_stays Sweep other a b = absurd (true≢false other)
  lower_stays Voter other a b = grown_stays (g + 3 * (g - n)) (omega arith) _ _
  lower_stays Opposite other a b = redirect_stays _
