-- A script's reply is told apart from another by its numbers, whatever bytes it left: a promise has one reply.
use Rattle.std.proofs.Common.{◌≡◌, ℕ, List}
use Rattle.refusals.specs.Reply.{said_end}
use Rattle.refusals.proofs.SaidOnce.{end_once}
use Rattle.rewriting.specs.Script.{Run, run_of}
use Rattle.rewriting.specs.declared.Progress.{Progress}

-- the runs have the same numbers: so many steps taken, the end by its numbers, the used length
pub record SaidAlike (p q : Run) : Type 0 where
  pub taken : p.taken ≡ q.taken
  pub end : said_end p.end ≡ said_end q.end
  pub used : p.used ≡ q.used

pub said_script_once : (p q : Progress) (xs ys : List ℕ) → SaidAlike (run_of p xs) (run_of q ys) → p ≡ q
said_script_once p q xs ys alike =
    let end = end_once p.refusal q.refusal alike.end in
    λ d. record { taken = alike.taken d; used = alike.used d; refusal = end d }
