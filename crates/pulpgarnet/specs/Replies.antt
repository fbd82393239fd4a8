-- The numbers of each reply (SPEC 10): the refusal, its record and its edge, all 0 for none, and then the call's own, all 0 where it is refused.
use Rattle.std.specs.Prelude.{ℕ, Option, None, Some, Result, Ok, Err}
use Rattle.std.specs.Result.{result_err}
use Rattle.refusals.specs.declared.Refusal.{Refusal}
use Rattle.refusals.specs.Why.{refusal_number, refusal_record, refusal_edge}
use Rattle.majority.specs.declared.Counts.{Counts}
use Rattle.questions.specs.declared.Size.{Size}
use Rattle.rewriting.specs.Script.{Run}
use Rattle.pulpgarnet.specs.declared.replies.Told.{Told}
use Rattle.pulpgarnet.specs.declared.replies.Checked.{Checked}
use Rattle.pulpgarnet.specs.declared.replies.Valued.{Valued}
use Rattle.pulpgarnet.specs.declared.replies.Reported.{Reported}
use Rattle.pulpgarnet.specs.declared.replies.Placed.{Placed}
use Rattle.pulpgarnet.specs.declared.replies.Stepped.{Stepped}
use Rattle.pulpgarnet.specs.declared.replies.Ran.{Ran}
use Rattle.pulpgarnet.specs.declared.replies.Written.{Written}
use Rattle.pulpgarnet.specs.declared.replies.Deep.{Deep}

-- a refusal's number, and 0 for none
abbrev pub number : Option Refusal → ℕ
number None = 0
number (Some r) = refusal_number r

-- the record that it carries, and 0 for none
abbrev pub place : Option Refusal → ℕ
place None = 0
place (Some r) = refusal_record r

-- which edge of it, and 0 for none
abbrev pub edge : Option Refusal → ℕ
edge None = 0
edge (Some r) = refusal_edge r

-- the three together
abbrev pub told_of : Option Refusal → Told
told_of end = record { refusal = number end; at = place end; edge = edge end }

-- how a call ended
abbrev pub end_of : {A : Type 0} → Result A Refusal → Option Refusal
end_of r = result_err r

-- a number of what was accepted, and 0 where the call was refused
abbrev pub or_zero : {A : Type 0} → Result A Refusal → (A → ℕ) → ℕ
or_zero (Ok x) f = f x
or_zero (Err r) f = 0

abbrev pub checked_reply : Result Counts Refusal → Checked
checked_reply r =
    record {
      refusal = number (end_of r);
      at = place (end_of r);
      edge = edge (end_of r);
      inputs = or_zero r (λ c. c.inputs);
      gates = or_zero r (λ c. c.gates);
      outputs = or_zero r (λ c. c.outputs);
    }

abbrev pub valued_reply : Result ℕ Refusal → Valued
valued_reply r = record { refusal = number (end_of r); at = place (end_of r); edge = edge (end_of r); outputs = or_zero r (λ v. v) }

abbrev pub reported_reply : Result Size Refusal → Reported
reported_reply r =
    record {
      refusal = number (end_of r);
      at = place (end_of r);
      edge = edge (end_of r);
      size = or_zero r (λ s. s.gates);
      depth = or_zero r (λ s. s.depth);
    }

abbrev pub placed_reply : Result ℕ Refusal → Placed
placed_reply r = record { refusal = number (end_of r); at = place (end_of r); edge = edge (end_of r); places = or_zero r (λ n. n) }

abbrev pub stepped_reply : Result ℕ Refusal → Stepped
stepped_reply r = record { refusal = number (end_of r); at = place (end_of r); edge = edge (end_of r); used = or_zero r (λ used. used) }

-- a script's own numbers stand also where it was stopped
abbrev pub ran_reply : Run → Ran
ran_reply r = record { refusal = number r.end; at = place r.end; edge = edge r.end; taken = r.taken; used = r.used }

abbrev pub written_reply : Result ℕ Refusal → Written
written_reply r = record { refusal = number (end_of r); at = place (end_of r); edge = edge (end_of r); length = or_zero r (λ l. l) }

abbrev pub deep_reply : Result ℕ Refusal → Deep
deep_reply r = record { refusal = number (end_of r); at = place (end_of r); edge = edge (end_of r); depth = or_zero r (λ d. d) }
