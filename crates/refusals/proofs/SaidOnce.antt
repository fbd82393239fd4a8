-- No two refusals have the same numbers, so that a promise has one reply.
use Prim.Native.Nat.{◌-◌}
use mathlib.Core.Path.{◌≡◌, refl, sym, ap, ◌∙◌}
use mathlib.Core.List.{[], ◌∷◌}
use lib.ListN.{get_or}
use Rattle.refusals.specs.declared.Refusal.{Refusal}
use Rattle.refusals.specs.declared.Refusal.TheVariants.{Length, Kind, Count, NotZero, Edge, Assignment, Rule, Field, Form, Gates, Room, Script, Inputs, Function}
use Rattle.refusals.specs.Why.{Why, why_of}
use Rattle.refusals.specs.Reply.{Reply, accepted, refused, said, said_end}
use Rattle.std.specs.Prelude.{Option, Some, None, option_map, Result, Ok, Err}

-- the refusal of these numbers; where none has them, as 13, 14 and 16, any
pub refusal_of : Why → Refusal
refusal_of w =
    let i = w.place in
    get_or
    (Length ∷ Kind i ∷ Count ∷ NotZero i ∷ Edge i w.edge ∷ Assignment ∷ Rule ∷ Field ∷ Form ∷ Gates ∷ Room ∷ Script ∷ Length ∷ Length ∷ Inputs ∷ Length ∷ Function ∷ [])
    (w.number - 1)
    Length

pub refusal_back : (r : Refusal) → refusal_of (why_of r) ≡ r
unfolding refusal_of
refusal_back Length = refl
refusal_back (Kind i) = refl
refusal_back Count = refl
refusal_back (NotZero i) = refl
refusal_back (Edge i e) = refl
refusal_back Assignment = refl
refusal_back Rule = refl
refusal_back Field = refl
refusal_back Form = refl
refusal_back Gates = refl
refusal_back Room = refl
refusal_back Script = refl
refusal_back Inputs = refl
refusal_back Function = refl

pub refusal_once : (a b : Refusal) → why_of a ≡ why_of b → a ≡ b
refusal_once a b e = sym (refusal_back a) ∙ ap refusal_of e ∙ refusal_back b

-- a reply is told apart from another: a promise has one reply
pub reply_once : {A : Type 0} (a b : Result A Refusal) → said a ≡ said b → a ≡ b
reply_once {A = A} a b e = sym (undone a) ∙ ap back e ∙ undone b
  where
    back : Reply A → Result A Refusal
    back (accepted x) = Ok x
    back (refused w) = Err (refusal_of w)

    undone : (r : Result A Refusal) → back (said r) ≡ r
    undone (Ok x) = refl
    undone (Err r) = ap Err (refusal_back r)

-- and so is the end of a script
pub end_once : (a b : Option Refusal) → said_end a ≡ said_end b → a ≡ b
end_once a b e = sym (undone a) ∙ ap (option_map refusal_of) e ∙ undone b
  where
    undone : (r : Option Refusal) → option_map refusal_of (said_end r) ≡ r
    undone None = refl
    undone (Some r) = ap Some (refusal_back r)
