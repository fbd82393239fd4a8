-- A call's reply (SPEC 3).
use Rattle.std.specs.Prelude.{Option, option_map, Result, Ok, Err}
use Rattle.refusals.specs.declared.Refusal.{Refusal}
use Rattle.refusals.specs.Why.{Why, why_of}

-- what f replies to what was accepted; a refusal stands
infixl 10 ◌>>=◌
abbrev pub ◌>>=◌ : {A B : Type 0} → Result A Refusal → (A → Result B Refusal) → Result B Refusal
(Ok x) >>= f = f x
(Err r) >>= f = Err r

-- a reply by numbers: what was asked for, or why it is refused
pub data Reply (A : Type 0) : Type 0 where
  accepted : A → Reply A
  refused : Why → Reply A

-- the reply of each case
abbrev pub said : {A : Type 0} → Result A Refusal → Reply A
said (Ok x) = accepted x
said (Err r) = refused (why_of r)

-- how a script ended, by numbers: with no refusal, or why it was stopped
abbrev pub said_end : Option Refusal → Option Why
said_end end = option_map why_of end
