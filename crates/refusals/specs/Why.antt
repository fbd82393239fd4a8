-- The numbers of each refusal (SPEC 3).
use Rattle.std.specs.Prelude.{ℕ}
use Rattle.refusals.specs.declared.Refusal.{Refusal}
use Rattle.refusals.specs.declared.Refusal.TheVariants.{Length, Kind, Count, NotZero, Edge, Assignment, Rule, Field, Form, Gates, Room, Script, Inputs, Function}

-- why a call is refused: the refusal's number, the record that it carries, and which edge of that record, each 0 where it carries none
pub record Why : Type 0 where
  pub number : ℕ
  pub place : ℕ
  pub edge : ℕ

abbrev pub refusal_number : Refusal → ℕ
refusal_number Length = 1
refusal_number (Kind i) = 2
refusal_number Count = 3
refusal_number (NotZero i) = 4
refusal_number (Edge i e) = 5
refusal_number Assignment = 6
refusal_number Rule = 7
refusal_number Field = 8
refusal_number Form = 9
refusal_number Gates = 10
refusal_number Room = 11
refusal_number Script = 12
refusal_number Inputs = 15
refusal_number Function = 17

abbrev pub refusal_record : Refusal → ℕ
refusal_record Length = 0
refusal_record (Kind i) = i
refusal_record Count = 0
refusal_record (NotZero i) = i
refusal_record (Edge i e) = i
refusal_record Assignment = 0
refusal_record Rule = 0
refusal_record Field = 0
refusal_record Form = 0
refusal_record Gates = 0
refusal_record Room = 0
refusal_record Script = 0
refusal_record Inputs = 0
refusal_record Function = 0

abbrev pub refusal_edge : Refusal → ℕ
refusal_edge Length = 0
refusal_edge (Kind i) = 0
refusal_edge Count = 0
refusal_edge (NotZero i) = 0
refusal_edge (Edge i e) = e
refusal_edge Assignment = 0
refusal_edge Rule = 0
refusal_edge Field = 0
refusal_edge Form = 0
refusal_edge Gates = 0
refusal_edge Room = 0
refusal_edge Script = 0
refusal_edge Inputs = 0
refusal_edge Function = 0

-- the numbers of a case of the enum
abbrev pub why_of : Refusal → Why
why_of r = record { number = refusal_number r; place = refusal_record r; edge = refusal_edge r }
