-- Stored scripts (SPEC 5.8): rule 2 once took opposite edges too, and no rule had the number 10. A script of that time is converted, and gives what it gave.
use Rattle.std.specs.Prelude.{ℕ, zero, suc, ◌+◌, ◌*◌, ◌/◌, ◌%◌, ◌<◌, ◌≡◌, Bool, not, ◌&&◌, ◌||◌, List, ltb, eqb, length, if◌then◌else◌, Result, Ok, Err}
use Rattle.majority.specs.Edge.{flip}
use Rattle.majority.specs.Edit.{node_record, redirect_all}
use Rattle.majority.specs.declared.Record.{Record}
use Rattle.rules.specs.Rules.{opposite_form}
use Rattle.rules.specs.Step.{fields_fit, inserted, step}
use Rattle.rules.specs.declared.Step.{Step}
use Rattle.rules.specs.declared.Rule.TheVariants.{Majority}
use Rattle.tables.specs.Field.{put_field}
use Rattle.tables.specs.Bytes.{table_of}
use Rattle.tables.specs.Calls.{check_of}
use Rattle.rewriting.specs.Calls.{after_reply}
use Rattle.rewriting.specs.Script.{Run, step_at, by_reply, script_by, script_run}
use Rattle.refusals.specs.declared.Refusal.{Refusal}
use Rattle.refusals.specs.declared.Refusal.TheVariants as refusal
use Rattle.refusals.specs.Reply.{◌>>=◌}

-- 2. Majority, as it was. First two edges equal: redirect g to the first. First two opposite: redirect g to the third
abbrev pub majority_form_before : Record → Bool
majority_form_before r = eqb r.e2 r.e1 || eqb r.e2 (flip r.e1)

abbrev pub majority_edge_before : Record → ℕ
majority_edge_before r = if eqb r.e2 r.e1 then r.e1 else r.e3

abbrev pub majority_rule_before : ℕ → List Record → List Record
majority_rule_before g rs = redirect_all g (majority_edge_before (node_record rs g)) rs

-- a step of it: refusals 8 to 11 in their order, or the table that it made
unfoldable pub majority_step_before : ℕ → ℕ → ℕ → List Record → ℕ → ℕ → ℕ → Result (List Record) Refusal
majority_step_before bytes n m rs g a b =
    if not (fields_fit n m Majority g a b) then Err refusal.Field
    else if not (majority_form_before (node_record rs g)) then Err refusal.Form
    else if ltb 1024 (m + inserted n Majority g) then Err refusal.Gates
    else if ltb bytes (8 * (length rs + inserted n Majority g)) then Err refusal.Room
    else Ok (majority_rule_before g rs)

-- a step as it was: 7 where it is numbered 10, that rule where it is numbered 2, and else what it is now
unfoldable pub step_before : ℕ → ℕ → ℕ → List Record → Step → Result (List Record) Refusal
step_before bytes n m rs s =
    if eqb s.rule 10 then Err refusal.Rule
    else if eqb s.rule 2 then majority_step_before bytes n m rs s.gate s.a s.b
    else step bytes n m rs s

-- the table that it made of the one in the first `used` bytes of xs, or the refusal; what it replied; and the bytes that it left
unfoldable pub step_table_before : List ℕ → ℕ → Step → Result (List Record) Refusal
step_table_before xs used s = do
  c ← check_of xs used
  step_before (length xs) c.inputs c.gates (table_of xs (used / 8)) s

unfoldable pub step_of_before : List ℕ → ℕ → Step → Result ℕ Refusal
step_of_before xs used s = do
  t ← step_table_before xs used s
  Ok (8 * length t)

unfoldable pub step_bytes_before : List ℕ → ℕ → Step → List ℕ
step_bytes_before xs used s = after_reply (step_table_before xs used s) used xs

-- a script as it ran
abbrev pub script_run_before : List ℕ → ℕ → List ℕ → Run
script_run_before = script_by step_of_before step_bytes_before

-- the step is numbered 2, and meets opposite edges: the first two of its gate
abbrev pub meets_opposite : List Record → Step → Bool
meets_opposite rs s = eqb s.rule 2 && opposite_form (node_record rs s.gate)

-- step i of the script is numbered 10 where `opposite` says so: its first field. Every other byte stays
abbrev pub renumbered : Bool → ℕ → List ℕ → List ℕ
renumbered opposite i script = if opposite then put_field script (4 * i) 10 else script

-- k steps of a script, from step i on, converted along their run as it was: 2 becomes 10 where a step was taken that met opposite edges. Where one was refused, that one and those after it stay
unfoldable pub converted_from : ℕ → ℕ → List ℕ → ℕ → List ℕ → List ℕ
converted_from i zero xs used script = script
converted_from i (suc k) xs used script =
    let s = step_at script i in
    by_reply (step_of_before xs used s)
    (λ next. converted_from (suc i) k (step_bytes_before xs used s) next (renumbered (meets_opposite (table_of xs (used / 8)) s) i script))
    (λ w. script)

-- a script converted for the table in the first `used` bytes of xs; one whose length is no multiple of 8 took no step, and stays
abbrev pub converted : List ℕ → ℕ → List ℕ → List ℕ
converted xs used script = if eqb (length script % 8) 0 then converted_from 0 (length script / 8) xs used script else script

-- no step of the script is numbered 10
abbrev pub Without10 : List ℕ → Type 0
Without10 script = (i : ℕ) → i < length script / 8 → (step_at script i).rule ≡ 10 → ⊥

-- for every buffer and used length, and every script without a step numbered 10: converted for that table it runs now as it ran before, in steps taken, ending, used length and every byte
unfoldable pub Conversion : Type 0
Conversion =
    (xs : List ℕ) (used : ℕ) (script : List ℕ)
    → Without10 script
    → script_run xs used (converted xs used script) ≡ script_run_before xs used script
