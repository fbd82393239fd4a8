-- Every example of the sheet is answered as it says: one computation over the whole list.
use mathlib.Core.Path.{◌≡◌, refl}
use mathlib.Core.List.{map}
use Rattle.majority.specs.Node.{edge_worth, record_worth, worths, worth}
use Rattle.majority.specs.Value.{majority_of, output_value, number, output_number}
use Rattle.majority.specs.Level.{above, output_level, highest, depth}
use Rattle.majority.specs.Seek.{first_from}
use Rattle.majority.specs.Check.{kind_before, bad_kind_at, count, faulty, faulty_at, check_fields, check_kinds, check_records}
use Rattle.majority.specs.Edge.{flip, raise, redirect}
use Rattle.majority.specs.Edit.{redirect_all, insert, become}
use Rattle.rules.specs.Rules.{majority_form, majority_rule, associativity_form, associativity, outward_form, outward, opposite_form, opposite}
use Rattle.rules.specs.Voter.{among, pair_in, has_pair, pair_gate, pair_polarity, voter_form, copied, voter}
use Rattle.rules.specs.Sweep.{member, stays, renumber, close_up, sweep}
use Rattle.translation.specs.Translate.{class_of, middle, place, gate3, parts3, translation, operations}
use Rattle.rules.specs.Step.{rule_of, fields_fit, has_form, rewritten, step_by, step}
use Rattle.tables.specs.Field.{field_at}
use Rattle.tables.specs.Bytes.{decode, field_of, encode, holding}
use Rattle.tables.specs.Calls.{check_of, checked_of}
use Rattle.questions.specs.Calls.{evaluate_of, report_of}
use Rattle.rm3.specs.Calls.{rm3_of}
use Rattle.rewriting.specs.Calls.{holding_instead, step_table, step_of, step_bytes}
use Rattle.rewriting.specs.Script.{steps_from, run_by, script_by}
use Rattle.sheet.specs.Sheet.{Example, answer_to, sheet}

pub answered : map (λ (e : Example). answer_to e.question) sheet ≡ map (λ (e : Example). e.answer) sheet
unfolding evaluate_of report_of output_number number output_value depth highest output_level worth worths record_worth edge_worth majority_of above encode check_of checked_of decode field_of field_at check_records check_kinds check_fields bad_kind_at kind_before count faulty faulty_at first_from flip raise redirect redirect_all insert become majority_form majority_rule associativity_form associativity outward_form outward opposite_form opposite among pair_in has_pair pair_gate pair_polarity voter_form copied voter member stays renumber close_up sweep rule_of fields_fit has_form rewritten step_by step holding holding_instead step_table step_of step_bytes steps_from run_by script_by rm3_of class_of middle place gate3 parts3 translation operations
answered = refl
