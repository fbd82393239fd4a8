-- What the RM3 table keeps of the first table, whatever scripts were run before.
use Prim.Native.Nat.{ℕ}
use mathlib.Core.Path.{◌≡◌, ◌∙◌}
use mathlib.Core.List.{List}
use Rattle.majority.specs.Check.{counts}
use Rattle.translation.specs.Translate.{translation, operations}
use Rattle.translation.specs.declared.Mode.{Mode}
use Rattle.majority.specs.declared.Record.{Record}
use Rattle.translation.proofs.Rm3Formed.{translated_formed}
use Rattle.translation.proofs.Rm3Laws.{translated_outputs, translated_depth}
use Rattle.translation.proofs.Rm3Size.{translated_size}
use Rattle.rm3.proofs.Replies.{reply_table}
use Rattle.demands.specs.Demand3.{After, table_after, Keeps, reply_after, rm3_after, KeepsRm3, Demand3, Demand3Rm3}
use Rattle.demands.proofs.Demand3.{demand_3}
use Rattle.std.specs.Prelude.{Ok}

module _ {n m o : ℕ} {first : List Record} {after : After} (k : Keeps n m o first after) (mode : Mode) (out : List ℕ) (l : ℕ) (is : reply_after mode after out ≡ Ok l) where
  -- the bytes hold the translation of the table that the scripts left
  held : rm3_after mode after out l ≡ translation mode n k.gates (table_after after)
  held = reply_table mode after.bytes after.used out l (counts n k.gates o) k.holds is

  keeps_rm3 : KeepsRm3 n m o first after (rm3_after mode after out l)
  keeps_rm3 = record {
    gates = k.gates;
    operations = operations mode n k.gates (table_after after);
    holds = k.holds;
    formed = rw held (translated_formed k.formed mode);
    outputs = λ a j h. rw held (translated_outputs k.formed mode a j h) ∙ k.outputs a j h;
    few = translated_size k.formed mode;
    deep = rw held (translated_depth k.formed mode);
  }

pub demand_3_rm3 : Demand3Rm3
unfolding Demand3Rm3 Demand3
demand_3_rm3 xs used scripts mode out n m o l is made = keeps_rm3 (demand_3 xs used scripts n m o is) mode out l made
