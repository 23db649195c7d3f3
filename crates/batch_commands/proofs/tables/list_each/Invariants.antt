use Rattle.std.proofs.Common.{◌≡◌, ◌++◌, IsTrue}
use Rattle.std.specs.Vec.Iter.{into_iter_items}
use Rattle.estate.specs.Contents.{KeepsContents}
use Rattle.batch_commands.specs.Tables.{listed}
use Rattle.batch_commands.proofs.tables.list_each.Given as goal

-- what is listed, with what the rest will give, is what all names give
abbrev pub invariant-loop-table : goal.invariant-loop-table
invariant-loop-table g l = record {
  keeps : KeepsContents (g.I.Inputs.contents l.initial.inputs) (g.I.Inputs.contents l.inputs);
  steady : (g.I.Inputs.contents l.inputs).faults ≡ (g.I.Inputs.contents l.initial.inputs).faults;
  all : IsTrue (g.I.Inputs.contents l.initial.inputs).told → l.tables.items ++ listed (g.I.Inputs.contents l.initial.inputs).files (into_iter_items l.table-iterator)
      ≡ listed (g.I.Inputs.contents l.initial.inputs).files l.fn.names.items;
}
