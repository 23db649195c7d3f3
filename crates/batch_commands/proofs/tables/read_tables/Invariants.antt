use Rattle.std.proofs.Common.{◌≡◌, ◌++◌, IsTrue, All, length, map}
use Rattle.std.specs.Vec.Iter.{into_iter_items}
use Rattle.estate.specs.Contents.{KeepsContents}
use Rattle.batch_commands.specs.Tables.{with_files}
use Rattle.batch_commands.proofs.tables.read_tables.Given as goal

-- what was read, with what the rest will give, is what all tables give
abbrev pub invariant-loop-table : goal.invariant-loop-table
invariant-loop-table g l = let files = (g.I.Inputs.contents l.initial.inputs).files in record {
  keeps : KeepsContents (g.I.Inputs.contents l.initial.inputs) (g.I.Inputs.contents l.inputs);
  steady : (g.I.Inputs.contents l.inputs).faults ≡ (g.I.Inputs.contents l.initial.inputs).faults;
  right : IsTrue (g.I.Inputs.contents l.initial.inputs).told → All (λ table. table.files ≡ length (files table.table)) (into_iter_items l.table-iterator);
  read : IsTrue (g.I.Inputs.contents l.initial.inputs).told → l.rows.items ++ with_files files (map (λ table. table.table) (into_iter_items l.table-iterator))
      ≡ with_files files (map (λ table. table.table) l.fn.tables.items);
}
