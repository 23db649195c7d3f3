use Rattle.std.proofs.Common.{◌≡◌, IsTrue, take}
use Rattle.estate.specs.Contents.{KeepsContents}
use Rattle.batch_commands.proofs.tables.read_files.Given as goal

abbrev pub invariant-loop-file : goal.invariant-loop-file
invariant-loop-file g l = record {
  keeps : KeepsContents (g.I.Inputs.contents l.initial.inputs) (g.I.Inputs.contents l.inputs);
  steady : (g.I.Inputs.contents l.inputs).faults ≡ (g.I.Inputs.contents l.initial.inputs).faults;
  read : IsTrue (g.I.Inputs.contents l.initial.inputs).told → l.texts.items ≡ take l.file ((g.I.Inputs.contents l.initial.inputs).files l.table);
}
