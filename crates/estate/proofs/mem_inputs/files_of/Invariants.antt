use Rattle.std.proofs.Common.{◌≡◌, drop}
use Rattle.estate.specs.Contents.{files_in}
use Rattle.estate.proofs.mem_inputs.files_of.Given as goal

abbrev pub invariant-loop-table : goal.invariant-loop-table
invariant-loop-table l = files_in (drop l.table-index l.tables) l.name ≡ files_in l.tables l.name
