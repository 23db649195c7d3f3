use Rattle.std.proofs.Common.{◌≡◌, take, length, map}
use Rattle.estate.proofs.mem_inputs.sizes_of.Given as goal

abbrev pub invariant-loop-file : goal.invariant-loop-file
invariant-loop-file l = l.sizes ≡ map length (take l.file-index l.files)
