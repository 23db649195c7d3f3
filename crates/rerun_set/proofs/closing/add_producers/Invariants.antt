use Rattle.std.proofs.Common.{take}
use Rattle.std.specs.Prelude.{Contains}
use Rattle.reader_index.specs.declared.read.Read.{Read}
use Rattle.rerun_set.specs.Found.{Finds}
use Rattle.rerun_set.proofs.Leading.{Led}
use Rattle.rerun_set.proofs.closing.add_producers.Given as goal

abbrev pub invariant-loop-read : goal.invariant-loop-read
invariant-loop-read l = Finds l.initial.again (Led (λ (read : Read). read.producer) (Contains l.lost) (take l.read-index l.read-items)) l.again
