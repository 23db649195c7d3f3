use Rattle.std.proofs.Common.{◌≡◌, ℕ, take, true}
use Rattle.reader_index.specs.Tasks.{is_done}
use Rattle.rerun_set.specs.Found.{Finds}
use Rattle.rerun_set.proofs.Leading.{Led}
use Rattle.rerun_set.proofs.closing.add_readers.Given as goal

abbrev pub invariant-loop-reader : goal.invariant-loop-reader
invariant-loop-reader l = Finds l.initial.again (Led (λ (n : ℕ). n) (λ n. is_done l.tasks.done n ≡ true) (take l.reader-index l.reader-items)) l.again
