use Rattle.std.proofs.Common.{◌≡◌, ◌<◌, ℕ, get_or, true}
use Rattle.reader_index.specs.Tasks.{is_done}
use Rattle.rerun_set.proofs.closing.has_open_reader.Given as goal

abbrev pub invariant-loop-reader : goal.invariant-loop-reader
invariant-loop-reader l = (k : ℕ) → k < l.reader-index → is_done l.tasks.done (get_or l.reader-items k 0) ≡ true
