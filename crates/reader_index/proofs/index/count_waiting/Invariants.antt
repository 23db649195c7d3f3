use Rattle.std.proofs.Common.{◌≡◌, not, take}
use Rattle.std.specs.Prelude.{count_by}
use Rattle.reader_index.specs.Tasks.{is_done}
use Rattle.reader_index.proofs.index.count_waiting.Given as goal

abbrev pub invariant-loop-place : goal.invariant-loop-place
invariant-loop-place l = l.waiting ≡ count_by (λ producer. not (is_done l.done producer)) (take l.place l.producers)
