use Rattle.std.proofs.Common.{◌≡◌, ◌+◌, vec_len}
use Rattle.worker_pool.proofs.crew.passes_of.Given as goal

abbrev pub invariant-loop-worker : goal.invariant-loop-worker
invariant-loop-worker g l = vec_len l.passes + vec_len l.crew ≡ vec_len l.fn.crew

abbrev pub decreases-loop-worker : goal.decreases-loop-worker
decreases-loop-worker g l = vec_len l.crew
