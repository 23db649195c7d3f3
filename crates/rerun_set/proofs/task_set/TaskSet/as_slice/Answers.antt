use Rattle.std.proofs.Common.{List, ℕ, sym, subst}
use Rattle.std.specs.Prelude.{◌≢◌, AllPairs}
use Rattle.rerun_set.proofs.Finding.{once_from_distinct}
use Rattle.rerun_set.proofs.task_set.TaskSet.as_slice.Goals as goal

pub returns-clause-once : goal.returns-clause-once
returns-clause-once c =
    subst (λ (l : List ℕ). AllPairs ◌≢◌ l) (sym c.as_slice.ensures.keys) (once_from_distinct c.self.inside.numbers.keys c.as_slice.ensures.unique)
