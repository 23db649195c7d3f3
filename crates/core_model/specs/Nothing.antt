-- Where a step of each kind has nothing to do.
use Rattle.std.specs.Prelude.{◌≡◌, ◌≢◌, ◌⊎◌, ℕ, ◌+◌, false, true, [], length, None, Contains}
use Rattle.estate.specs.declared.part_name.PartName.{PartName}
use Rattle.graph_model.specs.Legal.{IsDecidable, IsDone, heads_now}
use Rattle.job_soundness.specs.Jobs.{Job}
use Rattle.core_model.specs.Cores.{CoreState, Deployment, IsRunning, core_state}
use Rattle.core_model.specs.Rules.{NoneWidens}
use Rattle.core_model.specs.Turns.{LeavesNothing}

-- the job has ended, or its troubles are more than the limit
abbrev pub IsOverNow : Job → CoreState → Type 0
IsOverNow job core = IsRunning job core → ⊥

abbrev pub NothingToWiden : Job → CoreState → Type 0
NothingToWiden job core = IsOverNow job core ⊎ NoneWidens job.given (core_state job core)

abbrev pub NothingToMake : Job → CoreState → Type 0
NothingToMake job core = IsOverNow job core ⊎ (heads_now job.given (core_state job core) ≡ [])

abbrev pub NothingToDecide : Job → CoreState → Type 0
NothingToDecide job core =
    IsOverNow job core ⊎ ((v : ℕ) → IsDecidable job.given (core_state job core) v → ⊥)

-- no attempt is wanted or ready that a free slot takes
abbrev pub NothingToDeploy : Job → CoreState → Type 0
NothingToDeploy job core = IsOverNow job core ⊎ LeavesNothing job core

-- no attempt of this name was deployed, or it has arrived
abbrev pub NothingArrives : PartName → CoreState → Type 0
NothingArrives name core =
    (attempt : Deployment) → Contains core.deployed attempt → attempt.name ≢ name

abbrev pub NothingToFlush : CoreState → Type 0
NothingToFlush core = core.flushed ≡ length core.events

-- the job isn't complete, an event is not flushed, the job is over, or its commit is known to stand
abbrev pub NothingToCommit : Job → CoreState → Type 0
NothingToCommit job core =
    (IsDone job.given (core_state job core) → ⊥)
    ⊎ (core.flushed ≢ length core.events)
    ⊎ IsOverNow job core
    ⊎ (core.committed ≡ true)

-- the job has ended; or no commit is known to stand, and the troubles are within the limit
abbrev pub NothingToEnd : Job → CoreState → Type 0
NothingToEnd job core =
    ((core_state job core).ended ≢ None)
    ⊎ ((core.committed ≡ false)
    × ((core_state job core).troubles ≢ job.given.settings.restart_limit + 1))
