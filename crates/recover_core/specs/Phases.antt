-- What is left of a job, by its log and its sink.
use Rattle.std.specs.Prelude.{◌≡◌, ◌⊎◌, ◌<◌, Bool, true, false, Some, None}
use Rattle.event_graph.specs.Graphs.{JobState}
use Rattle.graph_model.specs.Legal.{IsDone, IsOpen}
use Rattle.recover_core.specs.Unfinished.{IsFirstUnfinished}
use Rattle.recover_core.specs.declared.phase.Phase.{Phase}
use Rattle.recover_core.specs.declared.phase.Phase.TheVariants.{Fresh, Going, Committed, Finished, Failed}
use Rattle.recover_core.specs.declared.recover_error.RecoverError.{RecoverError}
use Rattle.recover_core.specs.declared.recover_error.RecoverError.TheVariants.{AlreadyCommitted, LostCommit}

-- a job whose commit stands is complete
abbrev pub IsComplete : JobState → Bool → Type 0
IsComplete job committed = committed ≡ true → IsDone job.given job.state

-- what is left of a job with events, of which a commit stands or none
abbrev pub IsPhase : JobState → Bool → Phase → Type 0
IsPhase job committed Fresh = ⊥
IsPhase job committed Going = (committed ≡ false) × IsOpen job.given job.state
IsPhase job committed Committed =
    (committed ≡ true) × IsOpen job.given job.state × IsComplete job committed
IsPhase job committed Finished =
    (committed ≡ true) × (job.state.ended ≡ Some false) × IsComplete job committed
IsPhase job committed Failed = IsComplete job committed
    × ((job.state.ended ≡ Some true) ⊎ ((job.state.ended ≡ None)
    × (job.given.settings.restart_limit < job.state.troubles)))

-- the sink has a commit of a job that is not complete, or none of a job that has finished
abbrev pub Disagree : JobState → Bool → RecoverError → Type 0
Disagree job committed (AlreadyCommitted unfinished) = (committed ≡ true)
    × (IsDone job.given job.state → ⊥) × IsFirstUnfinished job.state.vertices unfinished
Disagree job committed LostCommit = (committed ≡ false) × (job.state.ended ≡ Some false)
Disagree job committed _ = ⊥
