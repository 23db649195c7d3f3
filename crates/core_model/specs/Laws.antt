-- What runs of the master keep.
use Rattle.std.specs.Prelude.{◌≡◌, Bool, IsTrue, List, [], ◌++◌}
use Rattle.estate.specs.Holding.{StoredPart}
use Rattle.estate.specs.declared.commit.Commit.{Commit}
use Rattle.estate.specs.declared.part_name.PartName.{PartName}
use Rattle.plan_model.specs.Checks.{plan_faults}
use Rattle.graph_model.specs.Legal.{IsOpen}
use Rattle.graph_model.specs.States.{is_finished}
use Rattle.graph_model.specs.declared.event.Event.{Event}
use Rattle.graph_model.specs.declared.sub.Sub.{Sub}
use Rattle.job_soundness.specs.Jobs.{Files, HasNone, Job}
use Rattle.job_soundness.specs.Sound.{AreRight}
use Rattle.job_soundness.specs.Starts.{AreLegal, StartsJob, state_of}
use Rattle.core_model.specs.Cores.{Moment, core_state}
use Rattle.core_model.specs.KeptWork.{KeepsWork}
use Rattle.core_model.specs.Licensed.{ResetsTheGone, steps_of}
use Rattle.core_model.specs.Moves.{Run, Taken}
use Rattle.core_model.specs.Reopening.{Reopens}
use Rattle.core_model.specs.Turns.{AreDistinct, deployed_in}

-- the events of one list are legal, and so are those of another that begins with it
pub record GoesOnLegally (job : Job) (old new : List Event) : Type 0 where
  pub more : List Event
  pub is : new ≡ old ++ more
  pub starts : StartsJob job new
  pub legal : AreLegal job new

-- a run adds legal events
abbrev pub LegalLaw : Type 0
LegalLaw = (job : Job) (start end : Moment) (trace : List Taken)
    → StartsJob job start.core.events → AreLegal job start.core.events
    → Run job start trace end → GoesOnLegally job start.core.events end.core.events

-- and deploys no attempt of a finished subtask, unless it is reset before
abbrev pub WorkLaw : Type 0
WorkLaw = (job : Job) (start end : Moment) (trace : List Taken) (sub : Sub)
    → plan_faults job.given.nodes ≡ [] → StartsJob job start.core.events
    → AreLegal job start.core.events
    → IsTrue (is_finished (core_state job start.core).vertices sub)
    → Run job start trace end → KeepsWork sub (steps_of trace)

-- what recovery appends stays right, where the job isn't over and no commit of it stands
abbrev pub ReopenLaw : Type 0
ReopenLaw = (job : Job) (files : Files) (opening more : List Event) (told : Bool)
    (held : List PartName) (ever : List StoredPart) (commits : List Commit)
    → Reopens job opening told held more → IsOpen job.given (state_of job opening)
    → HasNone job commits → AreRight job files opening ever commits
    → AreRight job files (opening ++ more) ever commits

-- a run resets what is gone, and names no attempt twice
abbrev pub OnceLaw : Type 0
OnceLaw = (job : Job) (start end : Moment) (trace : List Taken) → Run job start trace end
    → ResetsTheGone job trace × AreDistinct (deployed_in (steps_of trace))
