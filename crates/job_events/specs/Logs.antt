-- What the events of a whole log come to: which event is legal in which state, and what comes of
-- it.
use Rattle.std.specs.Prelude.{◌≡◌, ℕ, ◌<◌, List, [], ◌∷◌, length, Ok}
use Rattle.attempt_names.specs.Attempts.{no_attempts}
use Rattle.event_graph.specs.Graphs.{JobState, Takes}
use Rattle.exec_graph.specs.Graphs.{GraphState}
use Rattle.graph_model.specs.declared.event.Event.{Event}
use Rattle.graph_model.specs.declared.event.Event.TheVariants.{Opened, Started}
use Rattle.graph_model.specs.States.{Given, started}
use Rattle.job_json.specs.declared.job.Job.{Job}
use Rattle.job_json.specs.Texts.{job_in}
use Rattle.plan_model.specs.Checks.{plan_faults}
use Rattle.plan_model.specs.TableNames.{tables_of}
use Rattle.job_events.specs.declared.log_state.LogState.{LogState}
use Rattle.job_events.specs.declared.log_state.LogState.TheVariants.{Empty, Awaiting, Jobless, Running}

-- ---- a job is started

-- the text is of this job, whose plan has no fault
pub record IsAccepted (text : List ℕ) (job : Job) : Type 0 where
  pub is : job_in text ≡ Ok job
  pub faultless : plan_faults job.plan ≡ []

-- the text is of no such job
abbrev pub IsRefused : List ℕ → Type 0
IsRefused text = (job : Job) → IsAccepted text job → ⊥

-- the plan and the settings of a job, over these sizes of files
abbrev pub given_of : Job → List (List ℕ) → Given
given_of job files = record { nodes = job.plan; settings = job.settings; files = files }

-- a job of which nothing is made
abbrev pub fresh_job : Job → List (List ℕ) → JobState
fresh_job job files = record { given = given_of job files; state = started }

-- the graph is that of the text's job, with sizes for each table, in its first epoch
pub record IsStarted (epoch : ℕ) (text : List ℕ) (files : List (List ℕ))
    (graph : GraphState) : Type 0 where
  pub job : Job
  pub accepted : IsAccepted text job
  pub tables : length files ≡ length (tables_of job.plan)
  pub opened : Takes (fresh_job job files) (Opened epoch) graph.job
  pub attempts : graph.attempts ≡ no_attempts

-- ---- an event, and the state after it

-- the first epoch is opened
abbrev pub OpensFirst : Event → LogState → Type 0
OpensFirst (Opened epoch) (Awaiting now) = (0 < epoch) × (now ≡ epoch)
OpensFirst event new = ⊥

-- a further epoch is opened, without a job
abbrev pub Reopens : ℕ → Event → LogState → Type 0
Reopens last (Opened epoch) (Jobless now) = (last < epoch) × (now ≡ epoch)
Reopens last event new = ⊥

-- a job is started, or its text refused, or a further epoch is opened
abbrev pub StartsJob : ℕ → Event → LogState → Type 0
StartsJob last (Started text files) (Running graph) = IsStarted last text files graph
StartsJob last (Started text files) (Jobless now) = IsRefused text × (now ≡ last)
StartsJob last event new = Reopens last event new

-- a job goes on
abbrev pub Advances : GraphState → Event → LogState → Type 0
Advances old event (Running new) = Takes old.job event new.job × (new.attempts ≡ old.attempts)
Advances old event new = ⊥

-- the event is legal in the old state, and leads to the new one
abbrev pub IsNext : LogState → Event → LogState → Type 0
IsNext Empty event new = OpensFirst event new
IsNext (Awaiting last) event new = StartsJob last event new
IsNext (Jobless last) event new = Reopens last event new
IsNext (Running graph) event new = Advances graph event new

-- no state comes of an event
abbrev pub HasNone : (LogState → Type 0) → Type 0
HasNone Next = (new : LogState) → Next new → ⊥

-- each event is legal after those before it, and they lead from the old state to the new one
abbrev pub LeadsTo : LogState → List Event → LogState → Type 0
LeadsTo old [] new = new ≡ old
LeadsTo old (event ∷ events) new =
    (next : LogState) × IsNext old event next × LeadsTo next events new
