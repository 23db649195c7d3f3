-- A job is started by one text in one way, or not at all.
use Rattle.std.specs.Prelude.{MatchOption}
use Rattle.std.proofs.Common.{◌≡◌, ◌≢◌, ℕ, List, length, Option, Ok, refl, sym, subst, ◌∙◌}
use Rattle.event_graph.specs.Graphs.{JobState, Refuses, Takes}
use Rattle.event_graph.specs.declared.graph_error.GraphError.{GraphError}
use Rattle.event_graph.specs.declared.graph_error.GraphError.TheVariants.{NoMemory}
use Rattle.exec_graph.specs.Graphs.{GraphState}
use Rattle.graph_model.specs.declared.event.Event.{Event}
use Rattle.graph_model.specs.declared.event.Event.TheVariants.{Opened, Started}
use Rattle.graph_model.specs.Legal.{IsLegal}
use Rattle.graph_model.specs.States.{Given, State, started}
use Rattle.job_json.specs.declared.job.Job.{Job}
use Rattle.plan_model.specs.TableNames.{tables_of}
use Rattle.job_events.specs.Applied.{IsWhyNot}
use Rattle.job_events.specs.Logs.{Advances, HasNone, IsAccepted, Reopens, StartsJob, fresh_job, given_of}
use Rattle.job_events.specs.declared.log_state.LogState.{LogState}
use Rattle.job_events.specs.declared.log_state.LogState.TheVariants.{Jobless, Running}
use Rattle.job_events.proofs.Refusing.{why_not}

-- a text is of one job
pub accepted_once : (text : List ℕ) (a b : Job) → IsAccepted text a → IsAccepted text b → a ≡ b
accepted_once text a b accepted other = let same : Ok a ≡ Ok b = sym accepted.is ∙ other.is in cc

-- where the job of the text can't be started, nothing comes of its start
pub none_started : (epoch : ℕ) (text : List ℕ) (files : List (List ℕ)) (job : Job) → IsAccepted text job
    → ((new : JobState) → length files ≡ length (tables_of job.plan) → Takes (fresh_job job files) (Opened epoch) new → ⊥) → HasNone (StartsJob epoch (Started text files))
none_started epoch text files job accepted none (Jobless now) starts = starts.0 job accepted
none_started epoch text files job accepted none (Running graph) starts =
    let P : Job → Type 0 = λ j. (length files ≡ length (tables_of j.plan)) × Takes (fresh_job j files) (Opened epoch) graph.job in
    let of_job = subst P (accepted_once text starts.job job starts.accepted accepted) (starts.tables, starts.opened) in
    none graph.job of_job.0 of_job.1
none_started epoch text files job accepted none new starts = starts

-- nor where its graph refuses the epoch
pub none_opened : (epoch : ℕ) (text : List ℕ) (files : List (List ℕ)) (job : Job) (graph after : JobState) → IsAccepted text job → graph.given ≡ given_of job files → graph.state ≡ started → Refuses graph (Opened epoch) after → HasNone (StartsJob epoch (Started text files))
none_opened epoch text files job graph after accepted given state refused =
    none_started epoch text files job accepted (λ new tables takes.
    let P : Given → Type 0 = λ g. IsLegal g started (Opened epoch) in
    let Q : State → Type 0 = λ s. IsLegal graph.given s (Opened epoch) in
    refused.illegal (subst Q (sym state) (subst P (sym given) takes.legal)))

-- of an event that is no start nothing comes but a further epoch
pub reopened : (last : ℕ) (event : Event) → ((text : List ℕ) (files : List (List ℕ)) → event ≡ Started text files → ⊥) → (found : Option LogState)
    → MatchOption found (HasNone (Reopens last event)) (Reopens last event) → MatchOption found (HasNone (StartsJob last event)) (StartsJob last event)
reopened last (Started text files) other found h = absurd (other text files refl)
reopened last event other found h = h

-- nothing comes of an event that the graph does not take
pub none_taken : (graph : GraphState) (event : Event) (error : GraphError) → error ≢ NoMemory → IsWhyNot graph.job event error → HasNone (Advances graph event)
none_taken graph event error other why (Running new) advances = why_not graph.job event error other why advances.0.legal
none_taken graph event error other why new advances = advances
