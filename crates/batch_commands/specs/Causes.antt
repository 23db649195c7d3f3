-- Why each answer comes. Each fact on content holds where the object that it speaks of tells its content.
use Rattle.std.specs.Prelude.{◌≡◌, ◌⊎◌, ⊤, ℕ, IsTrue, IsSome, List, Option, Some, None, Result, Ok, Err}
use Rattle.estate.specs.Changes.{LogRose, Rose}
use Rattle.estate.specs.Contents.{Contents}
use Rattle.estate.specs.Holding.{job_under}
use Rattle.estate.specs.World.{World}
use Rattle.estate.specs.declared.commit.Commit.{Commit}
use Rattle.job_json.specs.declared.job.Job.{Job}
use Rattle.batch_commands.specs.Answers.{printed_line}
use Rattle.batch_commands.specs.Commits.{HasCommitted}
use Rattle.job_events.specs.Logs.{IsAccepted}
use Rattle.batch_commands.specs.Jobs.{fault_of}
use Rattle.batch_commands.specs.Events.{IsBadLog, IsTooLong, ShowsLog}
use Rattle.batch_commands.specs.Views.{ShowsJob}
use Rattle.batch_commands.specs.declared.answer.Answer.{Answer}
use Rattle.batch_commands.specs.declared.answer.Answer.TheVariants.{Finished, Shown, Usage, JobRefused, LogFault, SinkFault, InputFault, PrintFault, BadLog, TooLarge, NotBuilt, NoMemory}
use Rattle.batch_commands.specs.declared.job_refusal.JobRefusal.{JobRefusal}
use Rattle.batch_commands.specs.declared.unbuilt.Unbuilt.TheVariants as unbuilt
use Rattle.batch_commands.specs.declared.job_view.JobView.{JobView}
use Rattle.batch_commands.specs.declared.view.View.{View}
use Rattle.batch_commands.specs.declared.view.View.TheVariants.{OfJob, Events}
use Rattle.batch_commands.specs.declared.word_refusal.WordRefusal.{WordRefusal}
use Rattle.batch_commands.specs.declared.word_refusal.WordRefusal.TheVariants as words

-- the inputs and the estate of a command, as contracts see them
pub record Outside : Type 1 where
  pub inputs : Contents
  pub estate : World

abbrev pub outside : Contents → World → Outside
outside inputs estate = record { inputs = inputs; estate = estate }

-- the inputs' text is of an accepted job
abbrev pub IsJob : Contents → Type 0
IsJob inputs = IsTrue inputs.told → (job : Job) × IsAccepted inputs.job job

-- the inputs' text, or its job's plan, has this first fault
abbrev pub HasFault : Contents → JobRefusal → Type 0
HasFault inputs fault = IsTrue inputs.told → fault_of inputs.job ≡ Some fault

-- the inputs' text is of an accepted job, and its name has a commit
abbrev pub IsTaken : Contents → World → Type 0
IsTaken inputs old = IsTrue inputs.told → (job : Job) × IsAccepted inputs.job job
    × (IsTrue old.told → IsSome (job_under job.name old.holding.commits))

-- the inputs' job has its commit now, and this line names it
pub record HasFinished (inputs : Contents) (old new : World) (line : List ℕ) : Type 0 where
  pub name : List ℕ
  pub names : line ≡ printed_line name Finished
  pub is : IsTrue inputs.told → (job : Job) × IsAccepted inputs.job job × (name ≡ job.name)
  pub committed : IsTrue old.told → (commit : Commit)
      × HasCommitted inputs commit old.holding.commits new.holding.commits × (name ≡ commit.id)

-- Why a run answers so. `refused` is why its words are refused, and `line` is printed of a job that is committed.
abbrev pub RunCause : Option WordRefusal → List ℕ → Outside → Outside → Answer → Type 0
RunCause refused line old new Finished =
    (refused ≡ None) × HasFinished old.inputs old.estate new.estate line
RunCause refused line old new PrintFault =
    (refused ≡ None) × HasFinished old.inputs old.estate new.estate line
RunCause refused line old new (Usage at kind) = refused ≡ Some (words.Usage at kind)
RunCause refused line old new (JobRefused kind at name) =
    (refused ≡ None) × HasFault old.inputs (record { kind = kind; node = at; name = name })
RunCause refused line old new SinkFault =
    (refused ≡ None) × Rose old.estate.counts.sink_faults new.estate.counts.sink_faults
    × IsJob old.inputs
RunCause refused line old new InputFault =
    (refused ≡ None) × Rose old.inputs.faults new.inputs.faults
RunCause refused line old new (NotBuilt what) =
    (refused ≡ Some (words.NotBuilt what))
    ⊎ ((refused ≡ None) × (what ≡ unbuilt.Commit) × IsTaken old.inputs old.estate)
RunCause refused line old new NoMemory = ⊤
RunCause refused line old new answer = ⊥

-- Why a look at the job answers so, of which `text` is printed.
abbrev pub JobCause : JobView → List ℕ → Contents → Contents → Answer → Type 0
JobCause view text old new Shown = ShowsJob view old text
JobCause view text old new PrintFault = ShowsJob view old text
JobCause view text old new (JobRefused kind at name) =
    HasFault old (record { kind = kind; node = at; name = name })
JobCause view text old new InputFault = Rose old.faults new.faults
JobCause view text old new NoMemory = ⊤
JobCause view text old new answer = ⊥

-- Why a look at the log's events answers so, of which `text` is printed.
abbrev pub EventsCause : List ℕ → World → World → Answer → Type 0
EventsCause text old new Shown = ShowsLog old text
EventsCause text old new PrintFault = ShowsLog old text
EventsCause text old new LogFault = LogRose old new
EventsCause text old new (TooLarge what number) =
    IsTrue old.told → IsTooLong old.holding.log what number
EventsCause text old new (BadLog block event) =
    IsTrue old.told → IsBadLog old.holding.log block event
EventsCause text old new NoMemory = ⊤
EventsCause text old new answer = ⊥

-- Why a look answers so whose words are refused.
abbrev pub WordCause : WordRefusal → Answer → Type 0
WordCause refused (Usage at kind) = refused ≡ words.Usage at kind
WordCause refused (NotBuilt what) = refused ≡ words.NotBuilt what
WordCause refused NoMemory = ⊤
WordCause refused answer = ⊥

-- Why a look answers so. `asked` is what its words ask to see, and `text` is printed of it.
abbrev pub LookCause : Result View WordRefusal → List ℕ → Outside → Outside → Answer → Type 0
LookCause (Ok (OfJob view)) text old new answer = JobCause view text old.inputs new.inputs answer
LookCause (Ok Events) text old new answer = EventsCause text old.estate new.estate answer
LookCause (Err refused) text old new answer = WordCause refused answer
