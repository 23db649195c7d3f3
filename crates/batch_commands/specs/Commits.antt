-- What a run leaves in the sink.
use Rattle.std.specs.Prelude.{◌≡◌, ◌⊎◌, ℕ, IsTrue, IsNone, IsSome, IfSome, Contains, List, [], ◌∷◌, ◌++◌, filter, Option, None}
use Rattle.std.specs.Str.{bytes_eq}
use Rattle.estate.specs.Changes.{Rose, Same, Step, Stays, Leads}
use Rattle.estate.specs.Contents.{Contents}
use Rattle.estate.specs.Holding.{job_under}
use Rattle.estate.specs.World.{World}
use Rattle.estate.specs.declared.commit.Commit.{Commit}
use Rattle.job_json.specs.Texts.{printed_text}
use Rattle.job_json.specs.declared.job.Job.{Job}
use Rattle.plan_model.specs.Plans.{committed_text}
use Rattle.job_events.specs.Logs.{IsAccepted}
use Rattle.batch_commands.specs.declared.answer.Answer.{Answer}
use Rattle.batch_commands.specs.declared.answer.Answer.TheVariants.{SinkFault, NoMemory}

-- The commit of the job that the inputs tell: under the job's name, with the text that the job is printed as, and with
-- the text that the definition gives for its plan over the tables' files.
pub record IsCommitOf (inputs : Contents) (commit : Commit) : Type 0 where
  pub from : List ℕ
  pub told : IsTrue inputs.told → from ≡ inputs.job
  pub of : Job
  pub accepted : IsAccepted from of
  pub id : commit.id ≡ of.name
  pub job : commit.job ≡ printed_text of
  pub text : IsTrue inputs.told → commit.text ≡ committed_text inputs.files of.plan

-- the commits under an id
abbrev pub commits_under : List ℕ → List Commit → List Commit
commits_under id commits = filter (λ commit. bytes_eq commit.id id) commits

-- The sink has all that was there before, and then this commit, which is the job's and the only one under its id.
pub record HasCommitted (inputs : Contents) (commit : Commit) (old new : List Commit) : Type 0 where
  pub is : IsCommitOf inputs commit
  pub added : new ≡ old ++ commit ∷ []
  pub once : commits_under commit.id new ≡ commit ∷ []

-- the sink has the job's commit now, and had none under its id
abbrev pub Commits : Contents → World → World → Type 0
Commits inputs old new = IsTrue old.told
    → (commit : Commit) × HasCommitted inputs commit old.holding.commits new.holding.commits

-- no commit stands under the id of this one
abbrev pub IsFree : World → Commit → Type 0
IsFree old commit = IsTrue old.told → job_under commit.id old.holding.commits ≡ None

-- Nothing was done to the estate but that the job's commit may have been added, where its id was free; and so says each
-- crash since.
pub record MayCommit (inputs : Contents) (old new : World) : Type 0 where
  pub commit : Option Commit
  pub is : IfSome commit (IsCommitOf inputs)
  pub free : IfSome commit (IsFree old)
  pub leads : Leads (Step Same None commit) old new

-- The estate is as it was, but where the sink failed: that is the answer then, or that memory ran out for its line.
abbrev pub StaysUnlessFailed : World → World → Answer → Type 0
StaysUnlessFailed old new answer = Leads Stays old new
    ⊎ (Contains (SinkFault ∷ NoMemory ∷ []) answer
    × Rose old.counts.sink_faults new.counts.sink_faults)

-- inputs and estate are told, and the name of the inputs' job has a commit
pub record NameTaken (inputs : Contents) (old : World) : Type 0 where
  pub told : IsTrue inputs.told
  pub held : IsTrue old.told
  pub job : Job
  pub accepted : IsAccepted inputs.job job
  pub taken : IsSome (job_under job.name old.holding.commits)

-- inputs and estate are told, and the name of the inputs' job has no commit
pub record NameFree (inputs : Contents) (old : World) : Type 0 where
  pub told : IsTrue inputs.told
  pub held : IsTrue old.told
  pub job : Job
  pub accepted : IsAccepted inputs.job job
  pub free : IsNone (job_under job.name old.holding.commits)
