-- What the answers to a commit say.
use Rattle.std.specs.Prelude.{◌≡◌, ◌≢◌, ◌⊎◌, ⊤, List, [], ◌∷◌, ◌++◌, Option, Some, None, Result, Ok, Err, IsErrOf}
use Rattle.estate.specs.Holding.{Holding, job_under}
use Rattle.estate.specs.Changes.{Same, Step}
use Rattle.estate.specs.World.{World}
use Rattle.estate.specs.declared.commit.Commit.{Commit}
use Rattle.estate.specs.declared.estate_error.EstateError.{EstateError}
use Rattle.estate.specs.declared.estate_error.EstateError.TheVariants as estate
use Rattle.sink_commit.specs.declared.committed.Committed.{Committed}
use Rattle.sink_commit.specs.declared.committed.Committed.TheVariants.{Before, Fresh}
use Rattle.sink_commit.specs.declared.commit_error.CommitError.{CommitError}
use Rattle.sink_commit.specs.declared.commit_error.CommitError.TheVariants.{IdTaken, SinkFault, NoMemory}

-- the error that a sink's error becomes
abbrev pub commit_error : EstateError → CommitError
commit_error estate.Failed = SinkFault
commit_error estate.NoMemory = NoMemory

-- The job's text that stood under the id decides. One commit is appended, or none.
abbrev pub AnswersOn : Commit → List Commit → List Commit → Result Committed CommitError → Type 0
AnswersOn commit old new (Ok Before) = (job_under commit.id old ≡ Some commit.job) × (new ≡ old)
AnswersOn commit old new (Ok Fresh) = (job_under commit.id old ≡ None) × (new ≡ old ++ commit ∷ [])
AnswersOn commit old new (Err (IdTaken other)) =
    (job_under commit.id old ≡ Some other) × (other ≢ commit.job) × (new ≡ old)
AnswersOn commit old new (Err SinkFault) = ⊤
AnswersOn commit old new (Err NoMemory) = new ≡ old

-- the answer by the commits that stood before and that stand after
abbrev pub Answers : Commit → World → World → Result Committed CommitError → Type 0
Answers commit old new result = AnswersOn commit old.holding.commits new.holding.commits result

-- the commit that may have been appended, by the answer
abbrev pub may_add : Commit → Result Committed CommitError → Option Commit
may_add commit (Ok Before) = None
may_add commit (Ok Fresh) = Some commit
may_add commit (Err (IdTaken other)) = None
may_add commit (Err SinkFault) = Some commit
may_add commit (Err NoMemory) = None

-- the commit is appended, or nothing is, as the answer allows
abbrev pub AddsAs : Commit → Result Committed CommitError → Holding → Holding → Type 0
AddsAs commit result = Step Same None (may_add commit result)

-- whatever a crash now leaves, the commit stands behind those that stood before
abbrev pub Lands : Commit → World → World → Type 0
Lands commit old new =
    (image : Holding) → new.images new.now image →
    image.commits ≡ old.holding.commits ++ commit ∷ []

-- a fault of the sink is answered: it is the answer, or the sink's count is as it was
abbrev pub AnswersFaults : World → World → Result Committed CommitError → Type 0
AnswersFaults old new result =
    IsErrOf result SinkFault ⊎ (new.counts.sink_faults ≡ old.counts.sink_faults)
