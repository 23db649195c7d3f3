-- A job as its log has it, and its commit.
use Rattle.std.specs.Prelude.{◌≡◌, ℕ, List, [], ◌∷◌, filter}
use Rattle.std.specs.Str.{bytes_eq}
use Rattle.estate.specs.Holding.{commit_of}
use Rattle.estate.specs.declared.commit.Commit.{Commit}
use Rattle.plan_model.specs.Checks.{plan_faults}
use Rattle.plan_model.specs.Plans.{committed_text}
use Rattle.graph_model.specs.States.{Given}
use Rattle.plan_composition.specs.Tasks.{HasSizes}

-- the bytes of each table's files, by the table's name
abbrev pub Files : Type 0
Files = List ℕ → List (List ℕ)

-- the id of its commit, its text, and its plan, its settings and its files' sizes
pub record Job : Type 0 where
  pub id : List ℕ
  pub text : List ℕ
  pub given : Given

-- its plan is accepted, and the sizes are those of these files
pub record IsOver (job : Job) (files : Files) : Type 0 where
  pub accepted : plan_faults job.given.nodes ≡ []
  pub sizes : HasSizes job.given files

-- ---- its commit

-- the job's text and the text that its plan means, under its id
abbrev pub the_commit : Job → Files → Commit
the_commit job files = commit_of job.id job.text (committed_text files job.given.nodes)

abbrev pub commits_under : List ℕ → List Commit → List Commit
commits_under id commits = filter (λ commit. bytes_eq commit.id id) commits

-- no commit stands under the job's id
abbrev pub HasNone : Job → List Commit → Type 0
HasNone job commits = commits_under job.id commits ≡ []

-- exactly one commit stands under the job's id, and it is the job's
abbrev pub HasCommit : Job → Files → List Commit → Type 0
HasCommit job files commits = commits_under job.id commits ≡ the_commit job files ∷ []
