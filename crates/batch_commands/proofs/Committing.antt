-- What was read and made is the job's commit.
use Rattle.std.proofs.Common.{◌≡◌, ◌∙◌, Bool, IsTrue, List, ℕ, refl, subst, sym}
use Rattle.estate.specs.Contents.{Contents, KeepsContents}
use Rattle.job_json.specs.Texts.{printed_text}
use Rattle.plan_model.specs.Plans.{committed_text}
use Rattle.batch_commands.specs.Commits.{IsCommitOf}
use Rattle.job_events.specs.Logs.{IsAccepted}
use Rattle.batch_commands.specs.Jobs.{job_of}
use Rattle.batch_commands.specs.declared.accepted_job.AcceptedJob.{AcceptedJob}
use Rattle.batch_commands.proofs.OwnTables.{text_agrees}

pub is_commit_of : (a b : Contents) → KeepsContents a b → (text : List ℕ) → (IsTrue a.told → text ≡ a.job) → (job : AcceptedJob) → IsAccepted text (job_of job)
    → job.text ≡ printed_text (job_of job) → (committed : List ℕ) → (IsTrue b.told → committed ≡ committed_text b.files job.plan)
    → IsCommitOf a (record { id = job.name; job = job.text; text = committed })
is_commit_of a b keeps text text_told job accepted printed committed made = record {
  from = text;
  told = text_told;
  of = job_of job;
  accepted = accepted;
  id = refl;
  job = printed;
  text = λ told. made (subst (λ (x : Bool). IsTrue x) (sym keeps.told) told) ∙ text_agrees b.files a.files job.plan (keeps.files told);
}
