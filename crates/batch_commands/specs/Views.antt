-- What the commands print that change nothing.
use Rattle.std.specs.Prelude.{◌≡◌, ℕ, IsTrue, List, Result, Ok, Err}
use Rattle.estate.specs.Contents.{Contents}
use Rattle.estate.specs.World.{World}
use Rattle.job_events.specs.Logs.{IsAccepted}
use Rattle.job_json.specs.declared.job.Job.{Job}
use Rattle.plan_model.specs.Plans.{committed_text}
use Rattle.plan_text.specs.Checked.{check_text}
use Rattle.plan_text.specs.Planned.{plan_text}
use Rattle.batch_commands.specs.Events.{ShowsLog}
use Rattle.batch_commands.specs.declared.job_view.JobView.{JobView}
use Rattle.batch_commands.specs.declared.job_view.JobView.TheVariants.{Check, Plan, Reference}
use Rattle.batch_commands.specs.declared.view.View.{View}
use Rattle.batch_commands.specs.declared.view.View.TheVariants.{OfJob, Events}
use Rattle.batch_commands.specs.declared.word_refusal.WordRefusal.{WordRefusal}

-- what is to be seen of a job over these files
abbrev pub job_text : JobView → (List ℕ → List (List ℕ)) → Job → List ℕ
job_text Check files job = check_text job.plan
job_text Plan files job = plan_text job.plan
job_text Reference files job = committed_text files job.plan

-- the text is what is to be seen of the inputs' job
abbrev pub ShowsJob : JobView → Contents → List ℕ → Type 0
ShowsJob view inputs text = IsTrue inputs.told →
    (job : Job) × IsAccepted inputs.job job × (text ≡ job_text view inputs.files job)

-- the text is what is to be seen of the inputs' job, or of the estate's log
abbrev pub Shows : View → Contents → World → List ℕ → Type 0
Shows (OfJob view) inputs estate text = ShowsJob view inputs text
Shows Events inputs estate text = ShowsLog estate text

-- the words ask for something to see, and the text is that
abbrev pub ShowsAsked : Result View WordRefusal → Contents → World → List ℕ → Type 0
ShowsAsked (Ok view) inputs estate text = Shows view inputs estate text
ShowsAsked (Err refused) inputs estate text = ⊥
