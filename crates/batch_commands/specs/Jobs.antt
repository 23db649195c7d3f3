-- Why a text is of no accepted job.
use Rattle.std.specs.Prelude.{◌≡◌, ⊤, ℕ, List, Option, Some, Result, Ok, Err, slice_get}
use Rattle.std.specs.Option.{option_map}
use Rattle.job_json.specs.Texts.{job_in}
use Rattle.job_json.specs.declared.job.Job.{Job}
use Rattle.job_json.specs.declared.job_fault.JobFault.{JobFault}
use Rattle.plan_model.specs.Checks.{plan_faults}
use Rattle.batch_commands.specs.Refusals.{text_fault, plan_fault}
use Rattle.batch_commands.specs.declared.accepted_job.AcceptedJob.{AcceptedJob}
use Rattle.batch_commands.specs.declared.job_refusal.JobRefusal.{JobRefusal}
use Rattle.batch_commands.specs.declared.not_accepted.NotAccepted.{NotAccepted}
use Rattle.batch_commands.specs.declared.not_accepted.NotAccepted.TheVariants.{Refused, NoMemory}

-- the first fault of a text, or of its job's plan
abbrev pub fault_in : Result Job JobFault → Option JobRefusal
fault_in (Ok job) = option_map plan_fault (slice_get (plan_faults job.plan) 0)
fault_in (Err fault) = Some (text_fault fault)

-- the first fault of a job's text, or of its plan
abbrev pub fault_of : List ℕ → Option JobRefusal
fault_of text = fault_in (job_in text)

-- a text is refused for its first fault, unless memory ran out
abbrev pub IsRefusalOf : List ℕ → NotAccepted → Type 0
IsRefusalOf text (Refused fault) = fault_of text ≡ Some fault
IsRefusalOf text NoMemory = ⊤

-- the job that was read
abbrev pub job_of : AcceptedJob → Job
job_of accepted =
    record { name = accepted.name; plan = accepted.plan; settings = accepted.settings }
