-- The text of a job: which job a text is, or its first fault, and the text that a job is printed
-- as.
use Rattle.std.specs.Prelude.{ℕ, ◌≤◌, nat_le, Bool, List, length, codes, Option, None, if◌then◌else◌, Result, Ok, ⊤}
use Rattle.std.specs.Str.{is_utf8}
use Rattle.serde_json.specs.Data.{Data}
use Rattle.serde_json.specs.Read.{read}
use Rattle.serde_json.specs.Written.{compact_text}
use Rattle.job_json.specs.declared.reading.TheConstants.{TEXT_LIMIT}
use Rattle.job_json.specs.Faults.{◌>>=◌, or_fault, check, fault, not_json}
use Rattle.job_json.specs.Jobs.{job_of}
use Rattle.job_json.specs.Spelling.{job_value}
use Rattle.job_json.specs.WellFormed.{IsJobForm}
use Rattle.job_json.specs.declared.job.Job.{Job}
use Rattle.job_json.specs.declared.job_fault.JobFault.{JobFault}
use Rattle.job_json.specs.declared.job_fault_kind.JobFaultKind.TheVariants.{TooMany}

-- the text that a job is printed as
abbrev pub printed_text : Job → List ℕ
printed_text job = compact_text (job_value job)

-- a quantity is within the limit
abbrev pub not_too_large : List ℕ → ℕ → Result ⊤ JobFault
not_too_large name bytes = check (nat_le bytes TEXT_LIMIT) (fault (TooMany bytes) None name)

-- a value, if its text is UTF-8
abbrev pub text_if : Bool → Option Data → Option Data
text_if utf8 value = if utf8 then value else None

-- the JSON value that a text is
abbrev pub json_of : List ℕ → Option Data
json_of text = text_if (is_utf8 text) (read text)

-- the job, unless its printed text is too large
abbrev pub if_printable : Job → Result Job JobFault
if_printable job = not_too_large (codes "printed") (length (printed_text job)) >>= λ fits. Ok job

-- the job that a text is, or its first fault
unfoldable pub job_in : List ℕ → Result Job JobFault
job_in text = do
  fits ← not_too_large (codes "bytes") (length text)
  value ← or_fault not_json (json_of text)
  job ← job_of value
  if_printable job

-- a job that some text spells, and whose printed text is not too large
pub record IsWellFormed (job : Job) : Type 0 where
  pub form : IsJobForm job
  pub printed : length (printed_text job) ≤ TEXT_LIMIT
