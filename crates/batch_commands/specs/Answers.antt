-- The exit status of each answer, and the line that is printed.
use Rattle.std.specs.Prelude.{ℕ, List, [], ◌∷◌, ◌++◌, codes, Option, Some, None}
use Rattle.std.specs.Fmt.{decimal}
use Rattle.batch_words.specs.declared.word_kind.WordKind.{WordKind}
use Rattle.batch_words.specs.declared.word_kind.WordKind.TheVariants.{NoCommand, UnknownCommand, UnknownWord, MissingNumber, BadNumber, Repeated, OtherCall}
use Rattle.job_json.specs.declared.job_fault_kind.JobFaultKind.{JobFaultKind}
use Rattle.job_json.specs.declared.job_fault_kind.JobFaultKind.TheVariants as text
use Rattle.plan_model.specs.declared.plan_kind.PlanKind.{PlanKind}
use Rattle.plan_model.specs.declared.plan_kind.PlanKind.TheVariants as plan
use Rattle.batch_commands.specs.declared.answer.Answer.{Answer}
use Rattle.batch_commands.specs.declared.answer.Answer.TheVariants.{Finished, Shown, Usage, JobRefused, LogFault, SinkFault, InputFault, PrintFault, BadLog, TooLarge, NotBuilt, NoMemory}
use Rattle.batch_commands.specs.declared.quantity.Quantity.{Quantity}
use Rattle.batch_commands.specs.declared.quantity.Quantity.TheVariants.{LogBytes}
use Rattle.batch_commands.specs.declared.refused_kind.RefusedKind.{RefusedKind}
use Rattle.batch_commands.specs.declared.refused_kind.RefusedKind.TheVariants.{Text, Plan}
use Rattle.batch_commands.specs.declared.unbuilt.Unbuilt.{Unbuilt}
use Rattle.batch_commands.specs.declared.unbuilt.Unbuilt.TheVariants.{Commit, Generate, Workers}

-- the exit status
abbrev pub status_of : Answer → ℕ
status_of Finished = 0
status_of Shown = 0
status_of (Usage at kind) = 1
status_of (JobRefused kind at name) = 2
status_of LogFault = 4
status_of SinkFault = 6
status_of InputFault = 7
status_of PrintFault = 8
status_of (BadLog block event) = 9
status_of (TooLarge what number) = 14
status_of NoMemory = 15
status_of (NotBuilt what) = 18

-- the word for a fault of the words
abbrev pub usage_word : WordKind → List ℕ
usage_word NoCommand = codes "no-command"
usage_word UnknownCommand = codes "unknown-command"
usage_word UnknownWord = codes "unknown-word"
usage_word MissingNumber = codes "missing-number"
usage_word BadNumber = codes "bad-number"
usage_word Repeated = codes "repeated"
usage_word OtherCall = codes "other-call"

-- the word for a fault of a job's text
abbrev pub text_word : JobFaultKind → List ℕ
text_word text.NotJson = codes "not-json"
text_word text.MissingMember = codes "missing-member"
text_word text.UnknownOp = codes "unknown-op"
text_word text.BadMember = codes "bad-member"
text_word text.BadNumber = codes "bad-number"
text_word text.BadExpr = codes "bad-expr"
text_word text.UnknownMember = codes "unknown-member"
text_word (text.TooMany number) = codes "too-many"

-- the word for a fault of a plan
abbrev pub plan_word : PlanKind → List ℕ
plan_word plan.BadInput = codes "bad-input"
plan_word plan.NoKeys = codes "no-keys"
plan_word plan.BadShip = codes "bad-ship"
plan_word plan.BadColumn = codes "bad-column"
plan_word plan.BadWidth = codes "bad-width"
plan_word plan.TooWide = codes "too-wide"
plan_word plan.NoSink = codes "no-sink"
plan_word plan.Dangling = codes "dangling"
plan_word plan.SameSink = codes "same-sink"

-- the word for why a job is refused
abbrev pub refused_word : RefusedKind → List ℕ
refused_word (Text kind) = text_word kind
refused_word (Plan kind) = plan_word kind

-- the word for what has a limit
abbrev pub quantity_word : Quantity → List ℕ
quantity_word LogBytes = codes "log_bytes"

-- the word for what is not built
abbrev pub unbuilt_word : Unbuilt → List ℕ
unbuilt_word Commit = codes "commit"
unbuilt_word Generate = codes "generate"
unbuilt_word Workers = codes "workers"

-- a node's number, or a dash
abbrev pub node_word : Option ℕ → List ℕ
node_word (Some node) = decimal node
node_word None = codes "-"

-- a member's name as it is, or a dash
abbrev pub name_word : Option (List ℕ) → List ℕ
name_word (Some name) = name
name_word None = codes "-"

-- the line of an answer, without its line feed; `job` is the job's name
abbrev pub line_of : List ℕ → Answer → List ℕ
line_of job Finished = codes "finished job=" ++ job
line_of job Shown = []
line_of job (Usage at kind) = codes "usage at=" ++ decimal at ++ codes " " ++ usage_word kind
line_of job (JobRefused kind at name) =
    codes "job-refused " ++ refused_word kind
    ++ codes " node=" ++ node_word at ++ codes " name=" ++ name_word name
line_of job LogFault = codes "log-fault"
line_of job SinkFault = codes "sink-fault"
line_of job InputFault = codes "input-fault"
line_of job PrintFault = []
line_of job (BadLog block event) =
    codes "bad-log block=" ++ decimal block ++ codes " event=" ++ decimal event
line_of job (TooLarge what number) =
    codes "too-large " ++ quantity_word what ++ codes "=" ++ decimal number
line_of job (NotBuilt what) = codes "not-built " ++ unbuilt_word what
line_of job NoMemory = codes "no-memory"

-- what is printed
abbrev pub printed_line : List ℕ → Answer → List ℕ
printed_line job answer = line_of job answer ++ 10 ∷ []
