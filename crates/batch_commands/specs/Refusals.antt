-- Which refusal an error below becomes, and which answer a refusal is.
use Rattle.std.specs.Prelude.{None}
use Rattle.batch_words.specs.declared.word_error.WordError.{WordError}
use Rattle.batch_words.specs.declared.word_error.WordError.TheVariants as word
use Rattle.estate.specs.declared.estate_error.EstateError.{EstateError}
use Rattle.estate.specs.declared.estate_error.EstateError.TheVariants as estate
use Rattle.estate.specs.declared.input_error.InputError.{InputError}
use Rattle.estate.specs.declared.input_error.InputError.TheVariants as input
use Rattle.job_events.specs.declared.replay_error.ReplayError.{ReplayError}
use Rattle.job_events.specs.declared.replay_error.ReplayError.TheVariants as replay
use Rattle.job_json.specs.declared.job_error.JobError.{JobError}
use Rattle.job_json.specs.declared.job_error.JobError.TheVariants as text
use Rattle.job_json.specs.declared.job_fault.JobFault.{JobFault}
use Rattle.plan_model.specs.declared.plan_error.PlanError.{PlanError}
use Rattle.plan_model.specs.declared.plan_error.PlanError.TheVariants as plan
use Rattle.plan_model.specs.declared.plan_fault.PlanFault.{PlanFault}
use Rattle.batch_commands.specs.declared.answer.Answer.{Answer}
use Rattle.batch_commands.specs.declared.answer.Answer.TheVariants as answer
use Rattle.batch_commands.specs.declared.job_refusal.JobRefusal.{JobRefusal}
use Rattle.batch_commands.specs.declared.log_refusal.LogRefusal.{LogRefusal}
use Rattle.batch_commands.specs.declared.log_refusal.LogRefusal.TheVariants as log
use Rattle.batch_commands.specs.declared.not_accepted.NotAccepted.{NotAccepted}
use Rattle.batch_commands.specs.declared.not_accepted.NotAccepted.TheVariants as accept
use Rattle.batch_commands.specs.declared.quantity.Quantity.TheVariants.{LogBytes}
use Rattle.batch_commands.specs.declared.refusal.Refusal.{Refusal}
use Rattle.batch_commands.specs.declared.refusal.Refusal.TheVariants.{Words, Job, IdTaken, Log, SinkFault, InputFault, NoMemory}
use Rattle.batch_commands.specs.declared.refused_kind.RefusedKind.TheVariants.{Text, Plan}
use Rattle.batch_commands.specs.declared.unbuilt.Unbuilt.TheVariants as unbuilt
use Rattle.batch_commands.specs.declared.word_refusal.WordRefusal.{WordRefusal}
use Rattle.batch_commands.specs.declared.word_refusal.WordRefusal.TheVariants as words

abbrev pub word_refusal : WordError → WordRefusal
word_refusal (word.Fault at kind) = words.Usage at kind
word_refusal word.NoMemory = words.NoMemory

-- the fault of a text, as a job's
abbrev pub text_fault : JobFault → JobRefusal
text_fault fault = record { kind = Text fault.kind; node = fault.node; name = fault.name }

abbrev pub text_refusal : JobError → NotAccepted
text_refusal (text.Fault fault) = accept.Refused (text_fault fault)
text_refusal text.NoMemory = accept.NoMemory

-- the fault of a plan, as a job's
abbrev pub plan_fault : PlanFault → JobRefusal
plan_fault fault = record { kind = Plan fault.kind; node = fault.node; name = None }

abbrev pub plan_refusal : PlanError → NotAccepted
plan_refusal (plan.Fault fault) = accept.Refused (plan_fault fault)
plan_refusal plan.NoMemory = accept.NoMemory

abbrev pub job_refusal : NotAccepted → Refusal
job_refusal (accept.Refused fault) = Job fault
job_refusal accept.NoMemory = NoMemory

abbrev pub replay_refusal : ReplayError → LogRefusal
replay_refusal (replay.BadLog block event) = log.BadLog block event
replay_refusal replay.NoMemory = log.NoMemory

abbrev pub estate_refusal : EstateError → Refusal
estate_refusal estate.Failed = SinkFault
estate_refusal estate.NoMemory = NoMemory

abbrev pub input_refusal : InputError → Refusal
input_refusal input.Failed = InputFault
input_refusal input.NoMemory = NoMemory

-- the answer to words that are refused
abbrev pub word_answer : WordRefusal → Answer
word_answer (words.Usage at kind) = answer.Usage at kind
word_answer (words.NotBuilt what) = answer.NotBuilt what
word_answer words.NoMemory = answer.NoMemory

-- the answer to a job that is refused
abbrev pub job_answer : JobRefusal → Answer
job_answer fault = answer.JobRefused fault.kind fault.node fault.name

-- the answer to a log whose events are not shown
abbrev pub log_answer : LogRefusal → Answer
log_answer log.Fault = answer.LogFault
log_answer (log.TooLarge asked) = answer.TooLarge LogBytes asked
log_answer (log.BadLog block event) = answer.BadLog block event
log_answer log.NoMemory = answer.NoMemory

abbrev pub answer_to : Refusal → Answer
answer_to (Words refused) = word_answer refused
answer_to (Job fault) = job_answer fault
answer_to IdTaken = answer.NotBuilt unbuilt.Commit
answer_to (Log refused) = log_answer refused
answer_to SinkFault = answer.SinkFault
answer_to InputFault = answer.InputFault
answer_to NoMemory = answer.NoMemory
