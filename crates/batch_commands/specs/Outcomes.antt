-- How run and look end: each with why it answers so, what it printed, and what it did to the estate.
use Rattle.std.specs.Prelude.{◌≡◌, ◌⊎◌, ⊤, ℕ, Contains, List, [], ◌∷◌, Result, IsErrOf}
use Rattle.estate.specs.Changes.{Leads, Stays}
use Rattle.estate.specs.Printed.{Printed}
use Rattle.batch_commands.specs.Causes.{Outside, LookCause, RunCause}
use Rattle.batch_commands.specs.Commits.{MayCommit, StaysUnlessFailed}
use Rattle.batch_commands.specs.Orders.{run_refusal, view_of}
use Rattle.batch_commands.specs.Printing.{Prints}
use Rattle.batch_commands.specs.declared.answer.Answer.{Answer}
use Rattle.batch_commands.specs.declared.answer.Answer.TheVariants.{Finished, LogFault, SinkFault, InputFault, PrintFault, BadLog, NoMemory}
use Rattle.batch_commands.specs.declared.refusal.Refusal.{Refusal}

-- a command is refused so, or the count of faults is as it was
abbrev pub IsMet : {T : Type 0} → Refusal → ℕ → ℕ → Result T Refusal → Type 0
IsMet refusal before now result = IsErrOf result refusal ⊎ (now ≡ before)

-- the count of faults is as it was, or they are the answer, or memory ran out for its line
abbrev pub IsAnswered : Answer → ℕ → ℕ → Answer → Type 0
IsAnswered fault before now answer = (now ≡ before) ⊎ Contains (fault ∷ NoMemory ∷ []) answer

-- a log is refused, for whatever place, or it could not be read
abbrev pub IsNotShown : Answer → Type 0
IsNotShown (BadLog block event) = ⊤
IsNotShown LogFault = ⊤
IsNotShown NoMemory = ⊤
IsNotShown answer = ⊥

-- how a run of these words ends
pub record RunOutcome (words : List (List ℕ)) (old new : Outside) (before after : Printed)
    (answer : Answer) : Type 0 where
  pub line : List ℕ
  pub cause : RunCause (run_refusal words) line old new answer
  pub prints : Prints line before after answer
  pub adds : MayCommit old.inputs old.estate new.estate
  pub stays : (answer ≡ Finished) ⊎ (answer ≡ PrintFault)
      ⊎ StaysUnlessFailed old.estate new.estate answer
  pub input_met : IsAnswered InputFault old.inputs.faults new.inputs.faults answer
  pub sink_met : IsAnswered SinkFault
      old.estate.counts.sink_faults new.estate.counts.sink_faults answer

-- how a look at what these words ask for ends
pub record LookOutcome (words : List (List ℕ)) (old new : Outside) (before after : Printed)
    (answer : Answer) : Type 0 where
  pub text : List ℕ
  pub cause : LookCause (view_of words) text old new answer
  pub prints : Prints text before after answer
  pub writes_nothing : Leads Stays old.estate new.estate
  pub input_met : IsAnswered InputFault old.inputs.faults new.inputs.faults answer
  pub log_met : IsAnswered LogFault
      old.estate.counts.log_faults new.estate.counts.log_faults answer
