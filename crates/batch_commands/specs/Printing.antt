-- What a command prints at each answer.
use Rattle.std.specs.Prelude.{◌≡◌, ◌⊎◌, ℕ, IsTrue, List, [], ◌++◌, Result, Ok, Err}
use Rattle.estate.specs.Changes.{Rose}
use Rattle.estate.specs.Printed.{Printed, AddsPart}
use Rattle.batch_commands.specs.Answers.{printed_line}
use Rattle.batch_commands.specs.Refusals.{answer_to}
use Rattle.batch_commands.specs.declared.answer.Answer.{Answer}
use Rattle.batch_commands.specs.declared.answer.Answer.TheVariants.{Finished, Shown, Usage, JobRefused, LogFault, SinkFault, InputFault, PrintFault, BadLog, TooLarge, NotBuilt, NoMemory}
use Rattle.batch_commands.specs.declared.refusal.Refusal.{Refusal}

-- these bytes were added, and printing did not fail
abbrev pub AddsAll : List ℕ → Printed → Printed → Type 0
AddsAll bytes old new =
    (IsTrue old.told → new.bytes ≡ old.bytes ++ bytes) × (new.faults ≡ old.faults)

-- printing failed, and a first part of these bytes was added
abbrev pub FailsAt : List ℕ → Printed → Printed → Type 0
FailsAt bytes old new =
    Rose old.faults new.faults × (IsTrue old.told → AddsPart bytes old.bytes new.bytes)

-- these bytes were added, or a first part of them where printing failed
abbrev pub TriesToAdd : List ℕ → Printed → Printed → Type 0
TriesToAdd bytes old new = AddsAll bytes old new ⊎ FailsAt bytes old new

-- What was printed with an answer: `text` of a command that was done, else the answer's line.
abbrev pub Prints : List ℕ → Printed → Printed → Answer → Type 0
Prints text old new Finished = AddsAll text old new
Prints text old new Shown = AddsAll text old new
Prints text old new PrintFault = FailsAt text old new
Prints text old new (Usage at kind) = TriesToAdd (printed_line [] (Usage at kind)) old new
Prints text old new (JobRefused kind at name) =
    TriesToAdd (printed_line [] (JobRefused kind at name)) old new
Prints text old new LogFault = TriesToAdd (printed_line [] LogFault) old new
Prints text old new SinkFault = TriesToAdd (printed_line [] SinkFault) old new
Prints text old new InputFault = TriesToAdd (printed_line [] InputFault) old new
Prints text old new (BadLog block event) =
    TriesToAdd (printed_line [] (BadLog block event)) old new
Prints text old new (TooLarge what number) =
    TriesToAdd (printed_line [] (TooLarge what number)) old new
Prints text old new (NotBuilt what) = TriesToAdd (printed_line [] (NotBuilt what)) old new
Prints text old new NoMemory =
    IsTrue old.told → AddsPart (printed_line [] NoMemory) old.bytes new.bytes

-- the answer to a refusal, whose line was printed, or that for want of memory where there was none for it
abbrev pub PrintsRefusal : Answer → Printed → Printed → Answer → Type 0
PrintsRefusal refused old new answer =
    ((answer ≡ refused) × TriesToAdd (printed_line [] refused) old new)
    ⊎ ((answer ≡ NoMemory) × TriesToAdd (printed_line [] NoMemory) old new)

-- `done` where the bytes were printed, or a print fault; a refusal's answer, with its line
abbrev pub PrintsOutcome : Answer → Result (List ℕ) Refusal → Printed → Printed → Answer → Type 0
PrintsOutcome done (Ok bytes) old new answer =
    ((answer ≡ done) × AddsAll bytes old new) ⊎ ((answer ≡ PrintFault) × FailsAt bytes old new)
PrintsOutcome done (Err refusal) old new answer = PrintsRefusal (answer_to refusal) old new answer
