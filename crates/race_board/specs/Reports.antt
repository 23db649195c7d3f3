-- What a report tells.
use Rattle.std.specs.Arc.{arc_value}
use Rattle.estate.specs.declared.part_name.PartName.{PartName}
use Rattle.board_log.specs.declared.kind.Kind.{Kind}
use Rattle.board_log.specs.declared.kind.Kind.TheVariants as kind
use Rattle.race_board.specs.declared.report.Report.{Report}
use Rattle.race_board.specs.declared.report.Report.TheVariants.{Ran, Fault, Lost, NoMemory}
use Rattle.task_body.specs.declared.task.Task.{Task}

-- the name of the attempt that it tells of, by the names of faults
abbrev pub name_by : {F : Type 0} → (F → PartName) → Report F → PartName
name_by of_fault (Ran ran) = (arc_value {X = Task} ran.task).name
name_by of_fault (Fault fault) = of_fault fault
name_by of_fault (Lost name winner) = name
name_by of_fault (NoMemory name) = name

-- what kind of report it is
abbrev pub kind_of : {F : Type 0} → Report F → Kind
kind_of (Ran ran) = kind.Ran
kind_of (Fault fault) = kind.Fault
kind_of (Lost name winner) = kind.Lost
kind_of (NoMemory name) = kind.NoMemory
