-- What the calls of a board answer.
use Rattle.std.specs.Prelude.{ℕ, Bool, true, false, Option, Some, None}
use Rattle.std.specs.Arc.{arc_value}
use Rattle.estate.specs.declared.part_name.PartName.{PartName}
use Rattle.board_log.specs.declared.entry.Entry.{Entry}
use Rattle.board_log.specs.declared.entry.Entry.TheVariants as entry
use Rattle.race_board.specs.declared.claim.Claim.{Claim}
use Rattle.race_board.specs.declared.claim.Claim.TheVariants.{Task, Stop}
use Rattle.task_body.specs.declared.task.Task.{Task as TaskOf}

-- the entry of a worker's claim
abbrev pub claimed_as : ℕ → Claim → Entry
claimed_as worker (Task task race) = entry.Claim worker (arc_value {X = TaskOf} task).name
claimed_as worker Stop = entry.Halted worker

-- how many tasks it took
abbrev pub took : Claim → ℕ
took (Task task race) = 1
took Stop = 0

-- the attempt of which the worker is then to tell
abbrev pub owed_by : Claim → Option PartName
owed_by (Task task race) = Some (arc_value {X = TaskOf} task).name
owed_by Stop = None

-- whether it said that the board is stopped
abbrev pub is_stop : Claim → Bool
is_stop (Task task race) = false
is_stop Stop = true
