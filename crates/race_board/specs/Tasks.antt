-- The tasks of offers.
use Rattle.std.specs.Arc.{arc_value}
use Rattle.estate.specs.declared.part_name.PartName.{PartName}
use Rattle.board_log.specs.declared.offer.Offer.{Offer}
use Rattle.race_board.specs.declared.posted.Posted.{Posted}
use Rattle.task_body.specs.declared.task.Task.{Task}

-- the name of the attempt whose task this is
abbrev pub posted_name : Posted → PartName
posted_name posted = (arc_value {X = Task} posted.task).name

-- the name of the attempt that is offered
abbrev pub name_of : Offer → PartName
name_of offer = offer.name
