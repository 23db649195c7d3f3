use Rattle.row_view.proofs.Stops.{never_stops, stops_once}
use Rattle.row_view.proofs.reading.rows_stop_once.Goals as goal

pub returns-clause-place : goal.returns-clause-place
returns-clause-place c = λ width bytes a b first second. stops_once width bytes a b first second

pub returns-clause-rows : goal.returns-clause-rows
returns-clause-rows c = λ width bytes at rows stop spelled. never_stops width bytes at stop rows spelled
