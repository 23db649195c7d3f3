use Rattle.std.proofs.Common.{◌≡◌, ℕ, ◌<◌, get_or, Some}
use Rattle.estate.specs.declared.part_name.PartName.{PartName}
use Rattle.graph_model.specs.Indexes.{sub_at}
use Rattle.graph_model.specs.States.{winner_name}
use Rattle.reader_index.specs.declared.read.Read.{Read}
use Rattle.event_graph.proofs.winning.are_winners.Given as goal

abbrev pub invariant-loop-place : goal.invariant-loop-place
invariant-loop-place l = (k : ℕ) (read : Read) (name : PartName) → k < l.place → winner_name l.vertices (sub_at l.subs (get_or l.reads k read).producer) ≡ Some (get_or l.names k name)
