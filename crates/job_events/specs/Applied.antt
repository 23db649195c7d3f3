-- Why a graph does not take an event.
use Rattle.std.specs.Prelude.{⊤}
use Rattle.event_graph.specs.Graphs.{JobState}
use Rattle.event_graph.specs.declared.graph_error.GraphError.{GraphError}
use Rattle.event_graph.specs.declared.graph_error.GraphError.TheVariants.{NotCover, Illegal, NoMemory}
use Rattle.graph_model.specs.declared.event.Event.{Event}
use Rattle.graph_model.specs.declared.event.Event.TheVariants.{Decided}
use Rattle.graph_model.specs.Legal.{IsDecidable, IsLegal}
use Rattle.graph_model.specs.Reads.{shape_at}
use Rattle.graph_model.specs.States.{vertex_at}
use Rattle.rect_cover.specs.Covers.{IsCover}

-- the event is a decision that would be legal, were it a cover
abbrev pub IsUncovered : JobState → Event → Type 0
IsUncovered job (Decided vertex decision) =
    IsDecidable job.given job.state vertex
    × (IsCover (shape_at job.given job.state.vertices
    (vertex_at job.state.vertices vertex).vertex) decision → ⊥)
IsUncovered job event = ⊥

-- the event is not legal, and of a decision more than the cover is at fault
abbrev pub IsIllegal : JobState → Event → Type 0
IsIllegal job (Decided vertex decision) = IsDecidable job.given job.state vertex → ⊥
IsIllegal job event = IsLegal job.given job.state event → ⊥

-- what an error tells of the event
abbrev pub IsWhyNot : JobState → Event → GraphError → Type 0
IsWhyNot job event NotCover = IsUncovered job event
IsWhyNot job event Illegal = IsIllegal job event
IsWhyNot job event NoMemory = ⊤
