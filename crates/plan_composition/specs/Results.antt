-- What an execution that is done has, and that it is what the plan means.
use Rattle.std.specs.Prelude.{◌≡◌, ℕ, ◌<◌, IsTrue, List, [], length, map, get_or, Some}
use Rattle.std.specs.List.{range_with_len}
use Rattle.std.specs.Option.{unwrap_or}
use Rattle.row_core.specs.Bags.{SameBag}
use Rattle.bag_laws.specs.Rows.{OneRow as Row}
use Rattle.estate.specs.declared.part_name.PartName.{PartName}
use Rattle.plan_model.specs.Checks.{plan_faults}
use Rattle.plan_model.specs.Nodes.{sink_at}
use Rattle.plan_model.specs.Plans.{Bag, bag_at, bags_of, committed_text, sink_sections}
use Rattle.rect_cover.specs.Cells.{gathered}
use Rattle.vertex_builder.specs.Vertices.{last_of, text_output}
use Rattle.graph_model.specs.declared.event.Event.{Event}
use Rattle.graph_model.specs.declared.made_vertex.MadeVertex.{MadeVertex}
use Rattle.graph_model.specs.declared.sub.Sub.{Sub}
use Rattle.graph_model.specs.declared.win.Win.{Win}
use Rattle.graph_model.specs.Folds.{HasFold, fold_from}
use Rattle.graph_model.specs.Legal.{IsDone}
use Rattle.graph_model.specs.Reading.{Parts}
use Rattle.graph_model.specs.States.{Given, started, maker, subtasks_at, vertex_at, winner_at, winner_name}
use Rattle.plan_composition.specs.Tasks.{Stored, HasSizes, IsTruePart, AreTrue, no_part}

-- ---- what the winners have

-- the name of a winner's part
abbrev pub winner_part : List MadeVertex → Sub → PartName
winner_part vertices sub = unwrap_or (winner_name vertices sub) no_part

-- the rows that the winners of a vertex have at one of its outputs
abbrev pub output_rows : Parts → List MadeVertex → ℕ → ℕ → List Row
output_rows parts vertices v e =
    let cells = (get_or (vertex_at vertices v).vertex.outputs e text_output).cells in
    gathered (length (subtasks_at vertices v)) (λ k.
    gathered cells (λ c. parts (winner_part vertices (record { vertex = v; subtask = k })) e c))

-- the rows that the winners of a sink have
abbrev pub sink_rows : Parts → List MadeVertex → ℕ → List Row
sink_rows parts vertices node = output_rows parts vertices (maker vertices node) 0

-- as bags, one for each node; of the sinks alone they are looked at
abbrev pub sink_bags : Parts → List MadeVertex → ℕ → List Bag
sink_bags parts vertices count =
    map (λ node. record { width = 0; rows = sink_rows parts vertices node })
    (range_with_len 0 count)

-- ---- laws

-- legal events over an accepted plan and these files, of which each part is a true one
pub record IsRun (given : Given) (stored : Stored) (events : List Event) : Type 0 where
  pub accepted : plan_faults given.nodes ≡ []
  pub sizes : HasSizes given stored.files
  pub legal : HasFold given started events
  pub true_parts : AreTrue given stored started events

-- the parts of the winners are true by the state that the events lead to
abbrev pub TruthLaw : Type 0
TruthLaw = (given : Given) (stored : Stored) (events : List Event) → IsRun given stored events
    → let state = fold_from given started events in
    (sub : Sub) (win : Win) → winner_at state.vertices sub ≡ Some win
    → IsTruePart given stored state.vertices state.widened win.name win.inputs

-- where each node is in a complete vertex, the winners of each vertex have, at each of its outputs,
-- the plan's bag of its last node
abbrev pub VertexBagsLaw : Type 0
VertexBagsLaw = (given : Given) (stored : Stored) (events : List Event) → IsRun given stored events
    → let state = fold_from given started events in
    IsDone given state → (v e : ℕ) → v < length state.vertices
    → e < length (vertex_at state.vertices v).vertex.outputs
    → SameBag (output_rows stored.parts state.vertices v e)
    (bag_at (bags_of stored.files given.nodes) (last_of (vertex_at state.vertices v).vertex)).rows

-- so have the winners of each sink
abbrev pub SinkBagsLaw : Type 0
SinkBagsLaw = (given : Given) (stored : Stored) (events : List Event) → IsRun given stored events
    → let state = fold_from given started events in
    IsDone given state → (node : ℕ) → IsTrue (sink_at given.nodes node)
    → SameBag (sink_rows stored.parts state.vertices node)
    (bag_at (bags_of stored.files given.nodes) node).rows

-- and their text is the one that the plan commits
abbrev pub TextLaw : Type 0
TextLaw = (given : Given) (stored : Stored) (events : List Event) → IsRun given stored events
    → let state = fold_from given started events in
    IsDone given state
    → sink_sections given.nodes (sink_bags stored.parts state.vertices (length given.nodes))
    ≡ committed_text stored.files given.nodes
