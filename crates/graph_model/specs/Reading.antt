-- What the winners read is what the present winners have.
use Rattle.std.specs.Prelude.{◌≡◌, ℕ, List, [], Some}
use Rattle.std.specs.List.{AllZip}
use Rattle.row_core.specs.Bags.{SameBag}
use Rattle.bag_laws.specs.Rows.{OneRow}
use Rattle.estate.specs.declared.part_name.PartName.{PartName}
use Rattle.plan_model.specs.Checks.{plan_faults}
use Rattle.graph_model.specs.declared.event.Event.{Event}
use Rattle.graph_model.specs.declared.made_vertex.MadeVertex.{MadeVertex}
use Rattle.graph_model.specs.declared.sub.Sub.{Sub}
use Rattle.graph_model.specs.declared.win.Win.{Win}
use Rattle.graph_model.specs.Folds.{HasFold, fold_from}
use Rattle.graph_model.specs.Links.{output_number}
use Rattle.graph_model.specs.Reads.{ReadEdge, read_edges}
use Rattle.graph_model.specs.States.{Given, started, vertex_at, winner_at, winner_name}

-- the rows that parts have: by output, and then by cell
abbrev pub Parts : Type 0
Parts = PartName → ℕ → ℕ → List OneRow

-- the output by which what is read is given
abbrev pub output_of : List MadeVertex → ReadEdge → ℕ
output_of vertices edge =
    output_number (vertex_at vertices edge.sub.vertex).vertex.outputs edge.into edge.place

-- a part has there, cell by cell, what the producer's winner has
abbrev pub HasWinnersRows : Parts → List MadeVertex → ReadEdge → PartName → Type 0
HasWinnersRows parts vertices edge name =
    (winner : PartName) → winner_name vertices edge.sub ≡ Some winner → (cell : ℕ)
    → SameBag (parts name (output_of vertices edge) cell)
    (parts winner (output_of vertices edge) cell)

-- so has each part that a winner read
abbrev pub ReadsWinners : Parts → List MadeVertex → Type 0
ReadsWinners parts vertices = (sub : Sub) (win : Win) → winner_at vertices sub ≡ Some win
    → AllZip (HasWinnersRows parts vertices) (read_edges vertices sub) win.inputs

abbrev pub ReadLaw : Type 0
ReadLaw = (given : Given) (events : List Event) (parts : Parts) → plan_faults given.nodes ≡ []
    → HasFold given started events
    → ReadsWinners parts (fold_from given started events).vertices
