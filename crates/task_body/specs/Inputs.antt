-- What a task reads at the inputs of its vertex.
use Rattle.std.specs.Prelude.{◌≡◌, ℕ, ⊤, List, [], ◌∷◌, drop, length, get_or, Option, None, Some}
use Rattle.std.specs.List.{flat_map}
use Rattle.std.specs.Option.{unwrap_or}
use Rattle.bag_laws.specs.Rows.{OneRow as Row}
use Rattle.plan_model.specs.Plans.{Bag, empty_bag}
use Rattle.plan_model.specs.Widths.{widths_of}
use Rattle.plan_model.specs.declared.node.Node.{Node}
use Rattle.plan_model.specs.declared.op.Op.{Op}
use Rattle.plan_model.specs.declared.op.Op.TheVariants.{Source}
use Rattle.plan_model.specs.declared.side.Side.{Side}
use Rattle.vertex_builder.specs.declared.vertex_input.VertexInput.{VertexInput}
use Rattle.vertex_laws.specs.VertexRows.{op_at}
use Rattle.task_body.specs.Cells.{cell_rows}
use Rattle.task_body.specs.declared.task_input.TaskInput.{TaskInput}

-- the rows of an input's cells, as an operator reads them
abbrev pub input_rows : Op → TaskInput → List Row
input_rows op input = flat_map (cell_rows op) input.cells.items

-- and as a bag of the input's width
abbrev pub input_bag : Op → TaskInput → Bag
input_bag op input = record { width = input.width; rows = input_rows op input }

-- a source reads files of its own columns
abbrev pub ReadsFiles : Op → ℕ → Type 0
ReadsFiles (Source table columns) width = width ≡ length columns
ReadsFiles _ width = ⊤

-- the rows at each input of a vertex, as the node reads them that takes them
abbrev pub rows_read : List Node → List VertexInput → List TaskInput → List (List Row)
rows_read nodes [] inputs = []
rows_read nodes (at ∷ ats) [] = []
rows_read nodes (at ∷ ats) (input ∷ inputs) =
    input_rows (op_at nodes at.into) input ∷ rows_read nodes ats inputs

-- how many values the rows have that come in there: those of the node that they come from, or of
-- the source
abbrev pub width_into : List Node → VertexInput → ℕ
width_into nodes at = get_or (widths_of nodes) (unwrap_or at.from at.into) 0

-- ---- build sides

-- the first build side, as a join reads it
abbrev pub build_read : Op → List TaskInput → Bag
build_read op [] = empty_bag
build_read op (input ∷ builds) = input_bag op input

-- the build sides that a chained node leaves for those behind it
abbrev pub builds_behind : Option Side → List TaskInput → List TaskInput
builds_behind None builds = builds
builds_behind (Some side) builds = drop 1 builds
