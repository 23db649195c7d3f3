-- What a vertex gives on the rows that are read at its inputs, by the operators of its nodes.
use Rattle.std.specs.Prelude.{◌≡◌, ℕ, Bool, false, List, [], ◌∷◌, length, take, drop, get_or, slice_get, IsTrue, Option, Some, None}
use Rattle.std.specs.List.{flat_map}
use Rattle.std.specs.Option.{option_map_or}
use Rattle.bag_laws.specs.Rows.{OneRow as Row}
use Rattle.plan_model.specs.Operators.{repeats_left, repeats_right}
use Rattle.plan_model.specs.Plans.{Bag, bag_of}
use Rattle.plan_model.specs.Widths.{widths_of, input_widths}
use Rattle.plan_model.specs.declared.node.Node.{Node}
use Rattle.plan_model.specs.declared.op.Op.{Op}
use Rattle.plan_model.specs.declared.op.Op.TheVariants.{Source, Union, Aggregate, Distinct, Join}
use Rattle.plan_model.specs.declared.side.Side.{Side}
use Rattle.plan_model.specs.declared.side.Side.TheVariants.{Left, Right}
use Rattle.rect_cover.specs.declared.shape.Shape.{Shape}
use Rattle.rect_cover.specs.declared.shape_kind.ShapeKind.{ShapeKind}
use Rattle.rect_cover.specs.declared.shape_kind.ShapeKind.TheVariants.{RowWise, Keyed}
use Rattle.rect_cover.specs.Cells.{Input}
use Rattle.rect_cover.specs.Operators.{join_shape}
use Rattle.rect_cover.specs.Vertices.{grids_of, input_at, rest_of}
use Rattle.vertex_builder.specs.Edges.{build_place, build_side}
use Rattle.vertex_builder.specs.Vertices.{head_inputs, inputs_at, head_of}
use Rattle.vertex_builder.specs.declared.widening.Widening.{Widening}
use Rattle.vertex_builder.specs.declared.vertex.Vertex.{Vertex}

abbrev pub op_at : List Node → ℕ → Op
op_at nodes place = option_map_or (λ node. node.op) (slice_get nodes place) Union

-- ---- rows

-- no table has files: only a source reads any
abbrev pub no_files : List ℕ → List (List ℕ)
no_files table = []

-- what a head gives on the bags of its inputs: a source the rows of its files, as they are read
abbrev pub head_bag : Op → List Bag → Bag
head_bag (Source table columns) inputs =
    record { width = length columns; rows = flat_map (λ bag. bag.rows) inputs }
head_bag op inputs = bag_of no_files op inputs

-- the rows that are read at each input, as bags of these widths
abbrev pub input_bags : List ℕ → List (List Row) → List Bag
input_bags widths [] = []
input_bags [] (rows ∷ inputs) = record { width = 0; rows = rows } ∷ input_bags [] inputs
input_bags (width ∷ widths) (rows ∷ inputs) =
    record { width = width; rows = rows } ∷ input_bags widths inputs

-- the widths of a node's inputs in the plan
abbrev pub widths_at : List Node → ℕ → List ℕ
widths_at nodes place = input_widths (widths_of nodes) (inputs_at nodes place)

-- ---- chains

-- what a chained node takes: the rows of the one before, and on its build side, if it is widened,
-- what was built
abbrev pub taken_bags : Option Side → Bag → Bag → List Bag
taken_bags None bag build = bag ∷ []
taken_bags (Some Left) bag build = build ∷ bag ∷ []
taken_bags (Some Right) bag build = bag ∷ build ∷ []

-- the first rows that are built, as a bag of that side's width
abbrev pub build_bag : List Node → ℕ → Option Side → List (List Row) → Bag
build_bag nodes node side builds =
    let place = option_map_or build_place side 0 in
    record { width = get_or (widths_at nodes node) place 0; rows = input_at builds 0 }

-- the built rows that are left for the nodes behind
abbrev pub builds_left : Option Side → List (List Row) → List (List Row)
builds_left None builds = builds
builds_left (Some side) builds = rest_of builds

-- what nodes give that are chained one after the other, with the rows of their build sides
abbrev pub chain_bag : List Node → List Widening → List ℕ → Bag → List (List Row) → Bag
chain_bag nodes widened [] bag builds = bag
chain_bag nodes widened (node ∷ chain) bag builds =
    let side = build_side nodes widened node in
    let inputs = taken_bags side bag (build_bag nodes node side builds) in
    chain_bag nodes widened chain (bag_of no_files (op_at nodes node) inputs)
    (builds_left side builds)

-- how many inputs are its head's; the others are build sides
abbrev pub head_count : List Node → Vertex → ℕ
head_count nodes vertex = length (head_inputs nodes (head_of vertex))

-- what a vertex gives on the rows that are read at its inputs
abbrev pub vertex_rows : List Node → List Widening → Vertex → List (List Row) → List Row
vertex_rows nodes widened vertex inputs =
    let head = head_of vertex in
    let count = head_count nodes vertex in
    let bag = head_bag (op_at nodes head) (input_bags (widths_at nodes head) (take count inputs)) in
    (chain_bag nodes widened (drop 1 vertex.nodes) bag (drop count inputs)).rows

-- ---- the shape

-- the joins that may read this side whole, since each row of the other gives its rows by itself
abbrev pub may_repeat : Op → Side → Bool
may_repeat (Join kind keys) Left = repeats_left kind
may_repeat (Join kind keys) Right = repeats_right kind
may_repeat _ side = false

-- the side of each widened join may be repeated
pub record MayRepeat (nodes : List Node) (widened : List Widening) : Type 0 where
  pub each : (node : ℕ) (side : Side) → build_side nodes widened node ≡ Some side
      → IsTrue (may_repeat (op_at nodes node) side)

abbrev pub op_shape : Op → ShapeKind
op_shape (Aggregate keys aggs) = Keyed
op_shape Distinct = Keyed
op_shape (Join kind keys) = join_shape kind
op_shape _ = RowWise

-- the shape of a vertex over the cells of these inputs, of which those behind its head's are wide
abbrev pub vertex_shape : List Node → Vertex → List Input → Shape
vertex_shape nodes vertex inputs =
    let count = head_count nodes vertex in
    record {
      kind = op_shape (op_at nodes (head_of vertex));
      heads = grids_of (take count inputs);
      wide = grids_of (drop count inputs);
    }
