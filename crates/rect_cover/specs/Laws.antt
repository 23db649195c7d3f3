-- The law of covers, as one fact.
use Rattle.std.specs.Prelude.{List, length}
use Rattle.std.specs.List.{flat_map}
use Rattle.row_core.specs.Bags.{SameBag}
use Rattle.bag_laws.specs.Rows.{OneRow as Row}
use Rattle.rect_cover.specs.Cells.{Reads, Input, rows_of, read_of}
use Rattle.rect_cover.specs.Covers.{IsCover}
use Rattle.rect_cover.specs.Chains.{chained}
use Rattle.rect_cover.specs.Vertices.{Head, Link, head_rows, linked, readings, wholes, shape_of}
use Rattle.rect_cover.specs.Vertices.{IsPlaced, LinksByBags}

-- what a vertex gives: its chain, of what its head gives
abbrev pub chain_rows : Head → List Link → List (List Row) → List (List Row) → List Row
chain_rows head links inputs wide = chained (linked links wide) (head_rows head inputs)

-- the sum, over the subtasks of a cover, of head and chain on what they read is head and chain on
-- the whole
abbrev pub VertexLaw : Type 0
VertexLaw = (head : Head) (links : List Link) (inputs wide : List Input) (subtasks : List Reads)
    → IsCover (shape_of head inputs wide) subtasks → IsPlaced head inputs → LinksByBags links
    → SameBag
    (flat_map (λ subtask. chain_rows head links
    (readings inputs 0 subtask) (readings wide (length inputs) subtask)) subtasks)
    (chain_rows head links (wholes inputs) (wholes wide))

-- the sum over the subtasks of what they give of what they read of two inputs is what is given of
-- the whole
abbrev pub SumsToWhole : (List Row → List Row → List Row) → Input → Input → List Reads → Type 0
SumsToWhole op left right subtasks =
    SameBag (flat_map (λ subtask. op (read_of left 0 subtask) (read_of right 1 subtask)) subtasks)
    (op (rows_of left) (rows_of right))
