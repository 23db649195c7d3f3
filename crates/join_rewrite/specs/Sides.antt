-- Which side of a join is read whole by each of its subtasks.
use Rattle.std.specs.Prelude.{ℕ, Bool, ◌&&◌, nat_le, nat_lt, Option, None, Some, if◌then◌else◌}
use Rattle.plan_model.specs.Operators.{repeats_left, repeats_right}
use Rattle.plan_model.specs.declared.join_kind.JoinKind.{JoinKind}
use Rattle.plan_model.specs.declared.side.Side.{Side}
use Rattle.plan_model.specs.declared.side.Side.TheVariants.{Left, Right}

-- the side of such a join may be repeated
abbrev pub side_repeats : JoinKind → Side → Bool
side_repeats kind Left = repeats_left kind
side_repeats kind Right = repeats_right kind

-- a size, if it is known and at most the limit and the side may be repeated
abbrev pub eligible : Bool → ℕ → Option ℕ → Option ℕ
eligible repeats limit None = None
eligible repeats limit (Some size) = if repeats && nat_le size limit then Some size else None

-- the side of the smaller size, at a tie the right
abbrev pub side_smaller : ℕ → ℕ → Side
side_smaller left right = if nat_lt left right then Left else Right

-- of the sides that have a size the one of the smaller
abbrev pub side_of_sizes : Option ℕ → Option ℕ → Option Side
side_of_sizes None None = None
side_of_sizes (Some left) None = Some Left
side_of_sizes None (Some right) = Some Right
side_of_sizes (Some left) (Some right) = Some (side_smaller left right)

-- the smaller of the eligible sides
abbrev pub side_chosen : JoinKind → Option ℕ → Option ℕ → ℕ → Option Side
side_chosen kind left right limit = side_of_sizes
    (eligible (repeats_left kind) limit left)
    (eligible (repeats_right kind) limit right)
