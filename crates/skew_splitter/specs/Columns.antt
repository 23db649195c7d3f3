-- The items of a join in which no side is repeated: its columns, and the pieces of skewed ones.
use Rattle.std.specs.Prelude.{◌≡◌, ℕ, ◌+◌, ◌-◌, ◌*◌, Bool, not, ◌&&◌, ◌||◌, nat_le, nat_lt, List, [], ◌∷◌, length, map, sum_by, if◌then◌else◌}
use Rattle.std.specs.List.{flat_map, range_with_len}
use Rattle.plan_model.specs.declared.join_kind.JoinKind.{JoinKind}
use Rattle.plan_model.specs.declared.setting_values.SettingValues.{SettingValues}
use Rattle.plan_model.specs.declared.side.Side.{Side}
use Rattle.plan_model.specs.declared.side.Side.TheVariants.{Left, Right}
use Rattle.join_rewrite.specs.Sides.{side_repeats}
use Rattle.rect_cover.specs.declared.grid.Grid.{Grid}
use Rattle.rect_cover.specs.declared.rect.Rect.{Rect}
use Rattle.volume_split.specs.Groups.{groups_of}
use Rattle.volume_split.specs.Runs.{greedy_runs}
use Rattle.volume_split.specs.declared.group.Group.{Group}
use Rattle.grid_groups.specs.Sizes.{capped, cell_size, column_size}
use Rattle.skew_splitter.specs.declared.item.Item.{Item}
use Rattle.skew_splitter.specs.declared.sizes.Sizes.{Sizes}

-- ---- which columns are split

-- the sizes of a side's columns
abbrev pub side_sizes : ℕ → Grid → List ℕ
side_sizes columns grid = map (λ s. capped (column_size grid s)) (range_with_len 0 columns)

-- the size on one side
abbrev pub size_at : Side → Sizes → ℕ
size_at Left sizes = sizes.left
size_at Right sizes = sizes.right

abbrev pub other_side : Side → Side
other_side Left = Right
other_side Right = Left

-- a side may be split whose partner may be repeated
abbrev pub may_split : JoinKind → Side → Bool
may_split kind side = side_repeats kind (other_side side)

-- the side of a column that may be split; where both may be, the larger, at a tie the left
abbrev pub side_tried : JoinKind → Sizes → Side
side_tried kind sizes =
    if may_split kind Left && (not (may_split kind Right) || nat_le sizes.right sizes.left)
    then Left else Right

-- a size is skewed, by the median of its side's columns
abbrev pub is_skewed : SettingValues → ℕ → ℕ → Bool
is_skewed settings median size =
    nat_lt settings.skew_bytes size && nat_lt (settings.skew_percent * median) (size * 100)

-- the column is split on the side that is tried
abbrev pub is_split : JoinKind → SettingValues → Sizes → Sizes → Bool
is_split kind settings medians sizes =
    let side = side_tried kind sizes in
    may_split kind side && is_skewed settings (size_at side medians) (size_at side sizes)

-- ---- pieces

abbrev pub grid_at : Side → Grid → Grid → Grid
grid_at Left left right = left
grid_at Right left right = right

-- the sizes of a column's cells, by producer
abbrev pub column_cells : Grid → ℕ → List ℕ
column_cells grid s = map (λ p. cell_size grid p s) (range_with_len 0 grid.producers)

-- the groups of a column's producers: the cuts at the target, or all in one
abbrev pub pieces : ℕ → Bool → Grid → ℕ → List Group
pieces target split grid s =
    if split then groups_of (greedy_runs target (column_cells grid s))
    else record { start = 0; end = grid.producers } ∷ []

-- producers of one column
abbrev pub column_rect : ℕ → ℕ → ℕ → Rect
column_rect start end s = record { p0 = start; p1 = end; s0 = s; s1 = s + 1 }

-- what a piece has of its column, and all of the other side's column
abbrev pub item_size : Grid → Grid → ℕ → Group → ℕ
item_size own other s group =
    capped (column_size other s
    + sum_by (λ p. cell_size own p s) (range_with_len group.start (group.end - group.start)))

-- an item of a piece of one side
abbrev pub item_of : Side → Grid → Grid → ℕ → Group → Item
item_of Left own other s group = record {
  left = column_rect group.start group.end s;
  right = column_rect 0 other.producers s;
  size = item_size own other s group;
}
item_of Right own other s group = record {
  left = column_rect 0 other.producers s;
  right = column_rect group.start group.end s;
  size = item_size own other s group;
}

-- the sizes of a column on both sides
abbrev pub sizes_of : Grid → Grid → ℕ → Sizes
sizes_of left right s =
    record { left = capped (column_size left s); right = capped (column_size right s) }

-- the items of a column: one, or one for each piece of its side that is tried
abbrev pub column_items : JoinKind → SettingValues → Sizes → Grid → Grid → ℕ → List Item
column_items kind settings medians left right s =
    let sizes = sizes_of left right s in
    let side = side_tried kind sizes in
    let own = grid_at side left right in
    let other = grid_at (other_side side) left right in
    map (item_of side own other s)
    (pieces settings.target_bytes (is_split kind settings medians sizes) own s)

-- the items of a join, in the order of its columns
abbrev pub join_items : JoinKind → SettingValues → Sizes → Grid → Grid → List Item
join_items kind settings medians left right =
    flat_map (column_items kind settings medians left right) (range_with_len 0 left.cells)
