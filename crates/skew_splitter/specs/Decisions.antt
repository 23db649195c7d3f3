-- What the subtasks of a join read.
use Rattle.std.specs.Prelude.{◌≡◌, ◌<◌, List, [], ◌∷◌, map, Option, Some, None, slice_range}
use Rattle.plan_model.specs.declared.join_kind.JoinKind.{JoinKind}
use Rattle.plan_model.specs.declared.setting_values.SettingValues.{SettingValues}
use Rattle.plan_model.specs.declared.side.Side.{Side}
use Rattle.plan_model.specs.declared.side.Side.TheVariants.{Left, Right}
use Rattle.rect_cover.specs.Cells.{Reads}
use Rattle.rect_cover.specs.declared.grid.Grid.{Grid}
use Rattle.rect_cover.specs.Covers.{IsCover}
use Rattle.rect_cover.specs.Operators.{join_shape}
use Rattle.volume_split.specs.declared.group.Group.{Group}
use Rattle.grid_groups.specs.Reads.{whole_of, ReadGroups, ShareProducers}
use Rattle.skew_splitter.specs.declared.item.Item.{Item}
use Rattle.skew_splitter.specs.declared.sizes.Sizes.{Sizes}
use Rattle.medians.specs.Medians.{IsMedian}
use Rattle.skew_splitter.specs.Columns.{side_sizes, join_items}
use Rattle.skew_splitter.specs.Joined.{tidy}

-- the medians of the columns' sizes, by side
pub record AreMedians (left right : Grid) (medians : Sizes) : Type 0 where
  pub left_median : IsMedian (side_sizes left.cells left) medians.left
  pub right_median : IsMedian (side_sizes left.cells right) medians.right

-- the items of a group: on each side their rects, tidied, and each wide input whole
abbrev pub by_items : List Item → List Grid → Group → Reads
by_items items wide group =
    let own = slice_range items group.start group.end in
    tidy (map (λ item. item.left) own) ∷ (tidy (map (λ item. item.right) own)
    ∷ map whole_of wide)

-- the subtasks that share the items of a join
pub record ShareItems (kind : JoinKind) (settings : SettingValues) (left right : Grid)
    (wide : List Grid) (subtasks : List Reads) : Type 0 where
  pub medians : Sizes
  pub middle : AreMedians left right medians
  pub read : let items = join_items kind settings medians left right in
      ReadGroups settings (map (λ item. item.size) items) (by_items items wide) subtasks

-- what the subtasks of a join read, where a side is repeated or none is
abbrev pub IsDecided :
    JoinKind → Option Side → SettingValues → List Grid → List Reads → Type 0
IsDecided kind (Some Right) settings (left ∷ (right ∷ wide)) subtasks =
    ShareProducers settings [] left (right ∷ wide) subtasks
IsDecided kind (Some Left) settings (left ∷ (right ∷ wide)) subtasks =
    ShareProducers settings (left ∷ []) right wide subtasks
IsDecided kind None settings (left ∷ (right ∷ wide)) subtasks =
    ShareItems kind settings left right wide subtasks
IsDecided kind side settings grids subtasks = ⊥

-- the grids of a join: its two sides, with equally many columns and with producers, and wide ones
pub record AreSides (left right : Grid) : Type 0 where
  pub equal : right.cells ≡ left.cells
  pub columns : 0 < left.cells
  pub lefts : 0 < left.producers
  pub rights : 0 < right.producers

abbrev pub AreJoin : List Grid → Type 0
AreJoin (left ∷ (right ∷ wide)) = AreSides left right
AreJoin grids = ⊥

-- a cover of the join over these grids
abbrev pub IsJoinCover : JoinKind → List Grid → List Reads → Type 0
IsJoinCover kind (left ∷ (right ∷ wide)) subtasks =
    IsCover (record { kind = join_shape kind; heads = left ∷ (right ∷ []); wide = wide }) subtasks
IsJoinCover kind grids subtasks = ⊥
