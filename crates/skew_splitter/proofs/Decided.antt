-- What the subtasks of a join read is a cover of its kind.
use Rattle.std.proofs.Common.{IsTrue, Option, Some, None, List, [], ◌∷◌, length, map, refl, sym, subst}
use Rattle.std.specs.Option.{IfSome}
use Rattle.std.proofs.lemmas.List.{length-map}
use Rattle.plan_model.specs.declared.join_kind.JoinKind.{JoinKind}
use Rattle.plan_model.specs.declared.join_kind.JoinKind.TheVariants as kind
use Rattle.plan_model.specs.declared.setting_values.SettingValues.{SettingValues}
use Rattle.plan_model.specs.declared.side.Side.{Side}
use Rattle.plan_model.specs.declared.side.Side.TheVariants.{Left, Right}
use Rattle.join_rewrite.specs.Sides.{side_repeats}
use Rattle.rect_cover.specs.declared.grid.Grid.{Grid}
use Rattle.rect_cover.specs.declared.shape.Shape.{Shape}
use Rattle.rect_cover.specs.Cells.{Reads}
use Rattle.rect_cover.specs.Covers.{IsCover}
use Rattle.rect_cover.specs.Operators.{join_shape}
use Rattle.grid_groups.proofs.Laws as shared
use Rattle.grid_groups.proofs.Laws.{AreGroups, are_groups}
use Rattle.skew_splitter.specs.declared.item.Item.{Item}
use Rattle.skew_splitter.specs.Columns.{join_items}
use Rattle.skew_splitter.specs.Decisions.{AreSides, AreJoin, ShareItems, IsDecided, by_items, IsJoinCover}
use Rattle.skew_splitter.proofs.Covers as covers
use Rattle.skew_splitter.proofs.Fulls as fulls

module _ (settings : SettingValues) (left right : Grid) (wide : List Grid) (subtasks : List Reads) (sides : AreSides left right) where
  abbrev shape : JoinKind → Shape
  shape kind = record { kind = join_shape kind; heads = left ∷ (right ∷ []); wide = wide }

  module _ (kind : JoinKind) (share : ShareItems kind settings left right wide subtasks) where
    abbrev items : List Item
    items = join_items kind settings share.medians left right

    are : AreGroups (length items) share.read.groups
    are = are_groups settings (map (λ item. item.size) items) (length items) share.read.groups (length-map items (λ (item : Item). item.size)) share.read.grouped

    cover_from : IsCover (shape kind) (map (by_items items wide) share.read.groups) → IsCover (shape kind) subtasks
    cover_from cover = subst (IsCover (shape kind)) (sym share.read.each) cover

  items_cover : (kind : JoinKind) → ShareItems kind settings left right wide subtasks → IsCover (shape kind) subtasks
  items_cover kind.Inner share = cover_from kind.Inner share (covers.inner kind.Inner settings share.medians left right sides wide share.read.groups (are kind.Inner share))
  items_cover kind.Left share = cover_from kind.Left share (covers.left_driven kind.Left settings share.medians left right sides wide share.read.groups (are kind.Left share) (λ s. refl))
  items_cover kind.Semi share = cover_from kind.Semi share (covers.left_driven kind.Semi settings share.medians left right sides wide share.read.groups (are kind.Semi share) (λ s. refl))
  items_cover kind.Anti share = cover_from kind.Anti share (covers.left_driven kind.Anti settings share.medians left right sides wide share.read.groups (are kind.Anti share) (λ s. refl))
  items_cover kind.Right share = cover_from kind.Right share (covers.right_driven kind.Right settings share.medians left right sides wide share.read.groups (are kind.Right share) (λ s. refl))
  items_cover kind.Full share = cover_from kind.Full share (fulls.full kind.Full settings share.medians left right sides refl refl wide share.read.groups (are kind.Full share))

pub decided_cover : (kind : JoinKind) (side : Option Side) (settings : SettingValues) (grids : List Grid) (subtasks : List Reads)
    → AreJoin grids → IfSome side (λ side. IsTrue (side_repeats kind side)) → IsDecided kind side settings grids subtasks → IsJoinCover kind grids subtasks
decided_cover kind side settings [] subtasks join repeated decided = absurd join
decided_cover kind side settings (left ∷ []) subtasks join repeated decided = absurd join
decided_cover kind None settings (left ∷ (right ∷ wide)) subtasks join repeated decided = items_cover settings left right wide subtasks join kind decided
decided_cover kind.Inner (Some Right) settings (left ∷ (right ∷ wide)) subtasks join repeated decided = shared.lefts_inner settings subtasks left right wide decided
decided_cover kind.Left (Some Right) settings (left ∷ (right ∷ wide)) subtasks join repeated decided = shared.lefts_driven settings subtasks left right wide decided
decided_cover kind.Semi (Some Right) settings (left ∷ (right ∷ wide)) subtasks join repeated decided = shared.lefts_driven settings subtasks left right wide decided
decided_cover kind.Anti (Some Right) settings (left ∷ (right ∷ wide)) subtasks join repeated decided = shared.lefts_driven settings subtasks left right wide decided
decided_cover kind.Right (Some Right) settings (left ∷ (right ∷ wide)) subtasks join repeated decided = absurd (cc repeated)
decided_cover kind.Full (Some Right) settings (left ∷ (right ∷ wide)) subtasks join repeated decided = absurd (cc repeated)
decided_cover kind.Inner (Some Left) settings (left ∷ (right ∷ wide)) subtasks join repeated decided = shared.rights_inner settings subtasks left right wide decided
decided_cover kind.Right (Some Left) settings (left ∷ (right ∷ wide)) subtasks join repeated decided = shared.rights_driven settings subtasks left right wide decided
decided_cover kind.Left (Some Left) settings (left ∷ (right ∷ wide)) subtasks join repeated decided = absurd (cc repeated)
decided_cover kind.Semi (Some Left) settings (left ∷ (right ∷ wide)) subtasks join repeated decided = absurd (cc repeated)
decided_cover kind.Anti (Some Left) settings (left ∷ (right ∷ wide)) subtasks join repeated decided = absurd (cc repeated)
decided_cover kind.Full (Some Left) settings (left ∷ (right ∷ wide)) subtasks join repeated decided = absurd (cc repeated)
