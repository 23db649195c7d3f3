-- The laws that the decisions cite: what shares producers or columns is a cover.
use Rattle.std.proofs.Common.{◌≡◌, ℕ, ◌<◌, All, List, [], ◌∷◌, length, sym, subst}
use Rattle.std.specs.List.{sum_by}
use Rattle.std.proofs.lemmas.List.FromFn.{length-map-range_with_len}
use Rattle.plan_model.specs.declared.setting_values.SettingValues.{SettingValues}
use Rattle.rect_cover.specs.declared.grid.Grid.{Grid}
use Rattle.rect_cover.specs.declared.shape_kind.ShapeKind.TheVariants.{RowWise, Keyed, LeftDriven, RightDriven, Inner}
use Rattle.rect_cover.specs.Cells.{Reads}
use Rattle.rect_cover.specs.Covers.{IsCover}
use Rattle.volume_split.specs.Groups.{Parts}
use Rattle.volume_split.specs.declared.group.Group.{Group}
use Rattle.grid_groups.specs.Sizes.{capped, producer_size, producer_sizes, column_size, column_sizes}
use Rattle.grid_groups.specs.Reads.{columns_in, IsGrouped, ShareProducers, ShareColumns}
use Rattle.grid_groups.proofs.Covers as covers
-- ---- tests of whether a number stands from one up to another
pub use Rattle.grid_groups.proofs.Groups.{is_within, left_no, right_no, left_yes, right_yes, le_yes, lt_yes, le_no, lt_no, lt_from, within_yes, within_early, within_late}
-- ---- groups of places
pub use Rattle.grid_groups.proofs.Groups.{here, once, each_once, all_groups, some_groups}
pub use Rattle.grid_groups.proofs.Filled.{inputs-whole, wholes-whole}
-- ---- covers, by what one group reads
pub use Rattle.grid_groups.proofs.Covers.{AreGroups, is_cover}

pub are_groups : (settings : SettingValues) (sizes : List ℕ) (n : ℕ) (groups : List Group) → length sizes ≡ n → IsGrouped settings sizes groups → AreGroups n groups
are_groups settings sizes n groups long grouped =
    record { parts = subst (λ (m : ℕ). Parts 0 m groups) long grouped.parts; some = grouped.some; few = grouped.few }

long_producers : (grid : Grid) → length (producer_sizes grid) ≡ grid.producers
long_producers grid = length-map-range_with_len (λ p. capped (producer_size grid p)) 0 grid.producers

-- groups that share the producers of a grid
module _ (settings : SettingValues) (before after : List Grid) (grid : Grid) (subtasks : List Reads) (shared : ShareProducers settings before grid after subtasks) where
  pub producer_groups : AreGroups grid.producers shared.groups
  producer_groups = are_groups settings (producer_sizes grid) grid.producers shared.groups (long_producers grid) shared.grouped

module _ (settings : SettingValues) (subtasks : List Reads) where
  pub producers_row_wise : (grid : Grid) (wide : List Grid) → ShareProducers settings [] grid wide subtasks
      → IsCover (record { kind = RowWise; heads = grid ∷ []; wide = wide }) subtasks
  producers_row_wise grid wide shared =
      subst (λ (all : List Reads). IsCover (record { kind = RowWise; heads = grid ∷ []; wide = wide }) all) (sym shared.each)
      (covers.producers_row_wise shared.groups grid wide (producer_groups settings [] wide grid subtasks shared))

  pub lefts_driven : (left right : Grid) (wide : List Grid) → ShareProducers settings [] left (right ∷ wide) subtasks
      → IsCover (record { kind = LeftDriven; heads = left ∷ (right ∷ []); wide = wide }) subtasks
  lefts_driven left right wide shared =
      subst (λ (all : List Reads). IsCover (record { kind = LeftDriven; heads = left ∷ (right ∷ []); wide = wide }) all) (sym shared.each)
      (covers.left_driven shared.groups left right wide (producer_groups settings [] (right ∷ wide) left subtasks shared))

  pub lefts_inner : (left right : Grid) (wide : List Grid) → ShareProducers settings [] left (right ∷ wide) subtasks
      → IsCover (record { kind = Inner; heads = left ∷ (right ∷ []); wide = wide }) subtasks
  lefts_inner left right wide shared =
      subst (λ (all : List Reads). IsCover (record { kind = Inner; heads = left ∷ (right ∷ []); wide = wide }) all) (sym shared.each)
      (covers.left_inner shared.groups left right wide (producer_groups settings [] (right ∷ wide) left subtasks shared))

  pub rights_driven : (left right : Grid) (wide : List Grid) → ShareProducers settings (left ∷ []) right wide subtasks
      → IsCover (record { kind = RightDriven; heads = left ∷ (right ∷ []); wide = wide }) subtasks
  rights_driven left right wide shared =
      subst (λ (all : List Reads). IsCover (record { kind = RightDriven; heads = left ∷ (right ∷ []); wide = wide }) all) (sym shared.each)
      (covers.right_driven shared.groups left right wide (producer_groups settings (left ∷ []) wide right subtasks shared))

  pub rights_inner : (left right : Grid) (wide : List Grid) → ShareProducers settings (left ∷ []) right wide subtasks
      → IsCover (record { kind = Inner; heads = left ∷ (right ∷ []); wide = wide }) subtasks
  rights_inner left right wide shared =
      subst (λ (all : List Reads). IsCover (record { kind = Inner; heads = left ∷ (right ∷ []); wide = wide }) all) (sym shared.each)
      (covers.right_inner shared.groups left right wide (producer_groups settings (left ∷ []) wide right subtasks shared))

  column_groups : (heads wide : List Grid) (shared : ShareColumns settings heads wide subtasks) → AreGroups (columns_in heads) shared.groups
  column_groups heads wide shared =
      are_groups settings (column_sizes (columns_in heads) heads) (columns_in heads) shared.groups
      (length-map-range_with_len (λ s. capped (sum_by (λ grid. column_size grid s) heads)) 0 (columns_in heads)) shared.grouped

  pub columns_row_wise : (heads wide : List Grid) → All (λ grid. grid.cells ≡ columns_in heads) heads → ShareColumns settings heads wide subtasks
      → IsCover (record { kind = RowWise; heads = heads; wide = wide }) subtasks
  columns_row_wise heads wide equal shared =
      subst (λ (all : List Reads). IsCover (record { kind = RowWise; heads = heads; wide = wide }) all) (sym shared.each)
      (covers.columns_row_wise shared.groups heads wide (columns_in heads) (column_groups heads wide shared) equal)

  pub columns_keyed : (grid : Grid) (wide : List Grid) → 0 < grid.producers → ShareColumns settings (grid ∷ []) wide subtasks
      → IsCover (record { kind = Keyed; heads = grid ∷ []; wide = wide }) subtasks
  columns_keyed grid wide some shared =
      subst (λ (all : List Reads). IsCover (record { kind = Keyed; heads = grid ∷ []; wide = wide }) all) (sym shared.each)
      (covers.columns_keyed shared.groups grid wide (column_groups (grid ∷ []) wide shared) some)
