-- What the subtasks of a vertex read is a cover of its shape.
use Rattle.std.proofs.Common.{◌≡◌, ◌<◌, Bool, true, false, All, List, [], ◌∷◌, sym, subst}
use Rattle.plan_model.specs.declared.setting_values.SettingValues.{SettingValues}
use Rattle.rect_cover.specs.Cells.{Reads}
use Rattle.rect_cover.specs.Covers.{IsCover}
use Rattle.rect_cover.specs.declared.grid.Grid.{Grid}
use Rattle.rect_cover.specs.declared.shape_kind.ShapeKind.TheVariants.{RowWise, Keyed}
use Rattle.vertex_builder.specs.declared.vertex.Vertex.{Vertex}
use Rattle.grid_groups.specs.Reads.{columns_in, ShareColumns}
use Rattle.grid_groups.proofs.Laws.{producers_row_wise, columns_row_wise, columns_keyed}
use Rattle.parallelism_decider.specs.Decisions.{head_grids, wide_grids, goes_forward, HasShape, IsShared, IsDecided, shape_of, TakesKeys}

shared_rows : (forward : Bool) (heads wide : List Grid) (settings : SettingValues) (subtasks : List Reads)
    → All (λ grid. grid.cells ≡ columns_in heads) heads → IsShared forward heads wide settings subtasks
    → IsCover (record { kind = RowWise; heads = heads; wide = wide }) subtasks
shared_rows true [] wide settings subtasks equal shared = columns_row_wise settings subtasks [] wide equal shared
shared_rows true (grid ∷ []) wide settings subtasks equal shared = producers_row_wise settings subtasks grid wide shared
shared_rows true (grid ∷ (next ∷ heads)) wide settings subtasks equal shared = columns_row_wise settings subtasks (grid ∷ (next ∷ heads)) wide equal shared
shared_rows false heads wide settings subtasks equal shared = columns_row_wise settings subtasks heads wide equal shared

pub decided_rows : (vertex : Vertex) (grids : List Grid) (settings : SettingValues) (subtasks : List Reads)
    → HasShape vertex grids → IsDecided vertex grids settings subtasks → IsCover (shape_of RowWise vertex grids) subtasks
decided_rows vertex grids settings subtasks shape decided =
    shared_rows (goes_forward vertex) (head_grids vertex grids) (wide_grids vertex grids) settings subtasks shape.equal decided

shared_keys : (forward : Bool) (heads wide : List Grid) (settings : SettingValues) (subtasks : List Reads) (grid : Grid)
    → forward ≡ false → heads ≡ grid ∷ [] → 0 < grid.producers → IsShared forward heads wide settings subtasks
    → IsCover (record { kind = Keyed; heads = heads; wide = wide }) subtasks
shared_keys forward heads wide settings subtasks grid spread one some shared =
    let own : ShareColumns settings (grid ∷ []) wide subtasks =
    subst (λ (hs : List Grid). IsShared false hs wide settings subtasks) one (subst (λ (b : Bool). IsShared b heads wide settings subtasks) spread shared) in
    subst (λ (hs : List Grid). IsCover (record { kind = Keyed; heads = hs; wide = wide }) subtasks) (sym one)
    (columns_keyed settings subtasks grid wide some own)

pub decided_keys : (vertex : Vertex) (grids : List Grid) (settings : SettingValues) (subtasks : List Reads)
    → TakesKeys vertex grids → IsDecided vertex grids settings subtasks → IsCover (shape_of Keyed vertex grids) subtasks
decided_keys vertex grids settings subtasks keys decided =
    shared_keys (goes_forward vertex) (head_grids vertex grids) (wide_grids vertex grids) settings subtasks keys.grid keys.spread keys.one keys.some decided
