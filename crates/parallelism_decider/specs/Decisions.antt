-- What the subtasks of a vertex read whose head is no join.
use Rattle.std.specs.Prelude.{◌≡◌, ◌<◌, ℕ, ◌==◌, Bool, true, false, List, [], ◌∷◌, length, take, drop, count_by, slice_get, All}
use Rattle.std.specs.Option.{option_map_or}
use Rattle.plan_model.specs.declared.setting_values.SettingValues.{SettingValues}
use Rattle.plan_model.specs.declared.ship.Ship.{Ship}
use Rattle.plan_model.specs.declared.ship.Ship.TheVariants.{Forward}
use Rattle.rect_cover.specs.Cells.{Reads}
use Rattle.rect_cover.specs.declared.grid.Grid.{Grid}
use Rattle.rect_cover.specs.declared.shape.Shape.{Shape}
use Rattle.rect_cover.specs.declared.shape_kind.ShapeKind.{ShapeKind}
use Rattle.vertex_builder.specs.Vertices.{head_of}
use Rattle.vertex_builder.specs.declared.vertex.Vertex.{Vertex}
use Rattle.grid_groups.specs.Reads.{columns_in, ShareProducers, ShareColumns}

-- how many inputs are those of the head; the wide ones come after them
abbrev pub head_inputs : Vertex → ℕ
head_inputs vertex = count_by (λ input. input.into == head_of vertex) vertex.inputs

abbrev pub head_grids : Vertex → List Grid → List Grid
head_grids vertex grids = take (head_inputs vertex) grids

abbrev pub wide_grids : Vertex → List Grid → List Grid
wide_grids vertex grids = drop (head_inputs vertex) grids

abbrev pub is_forward : Ship → Bool
is_forward Forward = true
is_forward _ = false

-- the head takes files, or rows that are shipped forward
abbrev pub goes_forward : Vertex → Bool
goes_forward vertex = option_map_or (λ input. is_forward input.ship) (slice_get vertex.inputs 0) false

-- a grid for each input, those of the head with equally many columns
pub record HasShape (vertex : Vertex) (grids : List Grid) : Type 0 where
  pub one_each : length grids ≡ length vertex.inputs
  pub equal : All (λ grid. grid.cells ≡ columns_in (head_grids vertex grids))
      (head_grids vertex grids)

-- the producers are shared of one input that goes forward, and else the columns of all
abbrev pub IsShared : Bool → List Grid → List Grid → SettingValues → List Reads → Type 0
IsShared true (grid ∷ []) wide settings subtasks = ShareProducers settings [] grid wide subtasks
IsShared forward heads wide settings subtasks = ShareColumns settings heads wide subtasks

-- what the subtasks of a vertex read
abbrev pub IsDecided : Vertex → List Grid → SettingValues → List Reads → Type 0
IsDecided vertex grids settings subtasks =
    IsShared (goes_forward vertex) (head_grids vertex grids) (wide_grids vertex grids)
    settings subtasks

-- the shape of a vertex, by the kind of its head
abbrev pub shape_of : ShapeKind → Vertex → List Grid → Shape
shape_of kind vertex grids =
    record { kind = kind; heads = head_grids vertex grids; wide = wide_grids vertex grids }

-- the head takes rows by the hash of their keys, at one input that has producers
pub record TakesKeys (vertex : Vertex) (grids : List Grid) : Type 0 where
  pub spread : goes_forward vertex ≡ false
  pub grid : Grid
  pub one : head_grids vertex grids ≡ grid ∷ []
  pub some : 0 < grid.producers
