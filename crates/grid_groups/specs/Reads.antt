-- What the subtasks read that share the producers or the columns of inputs by their sizes.
use Rattle.std.specs.Prelude.{◌≡◌, ◌<◌, ◌≤◌, ℕ, ◌&&◌, nat_lt, List, [], ◌∷◌, ◌++◌, length, map, if◌then◌else◌}
use Rattle.plan_model.specs.declared.setting_values.SettingValues.{SettingValues}
use Rattle.rect_cover.specs.Cells.{Reads}
use Rattle.rect_cover.specs.declared.grid.Grid.{Grid}
use Rattle.rect_cover.specs.declared.rect.Rect.{Rect}
use Rattle.volume_split.specs.Choices.{IsChosen}
use Rattle.volume_split.specs.Groups.{Parts}
use Rattle.volume_split.specs.declared.group.Group.{Group}
use Rattle.grid_groups.specs.Sizes.{producer_sizes, column_sizes}

-- a rect, if it has cells
abbrev pub if_filled : Rect → List Rect
if_filled rect = if nat_lt rect.p0 rect.p1 && nat_lt rect.s0 rect.s1 then rect ∷ [] else []

-- all cells of an input
abbrev pub whole_of : Grid → List Rect
whole_of grid = if_filled (record { p0 = 0; p1 = grid.producers; s0 = 0; s1 = grid.cells })

-- the cells of a group of producers
abbrev pub producers_of : Grid → Group → List Rect
producers_of grid group =
    if_filled (record { p0 = group.start; p1 = group.end; s0 = 0; s1 = grid.cells })

-- the cells of a group of columns
abbrev pub columns_of : Grid → Group → List Rect
columns_of grid group =
    if_filled (record { p0 = 0; p1 = grid.producers; s0 = group.start; s1 = group.end })

-- a group of one input's producers, and the inputs before and after it whole
abbrev pub by_producers : List Grid → Grid → List Grid → Group → Reads
by_producers before grid after group =
    map whole_of before ++ producers_of grid group ∷ map whole_of after

-- a group of the columns of some inputs, and the inputs after them whole
abbrev pub by_columns : List Grid → List Grid → Group → Reads
by_columns heads wide group = map (λ grid. columns_of grid group) heads ++ map whole_of wide

-- the columns of inputs that have equally many
abbrev pub columns_in : List Grid → ℕ
columns_in [] = 0
columns_in (grid ∷ grids) = grid.cells

-- groups of items by their sizes, as the settings say
pub record IsGrouped (settings : SettingValues) (sizes : List ℕ) (groups : List Group) : Type 0 where
  pub chosen : IsChosen settings.target_bytes settings.min_parallelism settings.max_parallelism
      sizes groups
  pub parts : Parts 0 (length sizes) groups
  pub some : 0 < length groups
  pub few : length groups ≤ 128

-- one subtask for each of these groups, which reads what the group says
pub record ReadGroups (settings : SettingValues) (sizes : List ℕ) (read : Group → Reads)
    (subtasks : List Reads) : Type 0 where
  pub groups : List Group
  pub grouped : IsGrouped settings sizes groups
  pub each : subtasks ≡ map read groups

-- the subtasks that share one input's producers, and read the inputs before and after it whole
abbrev pub ShareProducers :
    SettingValues → List Grid → Grid → List Grid → List Reads → Type 0
ShareProducers settings before grid after subtasks =
    ReadGroups settings (producer_sizes grid) (by_producers before grid after) subtasks

-- the subtasks that share the columns of inputs, and read the inputs after them whole
abbrev pub ShareColumns : SettingValues → List Grid → List Grid → List Reads → Type 0
ShareColumns settings heads wide subtasks =
    ReadGroups settings (column_sizes (columns_in heads) heads) (by_columns heads wide) subtasks
