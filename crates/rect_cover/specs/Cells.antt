-- Which cells stand in which rects, and which rows a subtask reads.
use Rattle.std.specs.Prelude.{ℕ, zero, suc, ◌*◌, Bool, ◌&&◌, nat_lt, nat_le, List, [], ◌++◌}
use Rattle.std.specs.Prelude.{slice_index_or, count_by, sum_by, if◌then◌else◌}
use Rattle.std.specs.List.{flat_map, list_any}
use Rattle.bag_laws.specs.Rows.{OneRow as Row}
use Rattle.rect_cover.specs.declared.rect.Rect.{Rect}
use Rattle.rect_cover.specs.declared.grid.Grid.{Grid}

-- a subtask's rects, by input
abbrev pub Reads : Type 0
Reads = List (List Rect)

abbrev pub rects_of : Reads → ℕ → List Rect
rects_of subtask input = slice_index_or subtask input []

abbrev pub is_inside : Rect → ℕ → ℕ → Bool
is_inside rect p s =
    (nat_le rect.p0 p && nat_lt p rect.p1) && (nat_le rect.s0 s && nat_lt s rect.s1)

-- how often the cell stands in the rects
abbrev pub times : List Rect → ℕ → ℕ → ℕ
times rects p s = count_by (λ rect. is_inside rect p s) rects

-- and how often in all subtasks
abbrev pub times_in_all : List Reads → ℕ → ℕ → ℕ → ℕ
times_in_all subtasks input p s = sum_by (λ subtask. times (rects_of subtask input) p s) subtasks

-- how often a cell of the one input and a cell of the other stand together, in all subtasks
abbrev pub pairs_in_all : List Reads → ℕ → ℕ → ℕ → ℕ → ℕ → ℕ
pairs_in_all subtasks input other p q s =
    sum_by (λ subtask. times (rects_of subtask input) p s * times (rects_of subtask other) q s)
    subtasks

-- a rect has cells of the column
abbrev pub touches : List Rect → ℕ → Bool
touches rects s = list_any (λ rect. nat_le rect.s0 s && nat_lt s rect.s1) rects

-- how many subtasks have cells of the column
abbrev pub touching : List Reads → ℕ → ℕ → ℕ
touching subtasks input s = count_by (λ subtask. touches (rects_of subtask input) s) subtasks

-- the lists of the numbers below n, in order
abbrev pub gathered : ℕ → (ℕ → List Row) → List Row
gathered zero rows = []
gathered (suc n) rows = gathered n rows ++ rows n

-- all rows of a grid's cells, by producer and then by cell
abbrev pub whole : Grid → (ℕ → ℕ → List Row) → List Row
whole grid rows = gathered grid.producers (λ p. gathered grid.cells (λ s. rows p s))

-- the rows of the rects' cells
abbrev pub reading : Grid → (ℕ → ℕ → List Row) → List Rect → List Row
reading grid rows rects =
    flat_map (λ rect. whole grid (λ p s. if is_inside rect p s then rows p s else [])) rects

-- an input's cells, and the rows of each
pub record Input : Type 0 where
  pub grid : Grid
  pub rows : ℕ → ℕ → List Row

-- all its rows, and those that a subtask reads of it where it stands at a place
abbrev pub rows_of : Input → List Row
rows_of input = whole input.grid input.rows

abbrev pub read_of : Input → ℕ → Reads → List Row
read_of input place subtask = reading input.grid input.rows (rects_of subtask place)
