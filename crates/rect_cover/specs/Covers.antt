-- Which assignments are covers, cell by cell.
use Rattle.std.specs.Prelude.{◌≡◌, ℕ, ◌^◌, ◌<◌, ◌≤◌, max, List, [], ◌∷◌, ◌++◌, length, drop}
use Rattle.std.specs.Prelude.{slice_get, All, IsTrue, Some}
use Rattle.std.specs.List.{AllZip}
use Rattle.rect_cover.specs.declared.rect.Rect.{Rect}
use Rattle.rect_cover.specs.declared.grid.Grid.{Grid}
use Rattle.rect_cover.specs.declared.shape.Shape.{Shape}
use Rattle.rect_cover.specs.declared.shape_kind.ShapeKind.{ShapeKind}
use Rattle.rect_cover.specs.declared.shape_kind.ShapeKind.TheVariants.{RowWise, Keyed, LeftDriven}
use Rattle.rect_cover.specs.declared.shape_kind.ShapeKind.TheVariants.{RightDriven, Inner, Full}
use Rattle.rect_cover.specs.Cells.{Reads, rects_of, times, times_in_all, pairs_in_all}
use Rattle.rect_cover.specs.Cells.{touches, touching}

-- a rect that has cells, all of them the grid's
pub record LiesIn (grid : Grid) (rect : Rect) : Type 0 where
  pub producers : rect.p0 < rect.p1
  pub last_producer : rect.p1 ≤ grid.producers
  pub cells : rect.s0 < rect.s1
  pub last_cell : rect.s1 ≤ grid.cells

-- the rects of one input: no cell stands twice
pub record IsInput (grid : Grid) (rects : List Rect) : Type 0 where
  pub lie : All (LiesIn grid) rects
  pub single : (p s : ℕ) → p < grid.producers → s < grid.cells → times rects p s ≤ 1

-- every cell, once
pub record HasWhole (grid : Grid) (rects : List Rect) : Type 0 where
  pub each : (p s : ℕ) → p < grid.producers → s < grid.cells → times rects p s ≡ 1

-- each cell of the input is in exactly one subtask, once
pub record EachOnce (grid : Grid) (input : ℕ) (subtasks : List Reads) : Type 0 where
  pub once : (p s : ℕ) → p < grid.producers → s < grid.cells → times_in_all subtasks input p s ≡ 1

-- each touched column with all its producers
pub record HasColumns (grid : Grid) (rects : List Rect) : Type 0 where
  pub each : (p s : ℕ) → p < grid.producers → s < grid.cells
      → IsTrue (touches rects s) → times rects p s ≡ 1

-- each column is in exactly one subtask, whole
pub record ByColumns (grid : Grid) (input : ℕ) (subtasks : List Reads) : Type 0 where
  pub full : All (λ subtask. HasColumns grid (rects_of subtask input)) subtasks
  pub once : (s : ℕ) → s < grid.cells → touching subtasks input s ≡ 1

-- who has a left cell has every right cell of its column
pub record HasPartners (left right : Grid) (lefts rights : List Rect) : Type 0 where
  pub each : (p q s : ℕ) → p < left.producers → s < left.cells
      → q < right.producers → s < right.cells → 0 < times lefts p s → times rights q s ≡ 1

-- each left cell is in exactly one subtask, which has every right cell of its column
pub record IsDriven (left : Grid) (input : ℕ) (right : Grid) (other : ℕ)
    (subtasks : List Reads) : Type 0 where
  pub once : EachOnce left input subtasks
  pub partners : All (λ subtask.
      HasPartners left right (rects_of subtask input) (rects_of subtask other)) subtasks

-- in each column each pair of a left and a right cell is in exactly one subtask
pub record EachPair (left : Grid) (input : ℕ) (right : Grid) (other : ℕ)
    (subtasks : List Reads) : Type 0 where
  pub once : (p q s : ℕ) → p < left.producers → s < left.cells
      → q < right.producers → s < right.cells → pairs_in_all subtasks input other p q s ≡ 1

-- each column is in exactly one subtask, whole, and on both sides in the same one
pub record SameColumns (left : Grid) (input : ℕ) (right : Grid) (other : ℕ)
    (subtasks : List Reads) : Type 0 where
  pub lefts : ByColumns left input subtasks
  pub rights : ByColumns right other subtasks
  pub same : All (λ subtask. (s : ℕ) → s < max left.cells right.cells
      → touches (rects_of subtask input) s ≡ touches (rects_of subtask other) s) subtasks

-- each cell of each input is in exactly one subtask
pub record HeadsOnce (heads : List Grid) (subtasks : List Reads) : Type 0 where
  pub each : (input : ℕ) (grid : Grid) → slice_get heads input ≡ Some grid
      → EachOnce grid input subtasks

-- what the kind demands of the head's inputs
abbrev pub Demand : ShapeKind → List Grid → List Reads → Type 0
Demand RowWise heads subtasks = HeadsOnce heads subtasks
Demand Keyed (grid ∷ []) subtasks = ByColumns grid 0 subtasks
Demand LeftDriven (left ∷ (right ∷ [])) subtasks = IsDriven left 0 right 1 subtasks
Demand RightDriven (left ∷ (right ∷ [])) subtasks = IsDriven right 1 left 0 subtasks
Demand Inner (left ∷ (right ∷ [])) subtasks = EachPair left 0 right 1 subtasks
Demand Full (left ∷ (right ∷ [])) subtasks = SameColumns left 0 right 1 subtasks
Demand kind heads subtasks = ⊥

-- 1 to 4,294,967,295 subtasks, each with the rects of each input and each wide input whole, that
-- meet the demand
pub record IsCover (shape : Shape) (subtasks : List Reads) : Type 0 where
  pub some : 0 < length subtasks
  pub few : length subtasks < 2 ^ 32
  pub formed : All (AllZip IsInput (shape.heads ++ shape.wide)) subtasks
  pub wide : All (λ subtask.
      AllZip HasWhole shape.wide (drop (length shape.heads) subtask)) subtasks
  pub demand : Demand shape.kind shape.heads subtasks
