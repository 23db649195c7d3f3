-- What a vertex gives, of whole bags and of a subtask's cells.
use Rattle.std.specs.Prelude.{ℕ, suc, ⊤, List, [], ◌∷◌, map, slice_index_or}
use Rattle.std.specs.List.{flat_map}
use Rattle.row_core.specs.Bags.{SameBag}
use Rattle.bag_laws.specs.Rows.{OneRow as Row, IsKeyed}
use Rattle.rect_cover.specs.declared.grid.Grid.{Grid}
use Rattle.rect_cover.specs.declared.shape.Shape.{Shape}
use Rattle.rect_cover.specs.declared.shape_kind.ShapeKind.{ShapeKind}
use Rattle.rect_cover.specs.declared.shape_kind.ShapeKind.TheVariants.{RowWise, Keyed, LeftDriven}
use Rattle.rect_cover.specs.declared.shape_kind.ShapeKind.TheVariants.{RightDriven, Inner, Full}
use Rattle.rect_cover.specs.Cells.{Reads, Input, rows_of, read_of}
use Rattle.rect_cover.specs.Heads.{Match, Gives, driven, driven_back, paired, both_driven}
use Rattle.rect_cover.specs.Heads.{GivesBags, MatchesInColumn, MeetsInColumn}

-- the operator at the head of a vertex, by what it owes to the rows
pub data Head : Type 0 where
  by_row : (Row → List Row) → Head
  by_key : Match → (List Row → List Row) → Head
  by_left : Match → Gives → Head
  by_right : Match → Gives → Head
  by_pair : Match → (Row → Row → Row) → Head
  by_both : Match → Gives → Gives → Head

abbrev pub kind_of : Head → ShapeKind
kind_of (by_row gives) = RowWise
kind_of (by_key meets op) = Keyed
kind_of (by_left matches gives) = LeftDriven
kind_of (by_right matches gives) = RightDriven
kind_of (by_pair matches pair) = Inner
kind_of (by_both matches gives lonely) = Full

abbrev pub input_at : List (List Row) → ℕ → List Row
input_at inputs i = slice_index_or inputs i []

-- what the head gives of its inputs' rows
abbrev pub head_rows : Head → List (List Row) → List Row
head_rows (by_row gives) inputs = flat_map gives (flat_map (λ rows. rows) inputs)
head_rows (by_key meets op) inputs = op (input_at inputs 0)
head_rows (by_left matches gives) inputs =
    driven matches gives (input_at inputs 0) (input_at inputs 1)
head_rows (by_right matches gives) inputs =
    driven_back matches gives (input_at inputs 0) (input_at inputs 1)
head_rows (by_pair matches pair) inputs =
    paired matches pair (input_at inputs 0) (input_at inputs 1)
head_rows (by_both matches gives lonely) inputs =
    both_driven matches gives lonely (input_at inputs 0) (input_at inputs 1)

abbrev pub grids_of : List Input → List Grid
grids_of inputs = map (λ input. input.grid) inputs

-- the rows of each input, whole
abbrev pub wholes : List Input → List (List Row)
wholes inputs = map rows_of inputs

-- what a subtask reads of the inputs, which are numbered from first on
abbrev pub readings : List Input → ℕ → Reads → List (List Row)
readings [] first subtask = []
readings (input ∷ inputs) first subtask =
    read_of input first subtask ∷ readings inputs (suc first) subtask

-- the head goes by bags, and the rows that meet stand in one column
abbrev pub IsPlaced : Head → List Input → Type 0
IsPlaced (by_row gives) inputs = ⊤
IsPlaced (by_key meets op) (input ∷ []) = IsKeyed meets op × MeetsInColumn meets input
IsPlaced (by_left matches gives) (left ∷ (right ∷ [])) =
    GivesBags gives × MatchesInColumn matches left right
IsPlaced (by_right matches gives) (left ∷ (right ∷ [])) =
    GivesBags gives × MatchesInColumn matches left right
IsPlaced (by_pair matches pair) (left ∷ (right ∷ [])) = MatchesInColumn matches left right
IsPlaced (by_both matches gives lonely) (left ∷ (right ∷ [])) =
    GivesBags gives × GivesBags lonely × MatchesInColumn matches left right
IsPlaced head inputs = ⊥

-- a node of the chain: row by row, or a join, of its build side's rows and a row of its probe side
pub data Link : Type 0 where
  plain : (Row → List Row) → Link
  widened : (List Row → Row → List Row) → Link

-- a chained join gives the same bag for equal bags on its build side
abbrev pub LinksByBags : List Link → Type 0
LinksByBags [] = ⊤
LinksByBags (plain gives ∷ links) = LinksByBags links
LinksByBags (widened step ∷ links) =
    ((rows others : List Row) → SameBag rows others
    → (row : Row) → SameBag (step rows row) (step others row))
    × LinksByBags links

abbrev pub rest_of : List (List Row) → List (List Row)
rest_of [] = []
rest_of (rows ∷ wide) = wide

-- the chained nodes, each with the rows of its build side, where it has one
abbrev pub linked : List Link → List (List Row) → List (Row → List Row)
linked [] wide = []
linked (plain gives ∷ links) wide = gives ∷ linked links wide
linked (widened step ∷ links) wide = step (input_at wide 0) ∷ linked links (rest_of wide)

-- what the head gives goes by the bags of its inputs
abbrev pub GoesByBags : Head → Type 0
GoesByBags (by_row gives) = ⊤
GoesByBags (by_key meets op) = IsKeyed meets op
GoesByBags (by_left matches gives) = GivesBags gives
GoesByBags (by_right matches gives) = GivesBags gives
GoesByBags (by_pair matches pair) = ⊤
GoesByBags (by_both matches gives lonely) = GivesBags gives × GivesBags lonely

abbrev pub shape_of : Head → List Input → List Input → Shape
shape_of head inputs wide =
    record { kind = kind_of head; heads = grids_of inputs; wide = grids_of wide }
