-- The operators at the head of a vertex, and where the rows that meet stand.
use Rattle.std.specs.Prelude.{◌≡◌, ◌<◌, ℕ, Bool, false, List, ◌++◌, map, filter, All}
use Rattle.std.specs.List.{flat_map}
use Rattle.row_core.specs.Bags.{SameBag}
use Rattle.bag_laws.specs.Rows.{OneRow as Row}
use Rattle.rect_cover.specs.Cells.{Input}

-- whether two rows match, and what a row gives with its matches
abbrev pub Match : Type 0
Match = Row → Row → Bool

abbrev pub Gives : Type 0
Gives = Row → List Row → List Row

-- the sum, over the left rows, of what a row gives with its matches on the right
abbrev pub driven : Match → Gives → List Row → List Row → List Row
driven matches gives lefts rights =
    flat_map (λ left. gives left (filter (λ right. matches left right) rights)) lefts

-- what a row gives depends on the bag of its matches alone
pub record GivesBags (gives : Gives) : Type 0 where
  pub same : (row : Row) (matched others : List Row)
      → SameBag matched others → SameBag (gives row matched) (gives row others)

-- a row for each pair that matches
abbrev pub paired : Match → (Row → Row → Row) → List Row → List Row → List Row
paired matches pair lefts rights =
    driven matches (λ left matched. map (λ right. pair left right) matched) lefts rights

-- what the right rows give, with their matches on the left
abbrev pub driven_back : Match → Gives → List Row → List Row → List Row
driven_back matches gives lefts rights =
    driven (λ right left. matches left right) gives rights lefts

-- what the left rows give with their matches, and what the right rows give with theirs
abbrev pub both_driven : Match → Gives → Gives → List Row → List Row → List Row
both_driven matches gives lonely lefts rights =
    driven matches gives lefts rights ++ driven_back matches lonely lefts rights

-- rows that match stand in one column
pub record MatchesInColumn (matches : Match) (left right : Input) : Type 0 where
  pub apart : (p s q u : ℕ) → p < left.grid.producers → s < left.grid.cells
      → q < right.grid.producers → u < right.grid.cells → (s ≡ u → ⊥)
      → All (λ l. All (λ r. matches l r ≡ false) (right.rows q u)) (left.rows p s)

-- rows that meet stand in one column
pub record MeetsInColumn (meets : Match) (input : Input) : Type 0 where
  pub apart : (p s q u : ℕ) → p < input.grid.producers → s < input.grid.cells
      → q < input.grid.producers → u < input.grid.cells → (s ≡ u → ⊥)
      → All (λ x. All (λ y. meets x y ≡ false) (input.rows q u)) (input.rows p s)

-- each row stands in the column of its place, as of its key's hash modulo the number of columns
pub record StandsAt (place : Row → ℕ) (input : Input) : Type 0 where
  pub stands : (p s : ℕ) → p < input.grid.producers → s < input.grid.cells
      → All (λ row. place row ≡ s) (input.rows p s)
