-- Sums over the cells of a grid.
use Rattle.std.proofs.Common.{◌⊎◌, ⊎_elim, ◌≡◌, ℕ, ◌*◌, ◌<◌, Bool, true, false, cond, List, [], sym, ◌∙◌, ap}
use Rattle.std.proofs.Math.Nat.{zero-mul, one-mul}
use Rattle.std.specs.List.{sum_by}
use Rattle.row_core.specs.Bags.{SameBag}
use Rattle.bag_laws.specs.Rows.{OneRow as Row}
use Rattle.bag_laws.proofs.Laws.{total, total_is, total-each, total-times, total-flat_map, by_weights, weighs}
use Rattle.rect_cover.specs.declared.rect.Rect.{Rect}
use Rattle.rect_cover.specs.declared.grid.Grid.{Grid}
use Rattle.rect_cover.specs.Cells.{is_inside, times, whole, reading, gathered}
use Rattle.rect_cover.proofs.Sums.{below, below-agree, below-scaled, total-below, total-gathered}

-- the sum of f over the cells
abbrev pub area : Grid → (ℕ → ℕ → ℕ) → ℕ
area grid f = below grid.producers (λ p. below grid.cells (λ s. f p s))

pub total-is_sum_by : {T : Type 0} (w : T → ℕ) (xs : List T) → total w xs ≡ sum_by w xs
total-is_sum_by w xs = sym (total_is w xs)

pub area-agree : (grid : Grid) (f g : ℕ → ℕ → ℕ) → ((p s : ℕ) → p < grid.producers → s < grid.cells → f p s ≡ g p s) → area grid f ≡ area grid g
area-agree grid f g same =
    below-agree grid.producers (λ p. below grid.cells (f p)) (λ p. below grid.cells (g p)) (λ p lt. below-agree grid.cells (f p) (g p) (λ s less. same p s lt less))

pub area-scaled : (grid : Grid) (c : ℕ) (f : ℕ → ℕ → ℕ) → area grid (λ p s. c * f p s) ≡ c * area grid f
area-scaled grid c f =
    below-agree grid.producers (λ p. below grid.cells (λ s. c * f p s)) (λ p. c * below grid.cells (f p)) (λ p lt. below-scaled grid.cells c (f p))
    ∙ below-scaled grid.producers c (λ p. below grid.cells (f p))

module _ {T : Type 0} where
  pub total-area : (grid : Grid) (f : T → ℕ → ℕ → ℕ) (xs : List T) → total (λ x. area grid (λ p s. f x p s)) xs ≡ area grid (λ p s. total (λ x. f x p s) xs)
  total-area grid f xs =
      total-below grid.producers (λ x p. below grid.cells (λ s. f x p s)) xs
      ∙ below-agree grid.producers (λ p. total (λ x. below grid.cells (λ s. f x p s)) xs) (λ p. below grid.cells (λ s. total (λ x. f x p s) xs)) (λ p lt. total-below grid.cells (λ x s. f x p s) xs)

pub total-whole : (w : Row → ℕ) (grid : Grid) (rows : ℕ → ℕ → List Row) → total w (whole grid rows) ≡ area grid (λ p s. total w (rows p s))
total-whole w grid rows =
    total-gathered w grid.producers (λ p. gathered grid.cells (λ s. rows p s))
    ∙ below-agree grid.producers (λ p. total w (gathered grid.cells (λ s. rows p s))) (λ p. below grid.cells (λ s. total w (rows p s))) (λ p lt. total-gathered w grid.cells (λ s. rows p s))

kept : (w : Row → ℕ) (b : Bool) (rows : List Row) → total w (cond b rows []) ≡ cond b 1 0 * total w rows
kept w true rows = sym (one-mul (total w rows))
kept w false rows = sym (zero-mul (total w rows))

pub total-reading : (w : Row → ℕ) (grid : Grid) (rows : ℕ → ℕ → List Row) (rects : List Rect)
    → total w (reading grid rows rects) ≡ area grid (λ p s. times rects p s * total w (rows p s))
total-reading w grid rows rects =
    total-flat_map w (λ r. whole grid (λ p s. cond (is_inside r p s) (rows p s) [])) rects
    ∙ total-each (λ r. total w (whole grid (λ p s. cond (is_inside r p s) (rows p s) []))) (λ r. area grid (λ p s. cond (is_inside r p s) 1 0 * total w (rows p s))) rects
    (λ r. total-whole w grid (λ p s. cond (is_inside r p s) (rows p s) [])
    ∙ area-agree grid (λ p s. total w (cond (is_inside r p s) (rows p s) [])) (λ p s. cond (is_inside r p s) 1 0 * total w (rows p s)) (λ p s lt less. kept w (is_inside r p s) (rows p s)))
    ∙ total-area grid (λ r p s. cond (is_inside r p s) 1 0 * total w (rows p s)) rects
    ∙ area-agree grid (λ p s. total (λ r. cond (is_inside r p s) 1 0 * total w (rows p s)) rects) (λ p s. times rects p s * total w (rows p s))
    (λ p s lt less. total-times (λ r. cond (is_inside r p s) 1 0) (total w (rows p s)) rects
    ∙ ap (λ (n : ℕ). n * total w (rows p s)) (total-is_sum_by (λ r. cond (is_inside r p s) 1 0) rects))

-- a subtask that reads the same bags, cell by cell, reads the same bag
pub reading-same : (grid : Grid) (rows others : ℕ → ℕ → List Row) (rects : List Rect)
    → ((p s : ℕ) → p < grid.producers → s < grid.cells → (times rects p s ≡ 0) ⊎ SameBag (rows p s) (others p s))
    → SameBag (reading grid rows rects) (reading grid others rects)
reading-same grid rows others rects same = by_weights (λ w.
    total-reading w grid rows rects
    ∙ area-agree grid (λ p s. times rects p s * total w (rows p s)) (λ p s. times rects p s * total w (others p s)) (λ p s lt less.
    ⊎_elim
    (λ none. ap (λ (n : ℕ). n * total w (rows p s)) none ∙ zero-mul (total w (rows p s)) ∙ sym (ap (λ (n : ℕ). n * total w (others p s)) none ∙ zero-mul (total w (others p s))))
    (λ bags. ap (λ (n : ℕ). times rects p s * n) (weighs bags w))
    (same p s lt less))
    ∙ sym (total-reading w grid others rects))
