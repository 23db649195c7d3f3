-- The sum over the subtasks of an operator on its rects is the operator on the whole.
use Rattle.std.proofs.Common.{◌≡◌, ℕ, ◌*◌, ◌<◌, ⊎_elim, Bool, false, cond, All, List, map, sym, subst, ◌∙◌, ap, arith}
use Rattle.std.proofs.Math.Nat.{zero-mul, mul-zero, one-mul, mul_assoc}
use Rattle.std.proofs.lemmas.Bool.{cases_eq}
use Rattle.std.specs.List.{flat_map, filter, sum_by}
use Rattle.row_core.specs.Bags.{SameBag}
use Rattle.bag_laws.specs.Rows.{OneRow as Row}
use Rattle.bag_laws.proofs.Laws.{total, total-each, total-where, total-times, total-flat_map, total-map, total-filter, total-zero, total-scaled, by_weights, weighs}
use Rattle.rect_cover.specs.declared.grid.Grid.{Grid}
use Rattle.rect_cover.specs.Cells.{Reads, rects_of, times, whole, reading}
use Rattle.rect_cover.specs.Covers.{EachOnce, HasWhole, HasPartners, IsDriven, EachPair}
use Rattle.rect_cover.specs.Heads.{driven, paired, GivesBags, MatchesInColumn}
use Rattle.rect_cover.proofs.Areas.{area, area-agree, area-scaled, total-area, total-whole, total-reading, total-is_sum_by}

-- what each cell weighs, summed over the subtasks that have it, is what all weigh
pub once_sum : (grid : Grid) (input : ℕ) (ts : List Reads) (f : ℕ → ℕ → ℕ) → EachOnce grid input ts
    → total (λ t. area grid (λ p s. times (rects_of t input) p s * f p s)) ts ≡ area grid f
once_sum grid input ts f each =
    total-area grid (λ t p s. times (rects_of t input) p s * f p s) ts
    ∙ area-agree grid (λ p s. total (λ t. times (rects_of t input) p s * f p s) ts) f (λ p s lt less.
    total-times (λ t. times (rects_of t input) p s) (f p s) ts
    ∙ ap (λ (n : ℕ). n * f p s) (total-is_sum_by (λ t. times (rects_of t input) p s) ts ∙ each.once p s lt less)
    ∙ one-mul (f p s))

-- the subtasks' rows are the whole
pub row_wise : (grid : Grid) (input : ℕ) (rows : ℕ → ℕ → List Row) (ts : List Reads) → EachOnce grid input ts
    → SameBag (flat_map (λ t. reading grid rows (rects_of t input)) ts) (whole grid rows)
row_wise grid input rows ts each = by_weights (λ w.
    total-flat_map w (λ t. reading grid rows (rects_of t input)) ts
    ∙ total-each (λ t. total w (reading grid rows (rects_of t input))) (λ t. area grid (λ p s. times (rects_of t input) p s * total w (rows p s))) ts (λ t. total-reading w grid rows (rects_of t input))
    ∙ once_sum grid input ts (λ p s. total w (rows p s)) each
    ∙ sym (total-whole w grid rows))

-- a wide input is read whole
pub reads_whole : (grid : Grid) (input : ℕ) (rows : ℕ → ℕ → List Row) (t : Reads) → HasWhole grid (rects_of t input)
    → SameBag (reading grid rows (rects_of t input)) (whole grid rows)
reads_whole grid input rows t has = by_weights (λ w.
    total-reading w grid rows (rects_of t input)
    ∙ area-agree grid (λ p s. times (rects_of t input) p s * total w (rows p s)) (λ p s. total w (rows p s)) (λ p s lt less.
    ap (λ (n : ℕ). n * total w (rows p s)) (has.each p s lt less) ∙ one-mul (total w (rows p s)))
    ∙ sym (total-whole w grid rows))

-- Left, semi and anti joins.
module _ (matches : Row → Row → Bool) (gives : Row → List Row → List Row) (bags : GivesBags gives)
    (left right : Grid) (input other : ℕ) (ls : ℕ → ℕ → List Row) (rs : ℕ → ℕ → List Row) (in_column : MatchesInColumn matches (record { grid = left; rows = ls }) (record { grid = right; rows = rs })) where
  -- a subtask that has the cell has all matches of its rows
  matched : (t : Reads) (p s : ℕ) (l : Row) → p < left.producers → s < left.cells
      → ((q : ℕ) → q < right.producers → s < right.cells → times (rects_of t other) q s ≡ 1)
      → ((q u : ℕ) → q < right.producers → u < right.cells → (s ≡ u → ⊥) → All (λ r. matches l r ≡ false) (rs q u))
      → SameBag (filter (matches l) (reading right rs (rects_of t other))) (filter (matches l) (whole right rs))
  matched t p s l lt less has apart = by_weights (λ w.
      let v : Row → ℕ = λ r. cond (matches l r) (w r) 0 in
      total-filter w (matches l) (reading right rs (rects_of t other))
      ∙ total-reading v right rs (rects_of t other)
      ∙ area-agree right (λ q u. times (rects_of t other) q u * total v (rs q u)) (λ q u. total v (rs q u)) (λ q u below within.
      ⊎_elim
      (λ (same : s ≡ u).
      let P : ℕ → Type 0 = λ n. n < right.cells → times (rects_of t other) q n ≡ 1 in
      let is : times (rects_of t other) q u ≡ 1 = subst P same (has q below) within in
      ap (λ (n : ℕ). n * total v (rs q u)) is ∙ one-mul (total v (rs q u)))
      (λ (differ : s ≡ u → ⊥).
      let none : total v (rs q u) ≡ 0 =
      total-where (λ r. matches l r ≡ false) v (λ r. 0) (rs q u) (λ r no. ap (λ (b : Bool). cond b (w r) 0) no) (apart q u below within differ)
      ∙ total-zero (rs q u) in
      ap (λ (n : ℕ). times (rects_of t other) q u * n) none ∙ mul-zero (times (rects_of t other) q u) ∙ sym none)
      (cases_eq s u))
      ∙ sym (total-whole v right rs)
      ∙ sym (total-filter w (matches l) (whole right rs)))

  -- no row of this column matches a row of another
  abbrev StaysIn : ℕ → Row → Type 0
  StaysIn s l = (q u : ℕ) → q < right.producers → u < right.cells → (s ≡ u → ⊥) → All (λ r. matches l r ≡ false) (rs q u)

  -- what a left row gives among all right rows, and what it gives in a subtask
  given : (Row → ℕ) → Row → ℕ
  given w l = total w (gives l (filter (matches l) (whole right rs)))

  given_in : (Row → ℕ) → Reads → Row → ℕ
  given_in w t l = total w (gives l (filter (matches l) (reading right rs (rects_of t other))))

  cell_same : (w : Row → ℕ) (t : Reads) (p s : ℕ) → p < left.producers → s < left.cells → HasPartners left right (rects_of t input) (rects_of t other)
      → times (rects_of t input) p s * total (given_in w t) (ls p s) ≡ times (rects_of t input) p s * total (given w) (ls p s)
  unfolding given given_in
  cell_same w t p s lt less partners =
      ⊎_elim
      (λ (none : times (rects_of t input) p s ≡ 0). ap (λ (n : ℕ). n * total (given_in w t) (ls p s)) none ∙ zero-mul (total (given_in w t) (ls p s)) ∙ sym (ap (λ (n : ℕ). n * total (given w) (ls p s)) none ∙ zero-mul (total (given w) (ls p s))))
      (λ (some : times (rects_of t input) p s ≡ 0 → ⊥).
      ap (λ (n : ℕ). times (rects_of t input) p s * n)
      (total-where (StaysIn s) (given_in w t) (given w) (ls p s)
      (λ l stays. weighs (bags.same l (filter (matches l) (reading right rs (rects_of t other))) (filter (matches l) (whole right rs))
      (matched t p s l lt less (λ q below within. partners.each p q s lt less below within (omega arith)) stays)) w)
      (λ k d at q u below within differ. in_column.apart p s q u lt less below within differ k d at)))
      (cases_eq (times (rects_of t input) p s) 0)

  pub left_driven : (ts : List Reads) → IsDriven left input right other ts
      → SameBag (flat_map (λ t. driven matches gives (reading left ls (rects_of t input)) (reading right rs (rects_of t other))) ts) (driven matches gives (whole left ls) (whole right rs))
  unfolding given given_in
  left_driven ts cover = by_weights (λ w.
      let task : Reads → List Row = λ t. driven matches gives (reading left ls (rects_of t input)) (reading right rs (rects_of t other)) in
      total-flat_map w task ts
      ∙ total-where (λ t. HasPartners left right (rects_of t input) (rects_of t other)) (λ t. total w (task t)) (λ t. area left (λ p s. times (rects_of t input) p s * total (given w) (ls p s))) ts
      (λ t partners.
      total-flat_map w (λ l. gives l (filter (matches l) (reading right rs (rects_of t other)))) (reading left ls (rects_of t input))
      ∙ total-reading (given_in w t) left ls (rects_of t input)
      ∙ area-agree left (λ p s. times (rects_of t input) p s * total (given_in w t) (ls p s)) (λ p s. times (rects_of t input) p s * total (given w) (ls p s))
      (λ p s lt less. cell_same w t p s lt less partners))
      cover.partners
      ∙ once_sum left input ts (λ p s. total (given w) (ls p s)) cover.once
      ∙ sym (total-flat_map w (λ l. gives l (filter (matches l) (whole right rs))) (whole left ls) ∙ total-whole (given w) left ls))

-- Inner joins.
module _ (matches : Row → Row → Bool) (pair : Row → Row → Row) where
  -- what a pair gives
  abbrev pub pair_weight : (Row → ℕ) → Row → Row → ℕ
  pair_weight w l r = cond (matches l r) (w (pair l r)) 0

  pub total-paired : (w : Row → ℕ) (xs : List Row) (ys : List Row) → total w (paired matches pair xs ys) ≡ total (λ l. total (pair_weight w l) ys) xs
  total-paired w xs ys =
      total-flat_map w (λ l. map (λ r. pair l r) (filter (matches l) ys)) xs
      ∙ total-each (λ l. total w (map (λ r. pair l r) (filter (matches l) ys))) (λ l. total (pair_weight w l) ys) xs
      (λ l. total-map w (λ r. pair l r) (filter (matches l) ys) ∙ total-filter (λ r. w (pair l r)) (matches l) ys)

module _ (matches : Row → Row → Bool) (pair : Row → Row → Row)
    (left right : Grid) (input other : ℕ) (ls : ℕ → ℕ → List Row) (rs : ℕ → ℕ → List Row) (in_column : MatchesInColumn matches (record { grid = left; rows = ls }) (record { grid = right; rows = rs })) where
  -- what the rows of a left and a right cell give
  cells_weight : (Row → ℕ) → ℕ → ℕ → ℕ → ℕ → ℕ
  cells_weight w p s q u = total (λ l. total (pair_weight matches pair w l) (rs q u)) (ls p s)

  cells_apart : (w : Row → ℕ) (p s q u : ℕ) → p < left.producers → s < left.cells → q < right.producers → u < right.cells → (s ≡ u → ⊥) → cells_weight w p s q u ≡ 0
  unfolding cells_weight
  cells_apart w p s q u lt less below within differ =
      total-where (λ l. All (λ r. matches l r ≡ false) (rs q u)) (λ l. total (pair_weight matches pair w l) (rs q u)) (λ l. 0) (ls p s)
      (λ l none. total-where (λ r. matches l r ≡ false) (pair_weight matches pair w l) (λ r. 0) (rs q u) (λ r no. ap (λ (b : Bool). cond b (w (pair l r)) 0) no) none ∙ total-zero (rs q u))
      (in_column.apart p s q u lt less below within differ)
      ∙ total-zero (ls p s)

  abbrev held : Reads → ℕ → ℕ → ℕ
  held t p s = times (rects_of t input) p s

  abbrev held_right : Reads → ℕ → ℕ → ℕ
  held_right t q u = times (rects_of t other) q u

  in_task : (w : Row → ℕ) (t : Reads) → total w (paired matches pair (reading left ls (rects_of t input)) (reading right rs (rects_of t other)))
      ≡ area left (λ p s. area right (λ q u. held t p s * held_right t q u * cells_weight w p s q u))
  unfolding cells_weight
  in_task w t =
      let ys : List Row = reading right rs (rects_of t other) in
      total-paired matches pair w (reading left ls (rects_of t input)) ys
      ∙ total-reading (λ l. total (pair_weight matches pair w l) ys) left ls (rects_of t input)
      ∙ area-agree left (λ p s. held t p s * total (λ l. total (pair_weight matches pair w l) ys) (ls p s)) (λ p s. area right (λ q u. held t p s * held_right t q u * cells_weight w p s q u)) (λ p s lt less.
      ap (λ (n : ℕ). held t p s * n)
      (total-each (λ l. total (pair_weight matches pair w l) ys) (λ l. area right (λ q u. held_right t q u * total (pair_weight matches pair w l) (rs q u))) (ls p s) (λ l. total-reading (pair_weight matches pair w l) right rs (rects_of t other))
      ∙ total-area right (λ l q u. held_right t q u * total (pair_weight matches pair w l) (rs q u)) (ls p s)
      ∙ area-agree right (λ q u. total (λ l. held_right t q u * total (pair_weight matches pair w l) (rs q u)) (ls p s)) (λ q u. held_right t q u * cells_weight w p s q u)
      (λ q u below within. total-scaled (λ l. total (pair_weight matches pair w l) (rs q u)) (held_right t q u) (ls p s)))
      ∙ sym (area-scaled right (held t p s) (λ q u. held_right t q u * cells_weight w p s q u))
      ∙ area-agree right (λ q u. held t p s * (held_right t q u * cells_weight w p s q u)) (λ q u. held t p s * held_right t q u * cells_weight w p s q u)
      (λ q u below within. sym (mul_assoc (held t p s) (held_right t q u) (cells_weight w p s q u))))

  in_whole : (w : Row → ℕ) → total w (paired matches pair (whole left ls) (whole right rs)) ≡ area left (λ p s. area right (λ q u. cells_weight w p s q u))
  unfolding cells_weight
  in_whole w =
      total-paired matches pair w (whole left ls) (whole right rs)
      ∙ total-whole (λ l. total (pair_weight matches pair w l) (whole right rs)) left ls
      ∙ area-agree left (λ p s. total (λ l. total (pair_weight matches pair w l) (whole right rs)) (ls p s)) (λ p s. area right (λ q u. cells_weight w p s q u)) (λ p s lt less.
      total-each (λ l. total (pair_weight matches pair w l) (whole right rs)) (λ l. area right (λ q u. total (pair_weight matches pair w l) (rs q u))) (ls p s) (λ l. total-whole (pair_weight matches pair w l) right rs)
      ∙ total-area right (λ l q u. total (pair_weight matches pair w l) (rs q u)) (ls p s))

  pub inner_pairs : (ts : List Reads) → EachPair left input right other ts
      → SameBag (flat_map (λ t. paired matches pair (reading left ls (rects_of t input)) (reading right rs (rects_of t other))) ts) (paired matches pair (whole left ls) (whole right rs))
  inner_pairs ts cover = by_weights (λ w.
      let task : Reads → List Row = λ t. paired matches pair (reading left ls (rects_of t input)) (reading right rs (rects_of t other)) in
      let cells : Reads → ℕ → ℕ → ℕ = λ t p s. area right (λ q u. held t p s * held_right t q u * cells_weight w p s q u) in
      total-flat_map w task ts
      ∙ total-each (λ t. total w (task t)) (λ t. area left (cells t)) ts (in_task w)
      ∙ total-area left cells ts
      ∙ area-agree left (λ p s. total (λ t. cells t p s) ts) (λ p s. area right (λ q u. cells_weight w p s q u)) (λ p s lt less.
      total-area right (λ t q u. held t p s * held_right t q u * cells_weight w p s q u) ts
      ∙ area-agree right (λ q u. total (λ t. held t p s * held_right t q u * cells_weight w p s q u) ts) (λ q u. cells_weight w p s q u) (λ q u below within.
      total-times (λ t. held t p s * held_right t q u) (cells_weight w p s q u) ts
      ∙ ⊎_elim
      (λ (same : s ≡ u).
      let P : ℕ → Type 0 = λ n. n < right.cells → sum_by (λ t. held t p s * held_right t q n) ts ≡ 1 in
      let is : total (λ t. held t p s * held_right t q u) ts ≡ 1 = total-is_sum_by (λ t. held t p s * held_right t q u) ts ∙ subst P same (cover.once p q s lt less below) within in
      ap (λ (n : ℕ). n * cells_weight w p s q u) is ∙ one-mul (cells_weight w p s q u))
      (λ (differ : s ≡ u → ⊥).
      let none = cells_apart w p s q u lt less below within differ in
      ap (λ (n : ℕ). total (λ t. held t p s * held_right t q u) ts * n) none ∙ mul-zero (total (λ t. held t p s * held_right t q u) ts) ∙ sym none)
      (cases_eq s u)))
      ∙ sym (in_whole w))
