-- Operators that go by keys, where rows with equal keys stand in one column.
use Rattle.std.proofs.Common.{get_or, ◌≡◌, ℕ, zero, suc, ◌+◌, ◌*◌, ◌<◌, ◌≤◌, Bool, true, false, cond, All, List, [], ◌++◌, sym, ◌∙◌, ap, arith}
use Rattle.std.proofs.Math.Nat.{zero-mul, one-mul}
use Rattle.std.proofs.lemmas.List.{append-nil}
use Rattle.std.proofs.lemmas.List.Elements.{All-nil, All-append}
use Rattle.std.specs.List.{flat_map}
use Rattle.row_core.specs.Bags.{SameBag}
use Rattle.bag_laws.specs.Rows.{OneRow as Row, AreApart, IsKeyed}
use Rattle.bag_laws.proofs.Laws.{total, total-append, total-where, total-times, total-flat_map, by_weights, weighs}
use Rattle.rect_cover.specs.declared.grid.Grid.{Grid}
use Rattle.rect_cover.specs.Cells.{Reads, rects_of, times, whole, reading, touches, gathered}
use Rattle.rect_cover.specs.Covers.{HasColumns, ByColumns}
use Rattle.rect_cover.specs.Heads.{MeetsInColumn}
use Rattle.rect_cover.proofs.Sums.{below, total-gathered, total-below, below-agree, below-scaled, below-swap}
use Rattle.rect_cover.proofs.Areas.{area, area-agree, total-whole, total-reading, total-is_sum_by}
use Rattle.rect_cover.proofs.Touched.{by_touch}

All-gathered : (P : Row → Type 0) (n : ℕ) (f : ℕ → List Row) → ((k : ℕ) → k < n → All P (f k)) → All P (gathered n f)
All-gathered P zero f each = All-nil P
All-gathered P (suc n) f each = All-append P (gathered n f) (f n) (All-gathered P n f (λ k lt. each k (omega arith))) (each n (omega arith))

module _ (meets : Row → Row → Bool) (op : List Row → List Row) (keyed : IsKeyed meets op)
    (grid : Grid) (rows : ℕ → ℕ → List Row) (in_column : MeetsInColumn meets (record { grid = grid; rows = rows })) where
  abbrev column : ℕ → List Row
  column s = gathered grid.producers (λ p. rows p s)

  -- the columns below n that b picks
  abbrev picked : ℕ → (ℕ → Bool) → List Row
  picked n b = gathered n (λ s. cond (b s) (column s) [])

  columns_apart : (s u : ℕ) → s < grid.cells → u < grid.cells → (s ≡ u → ⊥) → AreApart meets (column s) (column u)
  columns_apart s u less within differ =
      All-gathered (λ x. All (λ y. meets x y ≡ false) (column u)) grid.producers (λ p. rows p s) (λ p lt i d at.
      All-gathered (λ y. meets (get_or (rows p s) i d) y ≡ false) grid.producers (λ q. rows q u) (λ q under. in_column.apart p s q u lt less under within differ i d at))

  picked_apart : (n u : ℕ) (b : ℕ → Bool) → n ≤ u → u < grid.cells → AreApart meets (picked n b) (column u)
  picked_apart n u b low within =
      All-gathered (λ x. All (λ y. meets x y ≡ false) (column u)) n (λ s. cond (b s) (column s) []) (λ s lt.
      elim (b s) as (λ c. AreApart meets (cond c (column s) []) (column u)) [
        | true ↦ columns_apart s u (omega arith) within (λ same. omega arith)
        | false ↦ All-nil (λ x. All (λ y. meets x y ≡ false) (column u))
      ])

  total-picked : (w : Row → ℕ) (n : ℕ) (b : ℕ → Bool) → n ≤ grid.cells → total w (op (picked n b)) ≡ below n (λ s. cond (b s) 1 0 * total w (op (column s)))
  total-picked w zero b low = ap (total w) keyed.none
  total-picked w (suc n) b low =
      let rest = total-picked w n b (omega arith) in
      let apart = picked_apart n n b (omega arith) (omega arith) in
      let it : (c : Bool) → total w (op (picked n b ++ cond c (column n) [])) ≡ below n (λ s. cond (b s) 1 0 * total w (op (column s))) + cond c 1 0 * total w (op (column n)) =
      λ c. elim c as (λ c. total w (op (picked n b ++ cond c (column n) [])) ≡ below n (λ s. cond (b s) 1 0 * total w (op (column s))) + cond c 1 0 * total w (op (column n))) [
        | true ↦
            weighs (keyed.splits (picked n b) (column n) apart) w
            ∙ total-append w (op (picked n b)) (op (column n))
            ∙ ap (λ (m : ℕ). m + total w (op (column n))) rest
            ∙ ap (λ (m : ℕ). below n (λ s. cond (b s) 1 0 * total w (op (column s))) + m) (sym (one-mul (total w (op (column n)))))
        | false ↦
            ap (λ (l : List Row). total w (op l)) (append-nil (picked n b))
            ∙ rest
            ∙ (let none = zero-mul (total w (op (column n))) in omega arith)
      ] in
      it (b n)

  kept : (v : Row → ℕ) (b : Bool) (xs : List Row) → total v (cond b xs []) ≡ cond b 1 0 * total v xs
  kept v true xs = sym (one-mul (total v xs))
  kept v false xs = sym (zero-mul (total v xs))

  -- the columns that b picks are what a subtask reads that has these
  picks : (list : List Row) (b : ℕ → Bool) → ((v : Row → ℕ) → total v list ≡ area grid (λ p s. cond (b s) 1 0 * total v (rows p s))) → SameBag list (picked grid.cells b)
  picks list b is = by_weights (λ v.
      is v
      ∙ below-swap grid.producers grid.cells (λ p s. cond (b s) 1 0 * total v (rows p s))
      ∙ below-agree grid.cells (λ s. below grid.producers (λ p. cond (b s) 1 0 * total v (rows p s))) (λ s. total v (cond (b s) (column s) [])) (λ s less.
      below-scaled grid.producers (cond (b s) 1 0) (λ p. total v (rows p s))
      ∙ ap (λ (n : ℕ). cond (b s) 1 0 * n) (sym (total-gathered v grid.producers (λ p. rows p s)))
      ∙ sym (kept v (b s) (column s)))
      ∙ sym (total-gathered v grid.cells (λ s. cond (b s) (column s) [])))

  total-op : (w : Row → ℕ) (list : List Row) (b : ℕ → Bool) → ((v : Row → ℕ) → total v list ≡ area grid (λ p s. cond (b s) 1 0 * total v (rows p s)))
      → total w (op list) ≡ below grid.cells (λ s. cond (b s) 1 0 * total w (op (column s)))
  total-op w list b is = weighs (keyed.same list (picked grid.cells b) (picks list b is)) w ∙ total-picked w grid.cells b (omega arith)

  pub keyed_columns : (input : ℕ) (ts : List Reads) → ByColumns grid input ts
      → SameBag (flat_map (λ t. op (reading grid rows (rects_of t input))) ts) (op (whole grid rows))
  keyed_columns input ts cover = by_weights (λ w.
      let task : Reads → List Row = λ t. op (reading grid rows (rects_of t input)) in
      total-flat_map w task ts
      ∙ total-where (λ t. HasColumns grid (rects_of t input)) (λ t. total w (task t)) (λ t. below grid.cells (λ s. cond (touches (rects_of t input) s) 1 0 * total w (op (column s)))) ts
      (λ t has. total-op w (reading grid rows (rects_of t input)) (touches (rects_of t input)) (λ v.
      total-reading v grid rows (rects_of t input)
      ∙ area-agree grid (λ p s. times (rects_of t input) p s * total v (rows p s)) (λ p s. cond (touches (rects_of t input) s) 1 0 * total v (rows p s)) (λ p s lt less.
      ap (λ (n : ℕ). n * total v (rows p s)) (by_touch grid (rects_of t input) has p s lt less))))
      cover.full
      ∙ total-below grid.cells (λ t s. cond (touches (rects_of t input) s) 1 0 * total w (op (column s))) ts
      ∙ below-agree grid.cells (λ s. total (λ t. cond (touches (rects_of t input) s) 1 0 * total w (op (column s))) ts) (λ s. 1 * total w (op (column s))) (λ s less.
      total-times (λ t. cond (touches (rects_of t input) s) 1 0) (total w (op (column s))) ts
      ∙ ap (λ (n : ℕ). n * total w (op (column s))) (total-is_sum_by (λ t. cond {A = ℕ} (touches (rects_of t input) s) 1 0) ts ∙ cover.once s less))
      ∙ sym (total-op w (whole grid rows) (λ s. true) (λ v. total-whole v grid rows
      ∙ area-agree grid (λ p s. total v (rows p s)) (λ p s. 1 * total v (rows p s)) (λ p s lt less. sym (one-mul (total v (rows p s)))))))
