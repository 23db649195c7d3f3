-- Right and full joins are left joins read from the other side.
use Rattle.std.proofs.Common.{get_or, ◌≡◌, ℕ, ◌<◌, Bool, true, false, cond, List, sym, ◌∙◌, arith}
use Rattle.std.specs.List.{flat_map}
use Rattle.row_core.specs.Bags.{SameBag}
use Rattle.bag_laws.specs.Rows.{OneRow as Row}
use Rattle.bag_laws.proofs.Laws.{total-where, total-swap, SameBag-append, by_weights, weighs, flat_map-split}
use Rattle.rect_cover.specs.declared.grid.Grid.{Grid}
use Rattle.rect_cover.specs.Cells.{Reads, rects_of, times, whole, reading, touches}
use Rattle.rect_cover.specs.Covers.{EachOnce, HasColumns, ByColumns, IsDriven, SameColumns}
use Rattle.rect_cover.specs.Heads.{driven, paired, both_driven, GivesBags, MatchesInColumn}
use Rattle.rect_cover.proofs.Areas.{total-is_sum_by}
use Rattle.rect_cover.proofs.Sides.{left_driven, total-paired}
use Rattle.rect_cover.proofs.Touched.{by_touch}

pub in_column_swap : {matches : Row → Row → Bool} {left right : Grid} {ls : ℕ → ℕ → List Row} {rs : ℕ → ℕ → List Row}
    → MatchesInColumn matches (record { grid = left; rows = ls }) (record { grid = right; rows = rs })
    → MatchesInColumn (λ r l. matches l r) (record { grid = right; rows = rs }) (record { grid = left; rows = ls })
in_column_swap in_column = record { apart = λ q u p s under within lt less differ j e at i d within'. in_column.apart p s q u lt less under within (λ same. differ (sym same)) i d within' j e at }

pub once_of_columns : {grid : Grid} {input : ℕ} {ts : List Reads} → ByColumns grid input ts → EachOnce grid input ts
once_of_columns {grid} {input} {ts} by = record {
  once = λ p s lt less.
      sym (total-is_sum_by (λ t. times (rects_of t input) p s) ts)
      ∙ total-where (λ t. HasColumns grid (rects_of t input)) (λ t. times (rects_of t input) p s) (λ t. cond (touches (rects_of t input) s) 1 0) ts (λ t has. by_touch grid (rects_of t input) has p s lt less) by.full
      ∙ total-is_sum_by (λ t. cond {A = ℕ} (touches (rects_of t input) s) 1 0) ts
      ∙ by.once s less;
}

one_if_some : (a b : Bool) (m n : ℕ) → a ≡ b → m ≡ cond a 1 0 → n ≡ cond b 1 0 → 0 < m → n ≡ 1
one_if_some false b m n same left right some = absurd (omega arith)
one_if_some true true m n same left right some = right
one_if_some true false m n same left right some = absurd (cc)

pub driven_left : {left right : Grid} {input other : ℕ} {ts : List Reads} → SameColumns left input right other ts → IsDriven left input right other ts
driven_left {left} {right} {input} {other} {ts} cover = record {
  once = once_of_columns cover.lefts;
  partners = λ k d at. record {
    each = λ p q s lt less under within some.
        let t : Reads = get_or ts k d in
        one_if_some (touches (rects_of t input) s) (touches (rects_of t other) s) (times (rects_of t input) p s) (times (rects_of t other) q s)
        (cover.same k d at s (omega arith))
        (by_touch left (rects_of t input) ((cover.lefts).full k d at) p s lt less)
        (by_touch right (rects_of t other) ((cover.rights).full k d at) q s under within)
        some;
  };
}

pub driven_right : {left right : Grid} {input other : ℕ} {ts : List Reads} → SameColumns left input right other ts → IsDriven right other left input ts
driven_right {left} {right} {input} {other} {ts} cover = record {
  once = once_of_columns cover.rights;
  partners = λ k d at. record {
    each = λ p q s lt less under within some.
        let t : Reads = get_or ts k d in
        one_if_some (touches (rects_of t other) s) (touches (rects_of t input) s) (times (rects_of t other) p s) (times (rects_of t input) q s)
        (sym (cover.same k d at s (omega arith)))
        (by_touch right (rects_of t other) ((cover.rights).full k d at) p s lt less)
        (by_touch left (rects_of t input) ((cover.lefts).full k d at) q s under within)
        some;
  };
}

module _ (matches : Row → Row → Bool) (lonely : Row → List Row → List Row) (lonely_bags : GivesBags lonely)
    (left right : Grid) (input other : ℕ) (ls : ℕ → ℕ → List Row) (rs : ℕ → ℕ → List Row) (in_column : MatchesInColumn matches (record { grid = left; rows = ls }) (record { grid = right; rows = rs })) where
  pub right_driven : (ts : List Reads) → IsDriven right other left input ts
      → SameBag (flat_map (λ t. driven (λ r l. matches l r) lonely (reading right rs (rects_of t other)) (reading left ls (rects_of t input))) ts) (driven (λ r l. matches l r) lonely (whole right rs) (whole left ls))
  right_driven ts cover = left_driven (λ r l. matches l r) lonely lonely_bags right left other input rs ls (in_column_swap in_column) ts cover

module _ (matches : Row → Row → Bool) (gives : Row → List Row → List Row) (lonely : Row → List Row → List Row) (bags : GivesBags gives) (lonely_bags : GivesBags lonely)
    (left right : Grid) (input other : ℕ) (ls : ℕ → ℕ → List Row) (rs : ℕ → ℕ → List Row) (in_column : MatchesInColumn matches (record { grid = left; rows = ls }) (record { grid = right; rows = rs })) where
  pub full_columns : (ts : List Reads) → SameColumns left input right other ts
      → SameBag (flat_map (λ t. both_driven matches gives lonely (reading left ls (rects_of t input)) (reading right rs (rects_of t other))) ts) (both_driven matches gives lonely (whole left ls) (whole right rs))
  full_columns ts cover = by_weights (λ w.
      weighs (flat_map-split (λ t. driven matches gives (reading left ls (rects_of t input)) (reading right rs (rects_of t other))) (λ t. driven (λ r l. matches l r) lonely (reading right rs (rects_of t other)) (reading left ls (rects_of t input))) ts) w
      ∙ weighs (SameBag-append
      (flat_map (λ t. driven matches gives (reading left ls (rects_of t input)) (reading right rs (rects_of t other))) ts)
      (flat_map (λ t. driven (λ r l. matches l r) lonely (reading right rs (rects_of t other)) (reading left ls (rects_of t input))) ts)
      (driven matches gives (whole left ls) (whole right rs)) (driven (λ r l. matches l r) lonely (whole right rs) (whole left ls))
      (left_driven matches gives bags left right input other ls rs in_column ts (driven_left cover)) (right_driven matches lonely lonely_bags left right input other ls rs in_column ts (driven_right cover))) w)

-- an inner join may be read from either side
pub paired-flipped : (matches : Row → Row → Bool) (pair : Row → Row → Row) (ls : List Row) (rs : List Row)
    → SameBag (paired matches pair ls rs) (paired (λ r l. matches l r) (λ r l. pair l r) rs ls)
paired-flipped matches pair ls rs = by_weights (λ w.
    total-paired matches pair w ls rs
    ∙ total-swap (λ l r. cond (matches l r) (w (pair l r)) 0) ls rs
    ∙ sym (total-paired (λ r l. matches l r) (λ r l. pair l r) w rs ls))
