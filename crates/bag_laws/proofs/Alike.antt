-- Equal bags, by their weights: each law is an exchange of two sums.
use Rattle.std.proofs.Common.{◌≡◌, ℕ, ◌+◌, List, ◌++◌, sym, ◌∙◌, arith}
use Rattle.std.specs.List.{flat_map, sum_by}
use Rattle.row_core.specs.Bags.{SameBag}
use Rattle.bag_laws.specs.Rows.{OneRow as Row}
use Rattle.bag_laws.proofs.Totals.{total, total_is, total-append, total-each, total-add, total-flat_map, total-swap}
use Rattle.bag_laws.proofs.Counts.{total-same, same_of_weights}

pub same_refl : (xs : List Row) → SameBag xs xs
same_refl xs = same_of_weights xs xs (λ w. refl_at w)
  where
    refl_at : (w : Row → ℕ) → total w xs ≡ total w xs
    refl_at w = omega arith

pub same_sym : {xs ys : List Row} → SameBag xs ys → SameBag ys xs
same_sym same = record { counts = λ row. sym (same.counts row) }

pub same_on : {xs ys zs : List Row} → SameBag xs ys → SameBag ys zs → SameBag xs zs
same_on same more = record { counts = λ row. same.counts row ∙ more.counts row }

pub append_swap : (xs ys : List Row) → SameBag (xs ++ ys) (ys ++ xs)
append_swap xs ys = same_of_weights (xs ++ ys) (ys ++ xs) (λ w. let one = total-append w xs ys in let two = total-append w ys xs in omega arith)

-- by std's sum, as clauses say it
pub sums_of_same : (xs ys : List Row) → SameBag xs ys → (w : Row → ℕ) → sum_by w xs ≡ sum_by w ys
sums_of_same xs ys same w = total_is w xs ∙ total-same w xs ys same ∙ sym (total_is w ys)

pub same_of_sums : (xs ys : List Row) → ((w : Row → ℕ) → sum_by w xs ≡ sum_by w ys) → SameBag xs ys
same_of_sums xs ys weighs = same_of_weights xs ys (λ w. sym (total_is w xs) ∙ weighs w ∙ total_is w ys)

-- an operator row by row, where each row gives the same bag
pub same_flat_map : (f g : Row → List Row) (xs ys : List Row) → ((x : Row) → SameBag (f x) (g x)) → SameBag xs ys → SameBag (flat_map f xs) (flat_map g ys)
same_flat_map f g xs ys each same = same_of_weights (flat_map f xs) (flat_map g ys) (λ w.
    total-flat_map w f xs
    ∙ total-same (λ x. total w (f x)) xs ys same
    ∙ total-each (λ x. total w (f x)) (λ x. total w (g x)) ys (λ x. total-same w (f x) (g x) (each x))
    ∙ sym (total-flat_map w g ys))

module _ {T : Type 0} where
  pub same_each : (f g : T → List Row) (ts : List T) → ((t : T) → SameBag (f t) (g t)) → SameBag (flat_map f ts) (flat_map g ts)
  same_each f g ts each = same_of_weights (flat_map f ts) (flat_map g ts) (λ w.
      total-flat_map w f ts
      ∙ total-each (λ t. total w (f t)) (λ t. total w (g t)) ts (λ t. total-same w (f t) (g t) (each t))
      ∙ sym (total-flat_map w g ts))

  pub flat_map-split : (f g : T → List Row) (ts : List T) → SameBag (flat_map (λ t. f t ++ g t) ts) (flat_map f ts ++ flat_map g ts)
  flat_map-split f g ts = same_of_weights (flat_map (λ t. f t ++ g t) ts) (flat_map f ts ++ flat_map g ts) (λ w.
      total-flat_map w (λ t. f t ++ g t) ts
      ∙ total-each (λ t. total w (f t ++ g t)) (λ t. total w (f t) + total w (g t)) ts (λ t. total-append w (f t) (g t))
      ∙ total-add (λ t. total w (f t)) (λ t. total w (g t)) ts
      ∙ sym (let one = total-flat_map w f ts in let two = total-flat_map w g ts in let both = total-append w (flat_map f ts) (flat_map g ts) in omega arith))

  pub flat_map-joined : (f : Row → List Row) (heads : T → List Row) (ts : List T) → SameBag (flat_map (λ t. flat_map f (heads t)) ts) (flat_map f (flat_map heads ts))
  flat_map-joined f heads ts = same_of_weights (flat_map (λ t. flat_map f (heads t)) ts) (flat_map f (flat_map heads ts)) (λ w.
      total-flat_map w (λ t. flat_map f (heads t)) ts
      ∙ total-each (λ t. total w (flat_map f (heads t))) (λ t. total (λ x. total w (f x)) (heads t)) ts (λ t. total-flat_map w f (heads t))
      ∙ sym (total-flat_map w f (flat_map heads ts) ∙ total-flat_map (λ x. total w (f x)) heads ts))

module _ {T U : Type 0} where
  pub flat_map-swap : (f : T → U → List Row) (ts : List T) (us : List U) → SameBag (flat_map (λ t. flat_map (f t) us) ts) (flat_map (λ u. flat_map (λ t. f t u) ts) us)
  flat_map-swap f ts us = same_of_weights (flat_map (λ t. flat_map (f t) us) ts) (flat_map (λ u. flat_map (λ t. f t u) ts) us) (λ w.
      total-flat_map w (λ t. flat_map (f t) us) ts
      ∙ total-each (λ t. total w (flat_map (f t) us)) (λ t. total (λ u. total w (f t u)) us) ts (λ t. total-flat_map w (f t) us)
      ∙ total-swap (λ t u. total w (f t u)) ts us
      ∙ total-each (λ u. total (λ t. total w (f t u)) ts) (λ u. total w (flat_map (λ t. f t u) ts)) us (λ u. sym (total-flat_map w (λ t. f t u) ts))
      ∙ sym (total-flat_map w (λ u. flat_map (λ t. f t u) ts) us))

-- the two conversions, with the lists left to the facts
pub by_weights : {xs ys : List Row} → ((w : Row → ℕ) → total w xs ≡ total w ys) → SameBag xs ys
by_weights {xs} {ys} each = same_of_weights xs ys each

pub weighs : {xs ys : List Row} → SameBag xs ys → (w : Row → ℕ) → total w xs ≡ total w ys
weighs {xs} {ys} same w = total-same w xs ys same
