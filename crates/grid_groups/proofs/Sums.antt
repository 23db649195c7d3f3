-- Sums of sizes that count as at most the greatest number of 64 bits.
use Rattle.std.proofs.Common.{◌≡◌, ℕ, ◌+◌, ◌*◌, ◌-◌, ◌^◌, ◌<◌, ◌≤◌, min, List, length, map, sum, take, get_or, sym, ◌∙◌, ap, subst, add-one, arith}
use Rattle.std.proofs.Math.Nat.{min-le_right}
use Rattle.std.specs.List.{range_with_len, sum_by}
use Rattle.std.proofs.lemmas.List.Sums.{sum_by-le, sum_by_more, sum-map}
use Rattle.std.proofs.lemmas.List.FromFn.{length-range_with_len, length-map-range_with_len}
use Rattle.grid_groups.specs.Sizes.{capped, sum_below}

pub sum_below-more : (n : ℕ) (f : ℕ → ℕ) → sum_below (n + 1) f ≡ sum_below n f + f n
sum_below-more n f = ap (λ (m : ℕ). sum_below m f) (add-one n)

add_capped : (top a b c : ℕ) → c ≡ min a top → min (c + b) top ≡ min (a + b) top
add_capped top a b c is = omega arith

-- one size more
pub capped-more : (before more so_far : ℕ) → so_far ≡ capped before → min (so_far + more) (2 ^ 64 - 1) ≡ capped (before + more)
capped-more before more so_far is = add_capped (2 ^ 64 - 1) before more so_far is

-- sizes of places are few enough to sum up
pub capped_sum : (f : ℕ → ℕ) (n : ℕ) → sum (map (λ k. capped (f k)) (range_with_len 0 n)) ≤ n * (2 ^ 64 - 1)
capped_sum f n =
    let sums = sum-map (λ k. capped (f k)) (range_with_len 0 n) in
    let long = length-range_with_len 0 n in
    let bound : sum_by (λ k. capped (f k)) (range_with_len 0 n) ≤ length (range_with_len 0 n) * (2 ^ 64 - 1)
    = sum_by-le (λ k. capped (f k)) (2 ^ 64 - 1) (range_with_len 0 n) (λ k d lt. min-le_right (f _) (2 ^ 64 - 1)) in
    subst (λ (m : ℕ). sum (map (λ k. capped (f k)) (range_with_len 0 n)) ≤ m * (2 ^ 64 - 1)) long (omega arith)

pub few_bytes : (n : ℕ) → n < 2 ^ 32 → (total : ℕ) → total ≤ n * (2 ^ 64 - 1) → total < 2 ^ 128
few_bytes n lt total le = omega arith

-- a sum over the places below one more
pub capped-below : (k : ℕ) (f : ℕ → ℕ) (so_far next : ℕ) → so_far ≡ capped (sum_below k f) → next ≡ min (so_far + f k) (2 ^ 64 - 1)
    → next ≡ capped (sum_below (k + 1) f)
capped-below k f so_far next is step =
    step ∙ capped-more (sum_below k f) (f k) so_far is ∙ ap capped (sym (sum_below-more k f))

add_both : (top a b c d : ℕ) → c ≡ min a top → d ≡ min b top → min (c + d) top ≡ min (a + b) top
add_both top a b c d is more = omega arith

-- a sum over one grid more
pub capped-grids : {X : Type 0} (f : X → ℕ) (xs : List X) (k : ℕ) (d : X) (so_far more next : ℕ) → k < length xs
    → so_far ≡ capped (sum_by f (take k xs)) → more ≡ capped (f (get_or xs k d)) → next ≡ min (so_far + more) (2 ^ 64 - 1) → next ≡ capped (sum_by f (take (k + 1) xs))
capped-grids f xs k d so_far more next lt is more_is step =
    step ∙ add_both (2 ^ 64 - 1) (sum_by f (take k xs)) (f (get_or xs k d)) so_far more is more_is ∙ ap capped (sym (sum_by_more f xs k d lt))

-- the sizes of so many places
module _ (f : ℕ → ℕ) (n most : ℕ) (sizes : List ℕ) (are : sizes ≡ map (λ k. capped (f k)) (range_with_len 0 n)) (le : n ≤ most) (lt : most < 2 ^ 32) where
  pub long_places : length sizes < 2 ^ 32
  long_places =
      let long : length sizes ≡ n = ap length are ∙ length-map-range_with_len (λ k. capped (f k)) 0 n in omega arith

  pub few_places : sum sizes < 2 ^ 128
  few_places = few_bytes n (omega arith) (sum sizes) (subst (λ (m : ℕ). m ≤ n * (2 ^ 64 - 1)) (sym (ap sum are)) (capped_sum f n))
