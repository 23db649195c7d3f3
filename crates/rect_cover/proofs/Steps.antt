-- Steps of the loops over rects and subtasks, and the answers of tests.
use Rattle.std.proofs.Common.{◌≡◌, ℕ, ◌+◌, ◌*◌, ◌<◌, ◌≤◌, Bool, true, false, cond, All, List, length, get_or, take, IsTrue, ◌↔◌, ⊎_elim, refl, sym, subst, ◌∙◌, arith}
use Rattle.std.proofs.Math.Nat.{mul-le-mul_left}
use Rattle.std.proofs.lemmas.Bool.{cases_lt}
use Rattle.std.proofs.lemmas.List.{take_all}
use Rattle.std.proofs.lemmas.List.Sums.{sum_by_more, sum_by_more_le}
use Rattle.std.specs.List.{sum_by}
use Rattle.bag_laws.proofs.Laws.{total_is, total-agree}
use Rattle.rect_cover.specs.declared.rect.Rect.{Rect}
use Rattle.rect_cover.specs.Cells.{is_inside, times}

-- a test that answers no, where the fact does not hold, and yes, where it does
pub answers_no : {P : Type 0} → (P → ⊥) → IsTrue false ↔ P
answers_no fails = (λ is. absurd (let clash : false ≡ true = is in cc), λ holds. absurd (fails holds))

pub answers_yes : {P : Type 0} → P → IsTrue true ↔ P
answers_yes holds = (λ is. holds, λ fact. refl)

-- at the end of a list
pub all_done : {X : Type 0} (P : X → Type 0) (xs : List X) (i : ℕ) → length xs ≤ i → All P (take i xs) → All P xs
all_done P xs i end all = subst (λ l. All P l) (take_all i xs end) all

-- one rect more keeps two cells alike
pub times-step : (rects : List Rect) (i : ℕ) (d : Rect) (p q s : ℕ) → i < length rects → times (take i rects) p s ≡ times (take i rects) q s
    → is_inside (get_or rects i d) p s ≡ is_inside (get_or rects i d) q s → times (take (i + 1) rects) p s ≡ times (take (i + 1) rects) q s
times-step rects i d p q s lt before here =
    sum_by_more (λ rect. cond (is_inside rect p s) 1 0) rects i d lt
    ∙ (λ j. before j + cond (here j) 1 0)
    ∙ sym (sum_by_more (λ rect. cond (is_inside rect q s) 1 0) rects i d lt)

pub times-done : (rects : List Rect) (i p q s : ℕ) → length rects ≤ i → times (take i rects) p s ≡ times (take i rects) q s → times rects p s ≡ times rects q s
times-done rects i p q s end same = subst (λ (l : List Rect). times l p s ≡ times l q s) (take_all i rects end) same

-- where the sum so far and a further term are more than one, the whole sum is not one
pub sum-not_one : {X : Type 0} (f : X → ℕ) (xs : List X) (i : ℕ) (d : X) → i < length xs → 1 < sum_by f (take i xs) + f (get_or xs i d) → sum_by f xs ≡ 1 → ⊥
sum-not_one f xs i d lt more one = let all = sum_by_more_le f xs i d lt in omega arith

pub mul-left-least : (a b : ℕ) → 0 < b → a ≤ a * b
mul-left-least a b some = let one : 1 ≤ b = omega arith in omega (arith, mul-le-mul_left a one)

pub mul-right-least : (a b : ℕ) → 0 < a → b ≤ a * b
mul-right-least a b some = let one : 1 ≤ a = omega arith in omega (arith, mul-le-mul_left b one)

-- what holds of one producer and up to the next change holds up to there
pub band : (P : ℕ → Type 0) (here next : ℕ) → ((p : ℕ) → p < here → P p) → P here → ((p : ℕ) → here ≤ p → p < next → P here → P p) → (p : ℕ) → p < next → P p
band P here next before at alike p lt = ⊎_elim (λ (low : p < here). before p low) (λ (high : here ≤ p). alike p high lt at) (cases_lt p here)

pub sum-agree : {X : Type 0} (f g : X → ℕ) (xs : List X) → All (λ x. f x ≡ g x) xs → sum_by f xs ≡ sum_by g xs
sum-agree f g xs same = total_is f xs ∙ total-agree f g xs same ∙ sym (total_is g xs)

-- a test that says yes and no
pub clash : (b : Bool) → b ≡ true → b ≡ false → ⊥
clash b holds fails = let both : true ≡ false = sym holds ∙ fails in cc
