-- Lines that follow one another.
use Rattle.std.proofs.Common.{◌≡◌, ℕ, zero, suc, ◌+◌, ◌-◌, ◌≤◌, List, [], ◌∷◌, ◌++◌, map, sym, ap, ◌∙◌, arith}
use Rattle.std.specs.List.{flat_map, range_with_len}
use Rattle.std.proofs.lemmas.Grind.{flat_map-append}
use Rattle.std.proofs.lemmas.List.{append-nil}
use Rattle.std.proofs.lemmas.List.FromFn.{map-range_with_len_more}

range_last : (a k : ℕ) → range_with_len a (suc k) ≡ range_with_len a k ++ (a + k) ∷ []
range_last a zero = let same : a ≡ a + 0 = omega arith in ap (λ n. n ∷ []) same
range_last a (suc k) = let next : a + 1 + k ≡ a + suc k = omega arith in ap (λ t. a ∷ t) (range_last (a + 1) k ∙ ap (λ n. range_with_len (a + 1) k ++ n ∷ []) next)

single : (f : ℕ → List ℕ) (n : ℕ) → flat_map f (n ∷ []) ≡ f n
single f n = append-nil (f n)

-- the lines up to a number and its own line are those up to the next number
pub lines_last : (f : ℕ → List ℕ) (first row : ℕ) → first ≤ row → flat_map f (range_with_len first (row + 1 - first)) ≡ flat_map f (range_with_len first (row - first)) ++ f row
lines_last f first row h =
    let count : row + 1 - first ≡ suc (row - first) = omega arith in
    let last : first + (row - first) ≡ row = omega arith in
    ap (λ n. flat_map f (range_with_len first n)) count ∙ ap (flat_map f) (range_last first (row - first)) ∙ flat_map-append f (range_with_len first (row - first)) _
    ∙ ap (λ t. flat_map f (range_with_len first (row - first)) ++ t) (single f (first + (row - first)) ∙ ap f last)

-- the same from 0 on
pub lines_next : (f : ℕ → List ℕ) (row : ℕ) → flat_map f (range_with_len 0 (row + 1)) ≡ flat_map f (range_with_len 0 row) ++ f row
lines_next f row =
    let next : row + 1 - 0 ≡ row + 1 = omega arith in
    let same : row - 0 ≡ row = omega arith in
    let h : 0 ≤ row = omega arith in
    ap (λ n. flat_map f (range_with_len 0 n)) (sym next) ∙ lines_last f 0 row h ∙ ap (λ n. flat_map f (range_with_len 0 n) ++ f row) same

-- one file more
pub files_last : (f : ℕ → List ℕ) (k : ℕ) → map f (range_with_len 0 (k + 1)) ≡ map f (range_with_len 0 k) ++ f k ∷ []
files_last f k = let same : 0 + k ≡ k = omega arith in map-range_with_len_more f 0 k k same
