-- A text of lines, cut at their lengths.
use Rattle.std.proofs.Common.{◌≡◌, ℕ, ◌+◌, ◌≤◌, List, [], ◌∷◌, ◌++◌, length, map, take, drop, refl, sym, ◌∙◌, ap, arith}
use Rattle.std.proofs.lemmas.List.{length-append, length-drop, take-append-le, drop-append-le}
use Rattle.std.specs.List.{flat_map}
use Rattle.csv_tables.specs.Lines.{cut, total}

take_front : (xs ys : List ℕ) → take (length xs) (xs ++ ys) ≡ xs
take_front [] ys = refl
take_front (x ∷ xs) ys = ap (λ (l : List ℕ). x ∷ l) (take_front xs ys)

drop_front : (xs ys : List ℕ) → drop (length xs) (xs ++ ys) ≡ ys
drop_front [] ys = refl
drop_front (x ∷ xs) ys = drop_front xs ys

-- the lines of a text are those that it was made of
pub cut_joined : (lines : List (List ℕ)) → cut (map length lines) (flat_map (λ line. line) lines) ≡ lines
cut_joined [] = refl
cut_joined (line ∷ lines) =
    let text = flat_map (λ (line : List ℕ). line) lines in
    (λ i. take_front line text i ∷ (ap (cut (map length lines)) (drop_front line text) ∙ cut_joined lines) i)

pub total_joined : (lines : List (List ℕ)) → total (map length lines) ≡ length (flat_map (λ line. line) lines)
total_joined [] = refl
total_joined (line ∷ lines) =
    let text = flat_map (λ (line : List ℕ). line) lines in
    ap (λ (n : ℕ). length line + n) (total_joined lines) ∙ sym (length-append line text)

-- lines behind a text of lines
pub cut_more : (lengths text : List ℕ) (lines : List (List ℕ)) → total lengths ≡ length text
    → cut (lengths ++ map length lines) (text ++ flat_map (λ line. line) lines) ≡ cut lengths text ++ lines
cut_more [] [] lines fits = cut_joined lines
cut_more [] (byte ∷ text) lines fits = absurd (omega (arith, fits))
cut_more (n ∷ lengths) text lines fits =
    let more = flat_map (λ (line : List ℕ). line) lines in
    let within : n ≤ length text = omega (arith, fits) in
    let left = length-drop n text in
    (λ i. take-append-le n text more within i ∷
    (ap (cut (lengths ++ map length lines)) (drop-append-le n text more within) ∙ cut_more lengths (drop n text) lines (omega (arith, fits, left))) i)

total_sum : (lengths more : List ℕ) → total (lengths ++ more) ≡ total lengths + total more
total_sum [] more = omega arith
total_sum (n ∷ lengths) more = let rest = total_sum lengths more in omega (arith, rest)

pub total_more : (lengths text : List ℕ) (lines : List (List ℕ)) → total lengths ≡ length text
    → total (lengths ++ map length lines) ≡ length (text ++ flat_map (λ line. line) lines)
total_more lengths text lines fits =
    let sum = total_sum lengths (map length lines) in
    let here = total_joined lines in
    let long = length-append text (flat_map (λ (line : List ℕ). line) lines) in
    omega (arith, sum, here, long, fits)
