-- The columns that rects touch, and their cells.
use Rattle.std.proofs.Common.{◌≡◌, ℕ, ◌+◌, ◌<◌, Bool, true, false, cond, All, List, [], ◌∷◌, ◌&&◌, ◌||◌, refl, ◌∙◌, ap, arith}
use Rattle.std.proofs.lemmas.Bool.Decides.{nat_tests}
use Rattle.std.proofs.lemmas.List.Elements.{All-head, All-tail}
use Rattle.std.proofs.lemmas.List.Sums.{sum_by-cons}
use Rattle.std.specs.Prelude.{nat_lt, nat_le}
use Rattle.rect_cover.specs.declared.rect.Rect.{Rect}
use Rattle.rect_cover.specs.declared.grid.Grid.{Grid}
use Rattle.rect_cover.specs.Cells.{is_inside, times, touches}
use Rattle.rect_cover.specs.Covers.{LiesIn, HasColumns}

times-cons : (rect : Rect) (rects : List Rect) (p s : ℕ) → times (rect ∷ rects) p s ≡ cond (is_inside rect p s) 1 0 + times rects p s
times-cons rect rects p s = sum_by-cons (λ rect. cond (is_inside rect p s) 1 0) rect rects

-- no cell of a column that is not touched stands in the rects
pub untouched : (rects : List Rect) (p s : ℕ) → touches rects s ≡ false → times rects p s ≡ 0
untouched [] p s none = refl
untouched (rect ∷ rects) p s none = times-cons rect rects p s ∙ by (nat_le rect.p0 p && nat_lt p rect.p1) (nat_le rect.s0 s && nat_lt s rect.s1) none (untouched rects p s)
  where
    by : (here spans : Bool) → (spans || touches rects s) ≡ false → (touches rects s ≡ false → times rects p s ≡ 0) → cond (here && spans) 1 0 + times rects p s ≡ 0
    by here true none rest = absurd (cc)
    by true false none rest = let later = rest none in omega arith
    by false false none rest = let later = rest none in omega arith

-- a producer whose cell of the column stands in the rects
pub record Found (grid : Grid) (rects : List Rect) (s : ℕ) : Type 0 where
  pub producer : ℕ
  pub below : producer < grid.producers
  pub some : 0 < times rects producer s

pub touched : (grid : Grid) (rects : List Rect) (s : ℕ) → All (LiesIn grid) rects → touches rects s ≡ true → Found grid rects s
touched grid [] s lie is = cc
touched grid (rect ∷ rects) s lie is = by (nat_le rect.s0 s && nat_lt s rect.s1) refl is (λ more. touched grid rects s (All-tail (LiesIn grid) rect rects lie) more)
  where
    first : LiesIn grid rect
    first = All-head (LiesIn grid) rect rects lie

    own : nat_le rect.p0 rect.p0 ≡ true
    own = grind (arith, nat_tests)

    below : nat_lt rect.p0 rect.p1 ≡ true
    below = let lt : rect.p0 < rect.p1 = first.producers in grind (arith, nat_tests)

    inside : (spans : Bool) → spans ≡ true → ((nat_le rect.p0 rect.p0 && nat_lt rect.p0 rect.p1) && spans) ≡ true
    inside spans is = (λ i. (own i && below i) && is i)

    later : Found grid rects s → Found grid (rect ∷ rects) s
    later found = record {
      producer = found.producer;
      below = found.below;
      some = let here = times-cons rect rects found.producer s in let more = found.some in omega arith;
    }

    by : (spans : Bool) → (nat_le rect.s0 s && nat_lt s rect.s1) ≡ spans → (spans || touches rects s) ≡ true → (touches rects s ≡ true → Found grid rects s) → Found grid (rect ∷ rects) s
    by true spanned is rest = record {
      producer = rect.p0;
      below = let lt = first.producers in let last = first.last_producer in omega arith;
      some = let here = times-cons rect rects rect.p0 s in
          let one : cond {A = ℕ} (is_inside rect rect.p0 s) 1 0 ≡ 1 = ap (λ (b : Bool). cond {A = ℕ} b 1 0) (inside (nat_le rect.s0 s && nat_lt s rect.s1) spanned) in
          omega arith;
    }
    by false spanned is rest = later (rest is)

-- where touched columns are whole, a cell stands once where its column is touched, and else nowhere
pub by_touch : (grid : Grid) (rects : List Rect) → HasColumns grid rects → (p s : ℕ) → p < grid.producers → s < grid.cells → times rects p s ≡ cond (touches rects s) 1 0
by_touch grid rects has p s lt less = by (touches rects s) refl
  where
    by : (b : Bool) → touches rects s ≡ b → times rects p s ≡ cond b 1 0
    by true is = has.each p s lt less is
    by false is = untouched rects p s is
