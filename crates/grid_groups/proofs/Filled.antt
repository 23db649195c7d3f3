-- Rects that are left out where they have no cells.
use Rattle.std.proofs.Common.{◌≡◌, ℕ, ◌<◌, ◌≤◌, Bool, true, false, cond, ◌&&◌, ◌||◌, All, List, [], ◌∷◌, map, refl, sym, ◌∙◌, ap, subst, arith}
use Rattle.std.proofs.Math.Nat.{zero-add}
use Rattle.std.specs.Prelude.{nat_lt}
use Rattle.std.specs.List.{AllZip}
use Rattle.std.proofs.lemmas.List.Elements.{All-nil, All-cons}
use Rattle.rect_cover.specs.declared.rect.Rect.{Rect}
use Rattle.rect_cover.specs.declared.grid.Grid.{Grid}
use Rattle.rect_cover.specs.Cells.{is_inside, times, touches}
use Rattle.rect_cover.specs.Covers.{LiesIn, IsInput, HasWhole}
use Rattle.volume_split.specs.declared.group.Group.{Group}
use Rattle.grid_groups.specs.Reads.{if_filled, whole_of, producers_of, columns_of}
use Rattle.grid_groups.proofs.Groups.{is_within, here, left_no, right_no, left_yes, right_yes, lt_yes, lt_from, within_yes, within_none}

-- the rect that spans these, which is the given one
module _ (rect : Rect) where
  abbrev kept : Bool → Bool → List Rect
  kept a b = cond (a && b) (rect ∷ []) []

  pub times-filled : (p s : ℕ) → times (if_filled rect) p s ≡ cond {A = ℕ} (is_inside rect p s) 1 0
  times-filled p s = by (nat_lt rect.p0 rect.p1) (nat_lt rect.s0 rect.s1) refl refl
    where
      by : (a b : Bool) → nat_lt rect.p0 rect.p1 ≡ a → nat_lt rect.s0 rect.s1 ≡ b
          → times (kept a b) p s ≡ cond {A = ℕ} (is_inside rect p s) 1 0
      by true true wide high = zero-add (cond {A = ℕ} (is_inside rect p s) 1 0)
      by true false wide high =
          sym (ap (λ (c : Bool). cond {A = ℕ} c 1 0) (right_no (is_within rect.p0 rect.p1 p) (is_within rect.s0 rect.s1 s) (within_none rect.s0 rect.s1 s high)))
      by false b wide high =
          sym (ap (λ (c : Bool). cond {A = ℕ} c 1 0) (left_no (is_within rect.p0 rect.p1 p) (is_within rect.s0 rect.s1 s) (within_none rect.p0 rect.p1 p wide)))

  pub lie-filled : (grid : Grid) → rect.p1 ≤ grid.producers → rect.s1 ≤ grid.cells → All (LiesIn grid) (if_filled rect)
  lie-filled grid producers cells = by (nat_lt rect.p0 rect.p1) (nat_lt rect.s0 rect.s1) refl refl
    where
      by : (a b : Bool) → nat_lt rect.p0 rect.p1 ≡ a → nat_lt rect.s0 rect.s1 ≡ b → All (LiesIn grid) (kept a b)
      by true true wide high =
          All-cons (LiesIn grid) rect []
          (record { producers = lt_from rect.p0 rect.p1 wide; last_producer = producers; cells = lt_from rect.s0 rect.s1 high; last_cell = cells })
          (All-nil (LiesIn grid))
      by true false wide high = All-nil (LiesIn grid)
      by false b wide high = All-nil (LiesIn grid)

  -- the columns that it touches, where it has producers
  pub touches-filled : (s : ℕ) → rect.p0 < rect.p1 → touches (if_filled rect) s ≡ is_within rect.s0 rect.s1 s
  touches-filled s some = by (nat_lt rect.p0 rect.p1) (nat_lt rect.s0 rect.s1) (lt_yes rect.p0 rect.p1 some) refl
    where
      or_no : (a : Bool) → (a || false) ≡ a
      or_no true = refl
      or_no false = refl

      by : (a b : Bool) → a ≡ true → nat_lt rect.s0 rect.s1 ≡ b → touches (kept a b) s ≡ is_within rect.s0 rect.s1 s
      by true true wide high = or_no (is_within rect.s0 rect.s1 s)
      by true false wide high = sym (within_none rect.s0 rect.s1 s high)
      by false b wide high = absurd (let no : false ≡ true = wide in cc)

at_most_one : (b : Bool) → cond {A = ℕ} b 1 0 ≤ 1
at_most_one true = omega arith
at_most_one false = omega arith

pub input-filled : (grid : Grid) (rect : Rect) → rect.p1 ≤ grid.producers → rect.s1 ≤ grid.cells → IsInput grid (if_filled rect)
input-filled grid rect producers cells = record {
  lie = lie-filled rect grid producers cells;
  single = λ p s lt less. subst (λ (n : ℕ). n ≤ 1) (sym (times-filled rect p s)) (at_most_one (is_inside rect p s));
}

abbrev whole_rect : Grid → Rect
whole_rect grid = record { p0 = 0; p1 = grid.producers; s0 = 0; s1 = grid.cells }

pub input-whole : (grid : Grid) → IsInput grid (whole_of grid)
input-whole grid = input-filled grid (whole_rect grid) (omega arith) (omega arith)

pub once-whole : (grid : Grid) (p s : ℕ) → p < grid.producers → s < grid.cells → times (whole_of grid) p s ≡ 1
once-whole grid p s lt less =
    times-filled (whole_rect grid) p s
    ∙ ap (λ (c : Bool). cond {A = ℕ} c 1 0)
    (left_yes (is_within 0 grid.producers p) (is_within 0 grid.cells s) (within_yes 0 grid.producers p (omega arith) lt) ∙ within_yes 0 grid.cells s (omega arith) less)

pub whole-whole : (grid : Grid) → HasWhole grid (whole_of grid)
whole-whole grid = record { each = once-whole grid }

pub inputs-whole : (grids : List Grid) → AllZip IsInput grids (map whole_of grids)
inputs-whole [] = tt
inputs-whole (grid ∷ grids) = (input-whole grid, inputs-whole grids)

pub wholes-whole : (grids : List Grid) → AllZip HasWhole grids (map whole_of grids)
wholes-whole [] = tt
wholes-whole (grid ∷ grids) = (whole-whole grid, wholes-whole grids)

module _ (grid : Grid) (group : Group) where
  abbrev producers_rect : Rect
  producers_rect = record { p0 = group.start; p1 = group.end; s0 = 0; s1 = grid.cells }

  abbrev columns_rect : Rect
  columns_rect = record { p0 = 0; p1 = grid.producers; s0 = group.start; s1 = group.end }

  pub input-producers : group.end ≤ grid.producers → IsInput grid (producers_of grid group)
  input-producers le = input-filled grid producers_rect le (omega arith)

  pub input-columns : group.end ≤ grid.cells → IsInput grid (columns_of grid group)
  input-columns le = input-filled grid columns_rect (omega arith) le

  pub times-producers : (p s : ℕ) → s < grid.cells → times (producers_of grid group) p s ≡ here group p
  times-producers p s less =
      times-filled producers_rect p s
      ∙ ap (λ (c : Bool). cond {A = ℕ} c 1 0) (right_yes (is_within group.start group.end p) (is_within 0 grid.cells s) (within_yes 0 grid.cells s (omega arith) less))

  pub times-columns : (p s : ℕ) → p < grid.producers → times (columns_of grid group) p s ≡ here group s
  times-columns p s lt =
      times-filled columns_rect p s
      ∙ ap (λ (c : Bool). cond {A = ℕ} c 1 0) (left_yes (is_within 0 grid.producers p) (is_within group.start group.end s) (within_yes 0 grid.producers p (omega arith) lt))

  pub touches-columns : (s : ℕ) → 0 < grid.producers → touches (columns_of grid group) s ≡ is_within group.start group.end s
  touches-columns s some = touches-filled columns_rect s some
