-- Rows that stand in the cells of their hashes meet in one column.
use Rattle.std.proofs.Common.{get_or, ◌≡◌, ℕ, Bool, true, false, refl, sym, ◌∙◌}
use Rattle.bag_laws.specs.Rows.{OneRow as Row}
use Rattle.rect_cover.specs.Cells.{Input}
use Rattle.rect_cover.specs.Heads.{MatchesInColumn, MeetsInColumn, StandsAt}

apart_at : (b : Bool) (s u i j : ℕ) → i ≡ s → j ≡ u → (s ≡ u → ⊥) → (b ≡ true → i ≡ j) → b ≡ false
apart_at false s u i j left right differ same = refl
apart_at true s u i j left right differ same = absurd (differ (sym left ∙ same refl ∙ right))

pub matches_of_places : (matches : Row → Row → Bool) (place : Row → ℕ) (other : Row → ℕ) (left right : Input)
    → ((l : Row) (r : Row) → matches l r ≡ true → place l ≡ other r) → StandsAt place left → StandsAt other right → MatchesInColumn matches left right
matches_of_places matches place other left right same lefts rights = record {
  apart = λ p s q u lt less under within differ i d at j e there.
      let l = get_or (left.rows p s) i d in
      let r = get_or (right.rows q u) j e in
      apart_at (matches l r) s u (place l) (other r) (lefts.stands p s lt less i d at) (rights.stands q u under within j e there) differ (same l r);
}

pub meets_of_places : (meets : Row → Row → Bool) (place : Row → ℕ) (input : Input)
    → ((x y : Row) → meets x y ≡ true → place x ≡ place y) → StandsAt place input → MeetsInColumn meets input
meets_of_places meets place input same stand = record {
  apart = λ p s q u lt less under within differ i d at j e there.
      let x = get_or (input.rows p s) i d in
      let y = get_or (input.rows q u) j e in
      apart_at (meets x y) s u (place x) (place y) (stand.stands p s lt less i d at) (stand.stands q u under within j e there) differ (same x y);
}
