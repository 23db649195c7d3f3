-- The rows with a key among the built rows.
use Rattle.std.proofs.Common.{◌≡◌, ◌<◌, ℕ, Bool, true, false, List, [], ◌∷◌, length, map, get_or, Some, sym, ap, ◌∙◌, arith, if◌then◌else◌}
use Rattle.std.specs.Prelude.{◌||◌, filter, position}
use Rattle.std.specs.List.{list_any, AllByRecursion}
use Rattle.std.specs.Str.{bytes_eq}
use Rattle.std.specs.Cmp.Lexicographic.{bytes_decides}
use Rattle.std.proofs.lemmas.List.{get_or-map, length-map}
use Rattle.std.proofs.lemmas.List.Elements.{All-from_recursion}
use Rattle.std.proofs.lemmas.List.Quantifiers.{position-Some}
use Rattle.row_core.specs.Encoding.{rows_bytes, values_bytes}
use Rattle.row_core.specs.Hashing.{key_of}
use Rattle.row_core.specs.Values.{same_row}
use Rattle.bag_laws.specs.Rows.{OneRow as Row}
use Rattle.bag_laws.proofs.Laws.{same-swapped}
use Rattle.plan_model.specs.Operators.{rows_with}
use Rattle.row_groups.specs.Held.{keys_of, KeyFits}
use Rattle.row_groups.proofs.Laws.{all_fit, found_each, keys_tell, none_with}
use Rattle.row_set.proofs.Laws.{found_by_codes}
use Rattle.row_view.specs.Encoded.{RowOf, Spells}

pub with_wide : (P : Row → Type 0) (test : Row → Bool) (rows : List Row) → AllByRecursion P rows → AllByRecursion P (filter test rows)
with_wide P test [] all = tt
with_wide P test (row ∷ rows) all = by (test row) (with_wide P test rows all.1)
  where
    by : (b : Bool) → AllByRecursion P (filter test rows) → AllByRecursion P (if b then row ∷ filter test rows else filter test rows)
    by true more = (all.0, more)
    by false more = more

-- a key that some row has, has rows
some_with : (keys : List ℕ) (key : Row) (rows : List Row) → list_any (same_row key) (map (key_of keys) rows) ≡ true → 0 < length (rows_with keys key rows)
some_with keys key [] some = absurd cc
some_with keys key (row ∷ rows) some = by (same_row (key_of keys row) key) (same-swapped key (key_of keys row)) (some_with keys key rows)
  where
    by : (b : Bool) → same_row key (key_of keys row) ≡ b → (list_any (same_row key) (map (key_of keys) rows) ≡ true → 0 < length (rows_with keys key rows))
        → 0 < length (if b then row ∷ rows_with keys key rows else rows_with keys key rows)
    by true is rest = omega arith
    by false is rest = rest (sym (ap (λ (b : Bool). b || list_any (same_row key) (map (key_of keys) rows)) is) ∙ some)

module _ (keys : List ℕ) (width : ℕ) (rows : List Row) (values : Row) (places groups : List (List ℕ)) (wide : AllByRecursion (RowOf width) rows) (fit : KeyFits (length keys) values)
    (had_keys : places ≡ map values_bytes (keys_of keys rows)) (had_told : groups ≡ map (λ key. rows_bytes (rows_with keys key rows)) (keys_of keys rows)) where
  -- whether the key is the key of some row
  any_row : (any : Bool) → list_any (bytes_eq (values_bytes values)) places ≡ any → list_any (same_row values) (map (key_of keys) rows) ≡ any
  any_row any found =
      sym (found_each values (map (key_of keys) rows))
      ∙ sym (found_by_codes values_bytes (KeyFits (length keys)) (keys_tell (length keys)) values (keys_of keys rows) fit (all_fit keys width rows wide))
      ∙ ap (list_any (bytes_eq (values_bytes values))) (sym had_keys) ∙ found

  pub found_there : (place : ℕ) → position (bytes_eq (values_bytes values)) places ≡ Some place → list_any (bytes_eq (values_bytes values)) places ≡ true
      → Spells width (get_or groups place []) (rows_with keys values rows) × (0 < length (rows_with keys values rows))
  found_there place at found =
      let each = keys_of keys rows in
      let first = position-Some (bytes_eq (values_bytes values)) places place [] at in
      let within : place < length places = first.0 in
      let lt : place < length each = omega (arith, within, ap length had_keys, length-map each values_bytes) in
      let codes : values_bytes values ≡ values_bytes (get_or each place []) =
      (bytes_decides (values_bytes values) (get_or places place [])).0 first.1 ∙ ap (λ (l : List (List ℕ)). get_or l place []) had_keys ∙ get_or-map values_bytes each place [] [] lt in
      let here : get_or each place [] ≡ values =
      sym (keys_tell (length keys) values (get_or each place []) fit (All-from_recursion (KeyFits (length keys)) each (all_fit keys width rows wide) place [] lt) codes) in
      let bytes : get_or groups place [] ≡ rows_bytes (rows_with keys values rows) =
      ap (λ (l : List (List ℕ)). get_or l place []) had_told ∙ get_or-map (λ key. rows_bytes (rows_with keys key rows)) each place [] [] lt
      ∙ ap (λ (key : Row). rows_bytes (rows_with keys key rows)) here in (
        (with_wide (RowOf width) (λ row. same_row (key_of keys row) values) rows wide, bytes),
        some_with keys values rows (any_row true found),
      )

  pub not_found : list_any (bytes_eq (values_bytes values)) places ≡ false → rows_with keys values rows ≡ []
  not_found found = none_with keys values rows (any_row false found)
