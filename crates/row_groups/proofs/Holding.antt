-- What is held of the rows of each key, with one row more.
use Rattle.std.proofs.Common.{◌≡◌, ◌<◌, ℕ, Bool, true, false, List, [], ◌∷◌, ◌++◌, length, map, get_or, set, Some, sym, ap, ◌∙◌, arith, if◌then◌else◌}
use Rattle.std.specs.Prelude.{position}
use Rattle.std.specs.List.{list_any, AllByRecursion}
use Rattle.std.specs.Str.{bytes_eq}
use Rattle.std.specs.Cmp.Lexicographic.{bytes_decides}
use Rattle.std.proofs.lemmas.List.{get_or-map, length-map, map-append}
use Rattle.std.proofs.lemmas.List.Elements.{All-from_recursion}
use Rattle.std.proofs.lemmas.List.Quantifiers.{position-Some}
use Rattle.indexmap.specs.IndexSet.{insert_key}
use Rattle.row_core.specs.Encoding.{values_bytes}
use Rattle.row_core.specs.Hashing.{key_of}
use Rattle.row_core.specs.Values.{same_row}
use Rattle.bag_laws.specs.Rows.{OneRow as Row}
use Rattle.plan_model.specs.Operators.{rows_with}
use Rattle.row_set.proofs.Laws.{found_by_codes}
use Rattle.row_view.specs.Encoded.{RowOf}
use Rattle.row_groups.specs.Held.{keys_of, KeyFits}
use Rattle.row_groups.proofs.Grouping.{told_by, told_there, told_new}
use Rattle.row_groups.proofs.Keys.{all_fit, key_fits, keys_tell}

module _ {X : Type 0} (f : List Row → X) (keys : List ℕ) (width : ℕ) (rows : List Row) (row : Row) (places : List (List ℕ)) (told : List X)
    (wide : AllByRecursion (RowOf width) rows) (one : RowOf width row) (had_keys : places ≡ map values_bytes (keys_of keys rows)) (had_told : told ≡ map (told_by f keys rows) (keys_of keys rows)) where
  -- whether its key is among the keys
  found_as : (any : Bool) → list_any (bytes_eq (values_bytes (key_of keys row))) places ≡ any → list_any (same_row (key_of keys row)) (keys_of keys rows) ≡ any
  found_as any found =
      sym (found_by_codes values_bytes (KeyFits (length keys)) (keys_tell (length keys)) (key_of keys row) (keys_of keys rows) (key_fits keys row one.fits) (all_fit keys width rows wide))
      ∙ ap (list_any (bytes_eq (values_bytes (key_of keys row)))) (sym had_keys) ∙ found

  -- the key is there
  pub held_there : (place : ℕ) (d : X) (now : List X) → position (bytes_eq (values_bytes (key_of keys row))) places ≡ Some place → list_any (bytes_eq (values_bytes (key_of keys row))) places ≡ true
      → ((some : List Row) → get_or told place d ≡ f some → now ≡ set told place (f (some ++ row ∷ [])))
      → (places ≡ map values_bytes (keys_of keys (rows ++ row ∷ []))) × (now ≡ map (told_by f keys (rows ++ row ∷ [])) (keys_of keys (rows ++ row ∷ [])))
  held_there place d now at found put =
      let key = key_of keys row in
      let each = keys_of keys rows in
      let first = position-Some (bytes_eq (values_bytes key)) places place [] at in
      let within : place < length places = first.0 in
      let lt : place < length each = omega (arith, within, ap length had_keys, length-map each values_bytes) in
      let codes : values_bytes key ≡ values_bytes (get_or each place []) =
      (bytes_decides (values_bytes key) (get_or places place [])).0 first.1 ∙ ap (λ (l : List (List ℕ)). get_or l place []) had_keys ∙ get_or-map values_bytes each place [] [] lt in
      let here : get_or each place [] ≡ key =
      sym (keys_tell (length keys) key (get_or each place []) (key_fits keys row one.fits) (All-from_recursion (KeyFits (length keys)) each (all_fit keys width rows wide) place [] lt) codes) in
      let was : get_or told place d ≡ f (rows_with keys key rows) =
      ap (λ (l : List X). get_or l place d) had_told ∙ get_or-map (told_by f keys rows) each place [] d lt ∙ ap (told_by f keys rows) here in
      let both = told_there f keys rows row place told now (found_as true found) lt here had_told (put (rows_with keys key rows) was) in
      (had_keys ∙ ap (map values_bytes) (sym both.0), both.1)

  -- the key is new
  pub held_new : (more : List (List ℕ)) (now : List X) → list_any (bytes_eq (values_bytes (key_of keys row))) places ≡ false → more ≡ insert_key bytes_eq places (values_bytes (key_of keys row))
      → now ≡ told ++ f (row ∷ []) ∷ []
      → (more ≡ map values_bytes (keys_of keys (rows ++ row ∷ []))) × (now ≡ map (told_by f keys (rows ++ row ∷ [])) (keys_of keys (rows ++ row ∷ [])))
  held_new more now none put fresh =
      let key = key_of keys row in
      let both = told_new f keys rows row told now (found_as false none) had_told fresh in (
        put ∙ ap (λ (b : Bool). if b then places else places ++ values_bytes key ∷ []) none ∙ (λ i. had_keys i ++ values_bytes key ∷ [])
            ∙ sym (map-append values_bytes (keys_of keys rows) (key ∷ [])) ∙ ap (map values_bytes) (sym both.0),
        both.1,
      )
