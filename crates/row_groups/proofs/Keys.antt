-- Keys by the bytes of their values.
use Rattle.std.proofs.Common.{◌≡◌, ◌<◌, ◌≤◌, ◌+◌, ℕ, zero, suc, List, [], ◌∷◌, ◌++◌, length, map, take, get_or, refl, sym, ap, ◌∙◌, arith}
use Rattle.std.specs.List.{AllByRecursion}
use Rattle.std.specs.Int.{w16, to_be_bytes}
use Rattle.std.proofs.lemmas.List.{append-nil, length-map, map_more}
use Rattle.row_core.specs.declared.value.Value.{Value}
use Rattle.row_core.specs.declared.value.Value.TheVariants.{Null}
use Rattle.row_core.specs.Encoding.{value_bytes, values_bytes, row_bytes, RowFits, ValueFits}
use Rattle.row_core.specs.Hashing.{key_of}
use Rattle.row_core.specs.Values.{width_limit}
use Rattle.row_core.proofs.Laws.{row_front}
use Rattle.bag_laws.specs.Rows.{OneRow as Row}
use Rattle.row_set.proofs.Laws.{each_fit}
use Rattle.row_view.specs.Encoded.{RowOf}
use Rattle.row_groups.specs.Held.{keys_of, KeyFits}

-- ---- a key can be encoded

value_fits : (row : Row) (column : ℕ) → AllByRecursion ValueFits row → ValueFits (get_or row column Null)
value_fits [] column fit = tt
value_fits (value ∷ row) zero fit = fit.0
value_fits (value ∷ row) (suc column) fit = value_fits row column fit.1

key_values : (keys : List ℕ) (row : Row) → AllByRecursion ValueFits row → AllByRecursion ValueFits (key_of keys row)
key_values [] row fit = tt
key_values (column ∷ keys) row fit = (value_fits row column fit, key_values keys row fit)

pub key_fits : (keys : List ℕ) (row : Row) → RowFits row → KeyFits (length keys) (key_of keys row)
key_fits keys row fits = record { values = key_values keys row fits.values; count = length-map keys (λ (column : ℕ). get_or row column Null) }

pub all_fit : (keys : List ℕ) (width : ℕ) (rows : List Row) → AllByRecursion (RowOf width) rows → AllByRecursion (KeyFits (length keys)) (keys_of keys rows)
all_fit keys width rows wide = each_fit (KeyFits (length keys)) (map (key_of keys) rows) (each rows wide)
  where
    each : (rows : List Row) → AllByRecursion (RowOf width) rows → AllByRecursion (KeyFits (length keys)) (map (key_of keys) rows)
    each [] wide = tt
    each (row ∷ rows) wide = (key_fits keys row wide.0.fits, each rows wide.1)

-- and few values are a row
pub all_keys : (keys : List ℕ) (width : ℕ) (rows : List Row) → length keys ≤ width_limit → AllByRecursion (RowOf width) rows → AllByRecursion (RowOf (length keys)) (keys_of keys rows)
all_keys keys width rows narrow wide = each (keys_of keys rows) (all_fit keys width rows wide)
  where
    each : (rows : List Row) → AllByRecursion (KeyFits (length keys)) rows → AllByRecursion (RowOf (length keys)) rows
    each [] fit = tt
    each (key ∷ rows) fit = (record { fits = record { width = omega (arith, fit.0.count, narrow); values = fit.0.values }; wide = fit.0.count }, each rows fit.1)

-- ---- its bytes tell it

-- a value by itself is a row
value_front : (a b : Value) (x y : List ℕ) → ValueFits a → ValueFits b → value_bytes a ++ x ≡ value_bytes b ++ y → (a ≡ b) × (x ≡ y)
value_front a b x y fit_a fit_b same =
    let front : row_bytes (a ∷ []) ++ x ≡ row_bytes (b ∷ []) ++ y =
    ap (λ (l : List ℕ). to_be_bytes w16 1 ++ l) ((λ i. append-nil (value_bytes a) i ++ x) ∙ same ∙ sym (λ i. append-nil (value_bytes b) i ++ y)) in
    let both = row_front (a ∷ []) (b ∷ []) x y (record { width = omega arith; values = (fit_a, tt) }) (record { width = omega arith; values = (fit_b, tt) }) front in
    (ap (λ (values : Row). get_or values 0 Null) both.0, both.1)

tell : (a b : Row) → AllByRecursion ValueFits a → AllByRecursion ValueFits b → length a ≡ length b → values_bytes a ≡ values_bytes b → a ≡ b
tell [] [] fit_a fit_b long same = refl
tell [] (b ∷ others) fit_a fit_b long same = absurd (omega arith)
tell (a ∷ more) [] fit_a fit_b long same = absurd (omega arith)
tell (a ∷ more) (b ∷ others) fit_a fit_b long same =
    let both = value_front a b (values_bytes more) (values_bytes others) fit_a.0 fit_b.0 same in
    let rest : more ≡ others = tell more others fit_a.1 fit_b.1 (omega arith) both.1 in
    (λ i. both.0 i ∷ rest i)

pub keys_tell : (n : ℕ) (a b : Row) → KeyFits n a → KeyFits n b → values_bytes a ≡ values_bytes b → a ≡ b
keys_tell n a b fit_a fit_b same = tell a b fit_a.values fit_b.values (fit_a.count ∙ sym fit_b.count) same

-- one column more
pub key_more : (columns : List ℕ) (row : Row) (i d : ℕ) → i < length columns → key_of (take (i + 1) columns) row ≡ key_of (take i columns) row ++ get_or row (get_or columns i d) Null ∷ []
key_more columns row i d lt = map_more (λ (column : ℕ). get_or row column Null) columns i d lt
