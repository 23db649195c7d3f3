-- The values of a row that is seen, at their places.
use Rattle.std.proofs.Common.{◌≡◌, ℕ, ◌<◌, List, length, get_or, sym, subst, arith}
use Rattle.std.specs.List.{AllByRecursion}
use Rattle.std.proofs.lemmas.List.{get_or-map, length-map}
use Rattle.std.proofs.lemmas.List.Elements.{All-from_recursion}
use Rattle.row_core.specs.declared.value.Value.TheVariants.{Null}
use Rattle.row_core.specs.Encoding.{TextFits}
use Rattle.row_view.specs.declared.value_ref.ValueRef.{ValueRef}
use Rattle.row_view.specs.Views.{seen, row_seen}

-- the value that a place in the row shows
pub seen_at : (row : List ValueRef) (k : ℕ) (d : ValueRef) → k < length row → seen (get_or row k d) ≡ get_or (row_seen row) k Null
seen_at row k d lt = sym (get_or-map seen row k d Null lt)

-- its text fits, where those of the row do
pub text_at : (row : List ValueRef) (k : ℕ) (d : ValueRef) → k < length row → AllByRecursion TextFits (row_seen row) → TextFits (seen (get_or row k d))
text_at row k d lt fit =
    let len : k < length (row_seen row) = omega (arith, length-map row seen) in
    subst TextFits (sym (seen_at row k d lt)) (All-from_recursion TextFits (row_seen row) fit k Null len)
