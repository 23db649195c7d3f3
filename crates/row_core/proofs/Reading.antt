-- A row whose next value is missing.
use Rattle.std.proofs.Common.{◌≡◌, ℕ, ◌<◌, List, [], ◌∷◌, ◌++◌, length, sym, ap, ◌∙◌, append_assoc, arith, inl, inr}
use Rattle.std.specs.List.{AllByRecursion}
use Rattle.std.proofs.lemmas.List.{length-append}
use Rattle.row_core.specs.declared.value.Value.{Value}
use Rattle.row_core.specs.Encoding.{value_bytes, values_bytes, ValueFits}
use Rattle.row_core.specs.Decoding.{Begins, NoneBegins, AreValues}
use Rattle.row_core.proofs.Fronts.{lists_front, values_free}

first_lacks : (more : List Value) (rest after : List ℕ) → 0 < length more → AllByRecursion ValueFits more → rest ≡ values_bytes more ++ after → NoneBegins value_bytes ValueFits rest → ⊥
first_lacks [] rest after some fit h none = omega arith
first_lacks (value ∷ more) rest after some fit h none = none value (values_bytes more ++ after) (record { fits = fit.0; front = h ∙ append_assoc (value_bytes value) (values_bytes more) after })

-- Where a row is to have more values, and no value comes next, no such row comes.
pub values_lack : (place count : ℕ) (bytes : List ℕ) (row : List Value) (rest : List ℕ) → Begins values_bytes (AreValues place) bytes row rest → place < count → NoneBegins value_bytes ValueFits rest → NoneBegins values_bytes (AreValues count) bytes
values_lack place count bytes row rest before missing none values after read =
    let len = before.fits.width in
    let width = read.fits.width in
    elim (lists_front value_bytes ValueFits values_free row values rest after before.fits.each read.fits.each (sym before.front ∙ read.front)) [
      | inl longer ↦ first_lacks longer.more rest after (omega (arith, ap length longer.list, length-append row longer.more)) longer.fit longer.rest none
      | inr longer ↦ omega (arith, ap length longer.list, length-append values longer.more)
    ]
