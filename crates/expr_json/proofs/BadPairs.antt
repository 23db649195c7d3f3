-- A list of other than two items is no bad pair.
use Rattle.std.proofs.Common.{◌≡◌, ◌<◌, ◌≤◌, false, List, [], ◌∷◌, length, refl, arith}
use Rattle.serde_json.specs.View.{items_view}
use Rattle.serde_json.specs.declared.value.Value.{Value}
use Rattle.expr_json.specs.BadNumbers.{has_bad_pair}

pub too_few : (vs : List Value) → length vs < 2 → has_bad_pair (items_view vs) ≡ false
too_few [] h = refl
too_few (v ∷ []) h = refl
too_few (v ∷ w ∷ vs) h = absurd (omega arith)

pub too_many : (vs : List Value) → 3 ≤ length vs → has_bad_pair (items_view vs) ≡ false
too_many [] h = refl
too_many (v ∷ []) h = refl
too_many (v ∷ w ∷ []) h = absurd (omega arith)
too_many (v ∷ w ∷ x ∷ vs) h = refl
