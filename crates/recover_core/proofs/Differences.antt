-- Where lists of numbers differ first.
use Rattle.std.proofs.Common.{◌≡◌, ◌≢◌, ℕ, ◌<◌, ◌≤◌, List, length, get_or, Some, None, sym, ◌∙◌}
use Rattle.std.specs.Prelude.{slice_get}
use Rattle.std.proofs.lemmas.Option.{slice_get-get_or, slice_get_past}

-- one ends here, and the other does not
pub differ_ended : (old new : List ℕ) (at : ℕ) → at < length old → length new ≤ at → slice_get old at ≢ slice_get new at
differ_ended old new at lt le same = let ends : Some (get_or old at 0) ≡ None = sym (slice_get-get_or old at 0 lt) ∙ same ∙ slice_get_past new at le in absurd (cc)

pub differ_longer : (old new : List ℕ) (at : ℕ) → length old ≤ at → at < length new → slice_get old at ≢ slice_get new at
differ_longer old new at le lt same = differ_ended new old at lt le (sym same)

-- the numbers differ here
pub differ_at : (old new : List ℕ) (at : ℕ) → at < length old → at < length new → get_or old at 0 ≢ get_or new at 0 → slice_get old at ≢ slice_get new at
differ_at old new at in_old in_new ne same =
    let both : Some (get_or old at 0) ≡ Some (get_or new at 0) = sym (slice_get-get_or old at 0 in_old) ∙ same ∙ slice_get-get_or new at 0 in_new in
    ne (cc)
