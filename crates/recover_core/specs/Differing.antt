-- Where lists differ first.
use Rattle.std.specs.Prelude.{◌≡◌, ◌≢◌, ℕ, List, [], take, get_or, slice_get}

-- they are the same before this place, and not there
pub record DiffersAt {A : Type 0} (old new : List A) (at : ℕ) : Type 0 where
  pub same : take at old ≡ take at new
  pub other : slice_get old at ≢ slice_get new at

-- the tables before this one are the same, and its files differ first at this one
pub record ChangesAt (old new : List (List ℕ)) (table file : ℕ) : Type 0 where
  pub same : take table old ≡ take table new
  pub differs : DiffersAt (get_or old table []) (get_or new table []) file
