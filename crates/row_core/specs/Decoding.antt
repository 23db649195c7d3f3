-- What reading from the front of bytes gives, and what decoding answers.
use Rattle.std.specs.Prelude.{◌≡◌, ℕ, List, ◌++◌, length, Result, Ok, Err}
use Rattle.std.specs.List.{AllByRecursion}
use Rattle.row_core.specs.declared.value.Value.{Value}
use Rattle.row_core.specs.declared.row_error.RowError.{RowError}
use Rattle.row_core.specs.declared.row_error.RowError.TheVariants.{Bad, NoMemory}
use Rattle.row_core.specs.Encoding.{ValueFits, StopsAt}

-- the bytes begin with the spelling of an item that fits, and this is what follows
pub record Begins {A : Type 0} (spell : A → List ℕ) (Fits : A → Type 0) (bytes : List ℕ) (item : A)
    (rest : List ℕ) : Type 0 where
  pub fits : Fits item
  pub front : bytes ≡ spell item ++ rest

-- they begin with no item's
abbrev pub NoneBegins : {A : Type 0} → (A → List ℕ) → (A → Type 0) → List ℕ → Type 0
NoneBegins {A} spell Fits bytes = (item : A) (rest : List ℕ) → Begins spell Fits bytes item rest → ⊥

-- this many values, each of which fits
pub record AreValues (count : ℕ) (values : List Value) : Type 0 where
  pub width : length values ≡ count
  pub each : AllByRecursion ValueFits values

-- why no rows are decoded
abbrev pub IsCause : List ℕ → RowError → Type 0
IsCause bytes (Bad at) = StopsAt bytes at
IsCause bytes NoMemory = Unit {0}

-- these rows, unless memory runs out
abbrev pub GivesRows : Result (List (List Value)) RowError → List (List Value) → Type 0
GivesRows (Ok found) rows = found ≡ rows
GivesRows (Err NoMemory) rows = Unit {0}
GivesRows (Err (Bad at)) rows = ⊥

-- a refusal at this place, unless memory runs out
abbrev pub GivesBad : Result (List (List Value)) RowError → ℕ → Type 0
GivesBad (Ok found) at = ⊥
GivesBad (Err NoMemory) at = Unit {0}
GivesBad (Err (Bad place)) at = place ≡ at
