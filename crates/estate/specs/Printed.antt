-- What a printer has printed.
use Rattle.std.specs.Prelude.{◌≡◌, ℕ, ◌≤◌, Bool, List, ◌++◌, take}

-- The bytes say something only where they are told.
pub record Printed : Type 0 where
  pub told : Bool
  pub bytes : List ℕ
  pub faults : ℕ

-- whether it is told stays, and the count never falls
pub record KeepsPrinted (old new : Printed) : Type 0 where
  pub told : new.told ≡ old.told
  pub faults : old.faults ≤ new.faults

-- a first part of the bytes was added
abbrev pub AddsPart : List ℕ → List ℕ → List ℕ → Type 0
AddsPart bytes old new = (n : ℕ) × (new ≡ old ++ take n bytes)
