-- Items at the front of bytes.
use Rattle.std.specs.Prelude.{◌≡◌, ℕ, List, ◌++◌, length}
use Rattle.std.specs.List.{AllByRecursion}

-- where two spellings begin the same bytes, they are one, of one item
pub record IsPrefixFree {A : Type 0} (spell : A → List ℕ) (Fits : A → Type 0) : Type 0 where
  pub front : (a b : A) (x y : List ℕ) → Fits a → Fits b → spell a ++ x ≡ spell b ++ y
      → (a ≡ b) × (x ≡ y)

-- the spellings of a pair's parts
abbrev pub both : {A B : Type 0} → (A → List ℕ) → (B → List ℕ) → A × B → List ℕ
both first second pair = first pair.0 ++ second pair.1

abbrev pub BothFit : {A B : Type 0} → (A → Type 0) → (B → Type 0) → A × B → Type 0
BothFit First Second pair = First pair.0 × Second pair.1

-- this many items, each of which fits
pub record AreMany {A : Type 0} (Fits : A → Type 0) (count : ℕ) (items : List A) : Type 0 where
  pub len : length items ≡ count
  pub each : AllByRecursion Fits items
