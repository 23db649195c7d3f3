-- The bytes of the groups of an aggregate, a row for each.
use Rattle.std.specs.Prelude.{ℕ, List, [], ◌∷◌, ◌++◌, map}
use Rattle.std.specs.Int.{w16, to_be_bytes}
use Rattle.row_core.specs.Encoding.{values_bytes}
use Rattle.row_groups.specs.Accumulators.{finish}
use Rattle.row_groups.specs.declared.accumulator.Accumulator.{Accumulator}

-- the number of values, the bytes of the key's, and the values of its accumulators
abbrev pub group_bytes : ℕ → List ℕ → List Accumulator → List ℕ
group_bytes width key states = (to_be_bytes w16 width ++ key) ++ values_bytes (map finish states)

-- one group after another
abbrev pub groups_bytes : ℕ → List (List ℕ) → List (List Accumulator) → List ℕ
groups_bytes width [] groups = []
groups_bytes width (key ∷ keys) [] = []
groups_bytes width (key ∷ keys) (states ∷ groups) =
    group_bytes width key states ++ groups_bytes width keys groups
