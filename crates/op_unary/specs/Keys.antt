-- Rows beside the hashes of their keys.
use Rattle.std.specs.Prelude.{◌≡◌, ℕ, All, List, map}
use Rattle.bag_laws.specs.Rows.{OneRow as Row}
use Rattle.plan_model.specs.Operators.{key_of}
use Rattle.op_unary.specs.Hashes.{hash_of}
use Rattle.op_unary.specs.declared.keyed.Keyed.{Keyed}

-- the rows alone
abbrev pub rows_of : List Keyed → List Row
rows_of sorted = map (λ keyed. keyed.row.now) sorted

-- a row's key in these columns
abbrev pub key_in : List ℕ → Keyed → Row
key_in keys keyed = key_of keys keyed.row.now

-- beside each row stands its key's hash
abbrev pub AreHashed : List ℕ → List Keyed → Type 0
AreHashed keys sorted = All (λ keyed. keyed.hash ≡ hash_of (key_of keys keyed.row.now)) sorted
