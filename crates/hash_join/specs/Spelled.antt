-- Bytes that are rows of a width.
use Rattle.std.specs.Prelude.{ℕ, List}
use Rattle.bag_laws.specs.Rows.{OneRow as Row}
use Rattle.row_view.specs.Encoded.{Spells}

-- they spell some rows of this width
abbrev pub SpellsSome : ℕ → List ℕ → Type 0
SpellsSome width bytes = (rows : List Row) × Spells width bytes rows
