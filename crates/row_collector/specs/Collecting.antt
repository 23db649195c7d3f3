-- What a collector makes of rows, whatever it makes of them.
use Rattle.std.specs.Prelude.{List, ◌++◌}
use Rattle.bag_laws.specs.Rows.{OneRow as Row}

-- of whatever it held these rows are taken as well, behind the others
abbrev pub Collects : {S : Type 0} → (S → List Row → Type 0) → S → S → List Row → Type 0
Collects holds old new batch = (rows : List Row) → holds old rows → holds new (rows ++ batch)
