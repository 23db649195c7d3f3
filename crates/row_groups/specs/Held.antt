-- What the groups of an aggregate hold.
use Rattle.std.specs.Prelude.{◌≡◌, ℕ, List, length, map}
use Rattle.std.specs.List.{AllByRecursion}
use Rattle.row_core.specs.Bags.{one_of_each}
use Rattle.row_core.specs.Encoding.{values_bytes, ValueFits}
use Rattle.row_core.specs.Hashing.{key_of}
use Rattle.bag_laws.specs.Rows.{OneRow as Row}
use Rattle.plan_model.specs.Operators.{rows_with}
use Rattle.plan_model.specs.declared.agg.Agg.{Agg}
use Rattle.row_view.specs.Encoded.{RowOf}
use Rattle.row_groups.specs.Accumulators.{accumulator_of, states_of}
use Rattle.row_groups.specs.declared.accumulator.Accumulator.{Accumulator}
use Rattle.row_groups.specs.declared.groups.Groups.{Groups}

-- the keys of rows, each once
abbrev pub keys_of : List ℕ → List Row → List Row
keys_of keys rows = one_of_each (map (key_of keys) rows)

-- so many values, each of which fits
pub record KeyFits (n : ℕ) (key : Row) : Type 0 where
  pub values : AllByRecursion ValueFits key
  pub count : length key ≡ n

-- the accumulators of a key's rows
abbrev pub told_of : List ℕ → List Agg → List Row → Row → List Accumulator
told_of keys aggs rows key = map (accumulator_of (rows_with keys key rows)) aggs

-- of these rows, all of its width, each key is kept once as the bytes of its values, and beside it
-- the accumulators of its rows
pub record HoldsGroups (groups : Groups) (rows : List Row) : Type 0 where
  pub wide : AllByRecursion (RowOf groups.width) rows
  pub keys : groups.places ≡ map values_bytes (keys_of groups.keys.now rows)
  pub told : states_of groups.states.items
      ≡ map (told_of groups.keys.now groups.aggs.now rows) (keys_of groups.keys.now rows)
