use Rattle.std.proofs.Common.{◌≡◌, ◌∷◌, ◌++◌, [], List, length, map, take, drop}
use Rattle.bag_laws.specs.Rows.{OneRow as Row}
use Rattle.row_groups.specs.Accumulators.{accumulator_of}
use Rattle.row_view.specs.Views.{row_seen}
use Rattle.row_groups.proofs.states.add_row.Given as goal

abbrev pub invariant-loop-place : goal.invariant-loop-place
invariant-loop-place l =
    (length l.states.items ≡ length l.fn.states.items)
    × ((rows : List Row) → l.fn.states.items ≡ map (accumulator_of rows) l.aggs
    → l.states.items ≡ map (accumulator_of (rows ++ row_seen l.row ∷ [])) (take l.place l.aggs) ++ map (accumulator_of rows) (drop l.place l.aggs))
