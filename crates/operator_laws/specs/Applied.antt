-- What an operator gives on rows, and the columns of a join's keys.
use Rattle.std.specs.Prelude.{ℕ, List, map}
use Rattle.row_core.specs.Bags.{one_of_each}
use Rattle.bag_laws.specs.Rows.{OneRow as Row}
use Rattle.plan_model.specs.Operators.{filtered, projected, exploded, aggregated}
use Rattle.plan_model.specs.declared.op.Op.{Op}
use Rattle.plan_model.specs.declared.op.Op.TheVariants.{Filter, Project, Explode}
use Rattle.plan_model.specs.declared.op.Op.TheVariants.{Aggregate, Distinct}

-- the rows of a unary operator, where the inputs of a union stand one after the other; others pass
-- rows on
abbrev pub applied : Op → List Row → List Row
applied (Filter test) rows = filtered test rows
applied (Project exprs) rows = projected exprs rows
applied (Explode column separator) rows = exploded column separator rows
applied (Aggregate keys aggs) rows = aggregated keys aggs rows
applied Distinct rows = one_of_each rows
applied _ rows = rows

-- the key columns of a join's left side, and those of its right
abbrev pub left_columns : List (ℕ × ℕ) → List ℕ
left_columns keys = map (λ pair. pair.0) keys

abbrev pub right_columns : List (ℕ × ℕ) → List ℕ
right_columns keys = map (λ pair. pair.1) keys
