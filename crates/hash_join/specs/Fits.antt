-- Steps behind a join.
use Rattle.std.specs.Prelude.{ℕ, ◌≤◌, List}
use Rattle.row_core.specs.Values.{width_limit}
use Rattle.plan_model.specs.declared.op.Op.{Op}
use Rattle.hash_join.specs.Rules.{width_by}
use Rattle.hash_join.specs.declared.rules.Rule.{Rule}
use Rattle.row_steps.specs.Chained.{StepsFit}

-- the rows that come of probe rows and built rows of these widths can be encoded, and the steps lead
-- from them to rows of a width
pub record JoinFits (rule : Rule) (width other : ℕ) (ops : List Op) (last : ℕ) : Type 0 where
  pub narrow : width_by rule width other ≤ width_limit
  pub steps : StepsFit (width_by rule width other) ops last
