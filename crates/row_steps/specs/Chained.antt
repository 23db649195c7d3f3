-- Operators that go row by row, one after another.
use Rattle.std.specs.Prelude.{◌≡◌, ◌≤◌, ℕ, List, [], ◌∷◌, map, IsTrue}
use Rattle.std.specs.List.{AllByRecursion}
use denote.Ref.{Bor}
use Rattle.row_core.specs.Values.{width_limit}
use Rattle.bag_laws.specs.Rows.{OneRow as Row}
use Rattle.plan_model.specs.Checks.{columns_fit}
use Rattle.plan_model.specs.Operators.{is_row_wise}
use Rattle.plan_model.specs.Widths.{width_of}
use Rattle.plan_model.specs.declared.op.Op.{Op}
use Rattle.operator_laws.specs.Applied.{applied}
use Rattle.operator_laws.specs.Texts.{ConstantsFit}
use Rattle.row_view.specs.Encoded.{RowOf}

-- the operators themselves
abbrev pub ops_of : List (Bor Op) → List Op
ops_of steps = map (λ step. step.now) steps

-- what a chain of operators gives on rows
abbrev pub chained : List Op → List Row → List Row
chained [] rows = rows
chained (op ∷ ops) rows = chained ops (applied op rows)

-- an operator that goes row by row, on rows of this width: its columns are theirs, and what it
-- gives can be encoded
pub record StepFits (width : ℕ) (op : Op) : Type 0 where
  pub row_wise : IsTrue (is_row_wise op)
  pub columns : IsTrue (columns_fit op (width ∷ []))
  pub narrow : width_of op (width ∷ []) ≤ width_limit
  pub constants : ConstantsFit op

-- operators that fit one after another, from rows of a width to rows of a width
abbrev pub StepsFit : ℕ → List Op → ℕ → Type 0
StepsFit width [] last = width ≡ last
StepsFit width (op ∷ ops) last = StepFits width op × StepsFit (width_of op (width ∷ [])) ops last

-- rows of one width, from which the operators lead to rows of a width
pub record AreTaken (ops : List Op) (rows : List Row) (last : ℕ) : Type 0 where
  pub width : ℕ
  pub fit : AllByRecursion (RowOf width) rows
  pub steps : StepsFit width ops last
