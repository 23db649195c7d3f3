-- Facts of rows and of steps that hold in one way, so that a type may keep them.
use Rattle.std.specs.Prelude.{ℕ, List, [], ◌∷◌, length, slice_index_or, true}
use Rattle.std.specs.Coded.{×_prop, Unit-prop, le_prop, Coded-set, coded_list, coded_ℕ, coded_bool}
use Rattle.std.specs.List.{AllByRecursion, AllByRecursion-prop}
use Rattle.std.specs.Int.{w64}
use Rattle.std.proofs.Common.{sym, ◌∙◌}
use mathlib.Core.HLevel.{Σ_prop_path}
use mir.ValLaws.{SFits-prop}
use Rattle.row_core.proofs.Laws.{rows_same}
use Rattle.row_core.specs.Encoding.{ValueFits, RowsFit, rows_bytes}
use Rattle.row_core.specs.declared.expr.Expr.{Expr}
use Rattle.row_core.specs.declared.value.Value.{Value}
use Rattle.row_core.specs.declared.value.Value.TheVariants.{Null, Int, Text}
use Rattle.bag_laws.specs.Rows.{OneRow as Row}
use Rattle.operator_laws.specs.Texts.{ConstantFits, ConstantsFit}
use Rattle.plan_model.specs.Checks.{columns_fit}
use Rattle.plan_model.specs.Operators.{is_row_wise}
use Rattle.plan_model.specs.Widths.{width_of}
use Rattle.plan_model.specs.declared.op.Op.{Op}
use Rattle.plan_model.specs.declared.op.Op.TheVariants.{Source, Filter, Project, Explode, Union, Aggregate, Distinct, Join, Sink}
use Rattle.row_steps.specs.Chained.{StepFits, StepsFit}
use Rattle.row_view.specs.Encoded.{RowOf}
use Rattle.hash_join.specs.Fits.{JoinFits}
use Rattle.hash_join.specs.Rules.{width_by}
use Rattle.hash_join.specs.Spelled.{SpellsSome}
use Rattle.hash_join.specs.declared.rules.Rule.{Rule}

-- ---- rows of a width

value_once : (value : Value) → IsProp (ValueFits value)
value_once Null = Unit-prop
value_once (Int n) = SFits-prop w64 n
value_once (Text t) = le_prop

row_once : (width : ℕ) (row : Row) → IsProp (RowOf width row)
row_once width row a b i = record {
  fits = record {
    width = le_prop a.fits.width b.fits.width i;
    values = AllByRecursion-prop ValueFits value_once row a.fits.values b.fits.values i;
  };
  wide = Coded-set coded_ℕ (length row) width a.wide b.wide i;
}

fit_of : (width : ℕ) (rows : List Row) → AllByRecursion (RowOf width) rows → RowsFit rows
fit_of width [] all = tt
fit_of width (row ∷ rows) all = (all.0.fits, fit_of width rows all.1)

spelled_once : (width : ℕ) (bytes : List ℕ) → IsProp (SpellsSome width bytes)
spelled_once width bytes a b =
    Σ_prop_path
    (λ rows. ×_prop (AllByRecursion-prop (RowOf width) (row_once width) rows)
    (Coded-set (coded_list coded_ℕ) bytes (rows_bytes rows)))
    (rows_same a.0 b.0 (fit_of width a.0 a.1.0) (fit_of width b.0 b.1.0) (sym a.1.1 ∙ b.1.1))

pub all_spelled_once : (width : ℕ) (groups : List (List ℕ)) → IsProp (AllByRecursion (SpellsSome width) groups)
all_spelled_once width groups = AllByRecursion-prop (SpellsSome width) (spelled_once width) groups

-- ---- steps

constant_once : (expr : Expr) → IsProp (ConstantFits expr)
constant_once expr = λ a b i value is. value_once value (a value is) (b value is) i

op_once : (op : Op) → IsProp (ConstantsFit op)
op_once (Source table columns) = Unit-prop
op_once (Filter test) = Unit-prop
op_once (Project exprs) = λ a b i k d lt. constant_once (slice_index_or exprs k d) (a k d lt) (b k d lt) i
op_once (Explode column separator) = Unit-prop
op_once Union = Unit-prop
op_once (Aggregate keys aggs) = Unit-prop
op_once Distinct = Unit-prop
op_once (Join kind keys) = Unit-prop
op_once (Sink name) = Unit-prop

step_once : (width : ℕ) (op : Op) → IsProp (StepFits width op)
step_once width op a b i = record {
  row_wise = Coded-set coded_bool (is_row_wise op) true a.row_wise b.row_wise i;
  columns = Coded-set coded_bool (columns_fit op (width ∷ [])) true a.columns b.columns i;
  narrow = le_prop a.narrow b.narrow i;
  constants = op_once op a.constants b.constants i;
}

steps_once : (width : ℕ) (ops : List Op) (last : ℕ) → IsProp (StepsFit width ops last)
steps_once width [] last = Coded-set coded_ℕ width last
steps_once width (op ∷ ops) last = ×_prop (step_once width op) (steps_once (width_of op (width ∷ [])) ops last)

pub join_fits_once : (rule : Rule) (width other : ℕ) (ops : List Op) (last : ℕ) → IsProp (JoinFits rule width other ops last)
join_fits_once rule width other ops last a b i = record {
  narrow = le_prop a.narrow b.narrow i;
  steps = steps_once (width_by rule width other) ops last a.steps b.steps i;
}
