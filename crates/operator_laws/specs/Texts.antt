-- Rows and constants whose values are within their limits, so that they can be encoded.
use Rattle.std.specs.Prelude.{◌≡◌, ⊤, List, All}
use Rattle.std.specs.List.{AllByRecursion}
use Rattle.row_core.specs.Encoding.{TextFits, ValueFits}
use Rattle.row_core.specs.declared.expr.Expr.{Expr, Const}
use Rattle.row_core.specs.declared.value.Value.{Value}
use Rattle.bag_laws.specs.Rows.{OneRow as Row}
use Rattle.plan_model.specs.declared.op.Op.{Op}
use Rattle.plan_model.specs.declared.op.Op.TheVariants.{Project}

-- each value of each row is a number of 64 bits or a text within the limit
abbrev pub ValuesFit : List Row → Type 0
ValuesFit rows = All (λ row. AllByRecursion ValueFits row) rows

-- the texts of each row are within the limit
abbrev pub TextsFit : List Row → Type 0
TextsFit rows = All (λ row. AllByRecursion TextFits row) rows

-- an expression that is a constant is within the limits
abbrev pub ConstantFits : Expr → Type 0
ConstantFits expr = (value : Value) → expr ≡ Const value → ValueFits value

-- the constants that an operator projects are within the limits
abbrev pub ConstantsFit : Op → Type 0
ConstantsFit (Project exprs) = All ConstantFits exprs
ConstantsFit _ = ⊤
