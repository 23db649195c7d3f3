-- Facts of rows, cells and parts that hold in one way, so that a type may keep them.
use Rattle.std.specs.Prelude.{ℕ, List, [], ◌∷◌, length, slice_index_or, All}
use Rattle.std.specs.Coded.{×_prop, Unit-prop, le_prop, Coded-set, coded_list, coded_ℕ}
use Rattle.std.specs.List.{AllByRecursion, AllByRecursion-prop}
use Rattle.std.specs.Int.{w64}
use Rattle.std.proofs.Common.{sym, ◌∙◌}
use mathlib.Core.HLevel.{Σ_prop_path}
use mir.ValLaws.{SFits-prop}
use Rattle.row_core.proofs.Laws.{rows_same}
use Rattle.row_core.specs.Bags.{SameBag, count_of}
use Rattle.row_core.specs.Encoding.{ValueFits, RowsFit, rows_bytes}
use Rattle.row_core.specs.declared.expr.Expr.{Expr}
use Rattle.row_core.specs.declared.value.Value.{Value}
use Rattle.row_core.specs.declared.value.Value.TheVariants.{Null, Int, Text}
use Rattle.row_view.specs.Encoded.{RowOf, Spells}
use Rattle.bag_laws.specs.Rows.{OneRow as Row}
use Rattle.operator_laws.specs.Texts.{ConstantFits, ConstantsFit}
use Rattle.plan_model.specs.declared.node.Node.{Node}
use Rattle.plan_model.specs.declared.op.Op.{Op}
use Rattle.plan_model.specs.declared.op.Op.TheVariants.{Source, Filter, Project, Explode, Union, Aggregate, Distinct, Join, Sink}
use Rattle.plan_model.specs.declared.ship.Ship.{Ship}
use Rattle.plan_model.specs.declared.ship.Ship.TheVariants.{Forward, Hash, Rebalance, Broadcast}
use Rattle.task_parts.specs.Tasks.{GoesBy, TaskMay, dealt, hash_cell}
use Rattle.vertex_builder.specs.Vertices.{text_output}
use Rattle.vertex_builder.specs.declared.vertex_output.VertexOutput.{VertexOutput}
use Rattle.task_body.specs.Cells.{HasWidth}
use Rattle.task_body.specs.declared.task_cell.TaskCell.{TaskCell}
use Rattle.task_body.specs.declared.task_cell.TaskCell.TheVariants.{File, Cell}
use Rattle.vertex_laws.specs.VertexRows.{op_at}

-- ---- rows of a width

value_once : (value : Value) → IsProp (ValueFits value)
value_once Null = Unit-prop
value_once (Int n) = SFits-prop w64 n
value_once (Text t) = le_prop

row_once : (width : ℕ) (row : Row) → IsProp (RowOf width row)
row_once width row a b i = record {
  fits = record {
    width = le_prop a.fits.width b.fits.width i;
    values = AllByRecursion-prop ValueFits value_once row a.fits.values b.fits.values i;
  };
  wide = Coded-set coded_ℕ (length row) width a.wide b.wide i;
}

cell_once : (width : ℕ) (cell : TaskCell) → IsProp (HasWidth width cell)
cell_once width (File bytes) = Unit-prop
cell_once width (Cell rows) = AllByRecursion-prop (RowOf width) (row_once width) rows

pub widths_once : (width : ℕ) (cells : List TaskCell) → IsProp (All (HasWidth width) cells)
widths_once width cells = λ a b i k d lt. cell_once width (slice_index_or cells k d) (a k d lt) (b k d lt) i

-- ---- constants

constant_once : (expr : Expr) → IsProp (ConstantFits expr)
constant_once expr = λ a b i value is. value_once value (a value is) (b value is) i

op_once : (op : Op) → IsProp (ConstantsFit op)
op_once (Source table columns) = Unit-prop
op_once (Filter test) = Unit-prop
op_once (Project exprs) = λ a b i k d lt. constant_once (slice_index_or exprs k d) (a k d lt) (b k d lt) i
op_once (Explode column separator) = Unit-prop
op_once Union = Unit-prop
op_once (Aggregate keys aggs) = Unit-prop
op_once Distinct = Unit-prop
op_once (Join kind keys) = Unit-prop
op_once (Sink name) = Unit-prop

pub constants_once : (nodes : List Node) (chain : List ℕ) → IsProp (All (λ node. ConstantsFit (op_at nodes node)) chain)
constants_once nodes chain = λ a b i k d lt. op_once (op_at nodes (slice_index_or chain k d)) (a k d lt) (b k d lt) i

-- ---- what a task may give

same_once : (rows others : List Row) → IsProp (SameBag rows others)
same_once rows others a b i = record {
  counts = λ row. Coded-set coded_ℕ (count_of row rows) (count_of row others) (a.counts row) (b.counts row) i;
}

goes_once : (ship : Ship) (attempt count n : ℕ) (cells : ℕ → List Row) → IsProp (GoesBy ship attempt count n cells)
goes_once (Hash columns) attempt count n cells = λ a b i cell lt k d within.
    Coded-set coded_ℕ (hash_cell columns count (slice_index_or (cells cell) k d)) cell (a cell lt k d within) (b cell lt k d within) i
goes_once Rebalance attempt count n cells = λ a b i cell lt.
    Coded-set coded_ℕ (length (cells cell)) (dealt attempt count n cell) (a cell lt) (b cell lt) i
goes_once Forward attempt count n cells = Coded-set coded_ℕ count 1
goes_once Broadcast attempt count n cells = Unit-prop

pub may_once : (attempt : ℕ) (outputs : List VertexOutput) (rows : List Row) (part : ℕ → ℕ → List Row) → IsProp (TaskMay attempt outputs rows part)
may_once attempt outputs rows part a b i = record {
  each = λ e lt. record {
    sum = same_once _ _ (a.each e lt).sum (b.each e lt).sum i;
    goes = goes_once (slice_index_or outputs e text_output).ship _ _ _ _ (a.each e lt).goes (b.each e lt).goes i;
  };
}

-- bytes spell one list of rows of a width at most
fit_of : (width : ℕ) (rows : List Row) → AllByRecursion (RowOf width) rows → RowsFit rows
fit_of width [] all = tt
fit_of width (row ∷ rows) all = (all.0.fits, fit_of width rows all.1)

pub spelled_once : (width : ℕ) (bytes : List ℕ) → IsProp ((rows : List Row) × Spells width bytes rows)
spelled_once width bytes a b =
    Σ_prop_path
    (λ rows. ×_prop (AllByRecursion-prop (RowOf width) (row_once width) rows)
    (Coded-set (coded_list coded_ℕ) bytes (rows_bytes rows)))
    (rows_same a.0 b.0 (fit_of width a.0 a.1.0) (fit_of width b.0 b.1.0) (sym a.1.1 ∙ b.1.1))
