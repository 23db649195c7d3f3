-- The laws that other crates cite: what an expression and a predicate say, variant by variant; spellings in bytes; hashes.
use Rattle.std.proofs.Common.{◌≡◌, ℕ, List, get_or, sym, ◌∙◌, ap}
use Rattle.row_core.specs.Exprs.{value_at, value_step, truth_of, truth_step, compared}
use Rattle.row_core.specs.declared.value.Value.{Value}
use Rattle.row_core.specs.declared.value.Value.TheVariants.{Null}
use Rattle.row_core.specs.declared.truth.Truth.{Truth}
use Rattle.row_core.specs.declared.cmp.Cmp.{Cmp}
use Rattle.row_core.specs.declared.expr.Expr.{Expr, Col, Const}
use Rattle.row_core.specs.declared.expr.Expr.TheOpen.{Expr-F}
use Rattle.row_core.specs.declared.expr.Expr.TheFolds.{fold-roll-Expr}
use Rattle.row_core.specs.declared.expr.Expr.TheVariants.{rolls-Col, rolls-Const}
use Rattle.row_core.specs.declared.pred.Pred.{Test}
use Rattle.row_core.specs.declared.pred.Pred.TheOpen.{Pred-F}
use Rattle.row_core.specs.declared.pred.Pred.TheFolds.{fold-roll-Pred}
use Rattle.row_core.specs.declared.pred.Pred.TheVariants.{rolls-Test}
-- ---- spellings: of lists one begins with the other, rows have one, a row whose next value is missing
pub use Rattle.row_core.proofs.Fronts.{IsLonger, lists_front, rows_free, row_front, rows_same}
pub use Rattle.row_core.proofs.Reading.{values_lack}
pub use Rattle.row_core.proofs.TextLimits.{values_texts_fit}
-- ---- the hash of bytes in parts, and of a key column by column
pub use Rattle.row_core.proofs.Hashes.{hash_from-nil, hash_key_more, key_text_fits, hash_int, hash_text}

pub value_at-Col : (row : List Value) (column : ℕ) → value_at row (Col column) ≡ get_or row column Null
value_at-Col row column = ap (value_at row) (sym (rolls-Col column)) ∙ fold-roll-Expr Value (value_step row) (Expr-F.Col column)

pub value_at-Const : (row : List Value) (value : Value) → value_at row (Const value) ≡ value
value_at-Const row value = ap (value_at row) (sym (rolls-Const value)) ∙ fold-roll-Expr Value (value_step row) (Expr-F.Const value)

pub truth_of-Test : (row : List Value) (cmp : Cmp) (a b : Expr) → truth_of row (Test cmp a b) ≡ compared cmp (value_at row a) (value_at row b)
truth_of-Test row cmp a b = ap (truth_of row) (sym (rolls-Test cmp a b)) ∙ fold-roll-Pred Truth (truth_step row) (Pred-F.Test cmp a b)
