-- Which rows a join of each kind gives.
use Rattle.std.proofs.Common.{◌≡◌, ◌++◌, ℕ, List, [], IsTrue, refl, sym, subst, arith}
use Rattle.bag_laws.specs.Rows.{OneRow as Row}
use Rattle.plan_model.specs.Joins.{joined}
use Rattle.plan_model.specs.Operators.{repeats_left, repeats_right}
use Rattle.plan_model.specs.Plans.{join_width}
use Rattle.plan_model.specs.declared.join_kind.JoinKind.{JoinKind}
use Rattle.plan_model.specs.declared.join_kind.JoinKind.TheVariants as kind
use Rattle.plan_model.specs.declared.op.Op.{Op}
use Rattle.plan_model.specs.declared.side.Side.TheVariants.{Left, Right}
use Rattle.hash_join.specs.Joined.{probe_gives}
use Rattle.hash_join.specs.Keys.{columns_on}
use Rattle.hash_join.specs.Rules.{probed, rule_of, width_by}
use Rattle.hash_join.specs.Tables.{HoldsTable}
use Rattle.hash_join.specs.declared.probing.Probe.{Probe}
use Rattle.hash_join.proofs.Laws.{full_probed}
use Rattle.row_steps.specs.Chained.{chained}
use Rattle.row_operators.specs.Held.{HoldsBytes}
use Rattle.row_operators.specs.declared.row_buffer.RowBuffer.{RowBuffer}

-- the widths of what left rows give
pub left_width : (join : JoinKind) (left right : ℕ) → width_by (rule_of join Left) left right ≡ join_width join left right
left_width kind.Inner left right = refl
left_width kind.Left left right = refl
left_width kind.Right left right = refl
left_width kind.Full left right = refl
left_width kind.Semi left right = refl
left_width kind.Anti left right = refl

pub right_join_width : (join : JoinKind) (left right : ℕ) → join ≡ kind.Right → width_by (rule_of join Right) right left ≡ join_width join left right
right_join_width kind.Inner left right is = absurd cc
right_join_width kind.Left left right is = absurd cc
right_join_width kind.Right left right is = omega arith
right_join_width kind.Full left right is = absurd cc
right_join_width kind.Semi left right is = absurd cc
right_join_width kind.Anti left right is = absurd cc

pub full_join_width : (join : JoinKind) (left right : ℕ) → join ≡ kind.Full → width_by (rule_of join Right) right left ≡ join_width join left right
full_join_width kind.Inner left right is = absurd cc
full_join_width kind.Left left right is = absurd cc
full_join_width kind.Right left right is = absurd cc
full_join_width kind.Full left right is = omega arith
full_join_width kind.Semi left right is = absurd cc
full_join_width kind.Anti left right is = absurd cc

-- the others go by their left rows
pub by_left_rows : (join : JoinKind) → (join ≡ kind.Right → ⊥) → (join ≡ kind.Full → ⊥) → IsTrue (repeats_right join)
by_left_rows kind.Inner right full = refl
by_left_rows kind.Left right full = refl
by_left_rows kind.Right right full = absurd (right refl)
by_left_rows kind.Full right full = absurd (full refl)
by_left_rows kind.Semi right full = refl
by_left_rows kind.Anti right full = refl

pub by_right_rows : (join : JoinKind) → join ≡ kind.Right → IsTrue (repeats_left join)
by_right_rows kind.Inner is = absurd cc
by_right_rows kind.Left is = absurd cc
by_right_rows kind.Right is = refl
by_right_rows kind.Full is = absurd cc
by_right_rows kind.Semi is = absurd cc
by_right_rows kind.Anti is = absurd cc

pub full_rows : (join : JoinKind) (keys : List (ℕ × ℕ)) (lw rw : ℕ) (left right : List Row) → join ≡ kind.Full
    → joined keys lw rw left right join
    ≡ probed (rule_of join Left) Left rw (columns_on Left keys) (columns_on Right keys) right left ++ probed (rule_of join Right) Right lw (columns_on Right keys) (columns_on Left keys) left right
full_rows join keys lw rw left right is =
    subst (λ (k : JoinKind). joined keys lw rw left right k
    ≡ probed (rule_of k Left) Left rw (columns_on Left keys) (columns_on Right keys) right left ++ probed (rule_of k Right) Right lw (columns_on Right keys) (columns_on Left keys) left right)
    (sym is) (full_probed keys lw rw left right)

-- ---- what a buffer behind a join holds

pub begins : (out buffer : RowBuffer) (ops : List Op) → out ≡ buffer → ops ≡ [] → HoldsBytes buffer [] → HoldsBytes out (chained ops [])
begins out buffer ops same none held =
    subst (λ (l : List Op). HoldsBytes out (chained l [])) (sym none) (subst (λ (b : RowBuffer). HoldsBytes b []) (sym same) held)

pub goes_through : (probe used : Probe) (ops : List Op) (out given : RowBuffer) (rows : List Row) → used ≡ probe → ops ≡ [] → given ≡ out
    → ((built : List Row) → HoldsTable used.table.now built → HoldsBytes out (chained ops (probe_gives used built rows)))
    → (built : List Row) → HoldsTable probe.table.now built → HoldsBytes given (probe_gives probe built rows)
goes_through probe used ops out given rows same none is holds = λ built held.
    let was = holds built (subst (λ (p : Probe). HoldsTable p.table.now built) (sym same) held) in
    let plain = subst (λ (l : List Op). HoldsBytes out (chained l (probe_gives used built rows))) none was in
    let probed_is = subst (λ (p : Probe). HoldsBytes out (probe_gives p built rows)) same plain in
    subst (λ (b : RowBuffer). HoldsBytes b (probe_gives probe built rows)) (sym is) probed_is
