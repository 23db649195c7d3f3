use Rattle.std.proofs.Common.{◌≡◌, ℕ, [], List, ap, subst, ◌∙◌}
use Rattle.std.specs.Prelude.{IfOk}
use Rattle.bag_laws.specs.Rows.{OneRow as Row}
use Rattle.plan_model.specs.Operators.{aggregated}
use Rattle.plan_model.specs.declared.agg.Agg.{Agg}
use Rattle.row_operators.proofs.applying.aggregate.Goals as goal

pub into_rows-requires : goal.into_rows-requires
into_rows-requires c = (c.args.rows.now, c.in_ok-push_rows.ensures.takes [] c.new-groups.ensures.none)

pub returns : goal.returns
returns c =
    let rows = c.args.rows.now in
    let groups = c.push_rows.new.out in
    let same : aggregated groups.keys.now groups.aggs.now rows ≡ aggregated c.args.keys.now c.args.aggs.now rows =
    ap (λ (by : List ℕ × List Agg). aggregated by.0 by.1 rows) c.in_ok-push_rows.ensures.kept ∙ (λ i. aggregated (c.new-groups.ensures.by i) (c.new-groups.ensures.over i) rows) in
    subst (λ (all : List Row). IfOk c.into_rows.result (λ given. given ≡ all)) same (c.into_rows.ensures rows (c.in_ok-push_rows.ensures.takes [] c.new-groups.ensures.none))
