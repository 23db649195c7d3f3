use Rattle.std.proofs.Common.{◌≡◌, [], ap, sym, ◌∙◌}
use Rattle.std.specs.Prelude.{length}
use Rattle.hash_join.specs.Rules.{gives, pair, width_by}
use Rattle.hash_join.specs.declared.rules.Rule.{Rule}
use Rattle.hash_join.proofs.Pairs.{none_unmatched, nothing_given}
use Rattle.plan_model.specs.Joins.{nulls}
use Rattle.row_steps.specs.Chained.{ops_of}
use Rattle.row_view.specs.Views.{row_seen}
use Rattle.hash_join.proofs.pushing.push_matched.Goals as goal

pub returns-in-PaddedIfUnmatched-clause-takes : goal.returns-in-PaddedIfUnmatched-clause-takes
returns-in-PaddedIfUnmatched-clause-takes g c = λ rows spelled some.
    let probe = c.args.probe.now in
    let row = row_seen c.args.row.now in
    let width = probe.table.now.width in
    let given = gives probe.rule probe.side width row rows in
    let none : given ≡ [] =
    ap (λ (rule : Rule). gives rule probe.side width row rows) (sym c.rule.ensures ∙ c.in-PaddedIfUnmatched.is) ∙ none_unmatched (pair probe.side row (nulls width)) rows some in
    nothing_given g.C.Collector.holds c.args.out.now (ops_of c.args.steps.now) (width_by probe.rule (length c.args.row.now) width) (g.C.Collector.width c.args.out.now) given c.requires.fits.steps none

pub returns-in-RowIfUnmatched-clause-takes : goal.returns-in-RowIfUnmatched-clause-takes
returns-in-RowIfUnmatched-clause-takes g c = λ rows spelled some.
    let probe = c.args.probe.now in
    let row = row_seen c.args.row.now in
    let width = probe.table.now.width in
    let given = gives probe.rule probe.side width row rows in
    let none : given ≡ [] = ap (λ (rule : Rule). gives rule probe.side width row rows) (sym c.rule.ensures ∙ c.in-RowIfUnmatched.is) ∙ none_unmatched row rows some in
    nothing_given g.C.Collector.holds c.args.out.now (ops_of c.args.steps.now) (width_by probe.rule (length c.args.row.now) width) (g.C.Collector.width c.args.out.now) given c.requires.fits.steps none
