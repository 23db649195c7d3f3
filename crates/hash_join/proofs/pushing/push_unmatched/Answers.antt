use Rattle.std.proofs.Common.{◌≡◌, [], ap, sym, ◌∙◌}
use Rattle.hash_join.specs.Rules.{gives, width_by}
use Rattle.hash_join.specs.declared.rules.Rule.{Rule}
use Rattle.hash_join.proofs.Pairs.{nothing_given}
use Rattle.row_steps.specs.Chained.{ops_of}
use Rattle.row_view.specs.Views.{row_seen}
use Rattle.std.specs.Prelude.{length}
use Rattle.hash_join.proofs.pushing.push_unmatched.Goals as goal

pub returns-in-Pairs-clause-takes : goal.returns-in-Pairs-clause-takes
returns-in-Pairs-clause-takes g c =
    let probe = c.args.probe.now in
    let row = row_seen c.args.row.now in
    let width = probe.table.now.width in
    let given = gives probe.rule probe.side width row [] in
    let none : given ≡ [] = ap (λ (rule : Rule). gives rule probe.side width row []) (sym c.rule.ensures ∙ c.in-Pairs.is) in
    nothing_given g.C.Collector.holds c.args.out.now (ops_of c.args.steps.now) (width_by probe.rule (length c.args.row.now) width) (g.C.Collector.width c.args.out.now) given c.requires.fits.steps none

pub returns-in-RowIfMatched-clause-takes : goal.returns-in-RowIfMatched-clause-takes
returns-in-RowIfMatched-clause-takes g c =
    let probe = c.args.probe.now in
    let row = row_seen c.args.row.now in
    let width = probe.table.now.width in
    let given = gives probe.rule probe.side width row [] in
    let none : given ≡ [] = ap (λ (rule : Rule). gives rule probe.side width row []) (sym c.rule.ensures ∙ c.in-RowIfMatched.is) in
    nothing_given g.C.Collector.holds c.args.out.now (ops_of c.args.steps.now) (width_by probe.rule (length c.args.row.now) width) (g.C.Collector.width c.args.out.now) given c.requires.fits.steps none
