use Rattle.std.proofs.Common.{List, sym, subst}
use Rattle.std.specs.Prelude.{OnOk}
use Rattle.bag_laws.specs.Rows.{OneRow as Row}
use Rattle.hash_join.specs.Keys.{matching}
use Rattle.hash_join.specs.Rules.{gives}
use Rattle.row_collector.specs.Collecting.{Collects}
use Rattle.row_steps.specs.Chained.{chained, ops_of}
use Rattle.row_view.specs.Views.{row_seen}
use Rattle.hash_join.proofs.pushing.push_probed.Goals as goal

pub returns-in-Some-clause-takes : goal.returns-in-Some-clause-takes
returns-in-Some-clause-takes g c = λ built held.
    let probe = c.args.probe.now in
    let found = c.in-Some.ensures.found built held in
    c.push_matched.ensures.takes (matching probe.columns probe.table.now.keys (row_seen c.args.row.now) built) found.0 found.1

pub returns-in-None-clause-takes : goal.returns-in-None-clause-takes
returns-in-None-clause-takes g c = λ built held.
    let probe = c.args.probe.now in
    let row = row_seen c.args.row.now in
    subst (λ (rows : List Row). OnOk c.push_unmatched.result (Collects g.C.Collector.holds c.args.out.now c.push_unmatched.new.out (chained (ops_of c.args.steps.now) (gives probe.rule probe.side probe.table.now.width row rows))))
    (sym (c.in-None.ensures.found built held)) c.push_unmatched.ensures.takes
