use Rattle.std.proofs.Common.{◌≡◌, List, map, sym, subst}
use Rattle.std.specs.Prelude.{OnOk}
use Rattle.bag_laws.specs.Rows.{OneRow as Row}
use Rattle.hash_join.specs.Rules.{pair}
use Rattle.hash_join.proofs.Pairs.{one_spelling, read_wide}
use Rattle.row_collector.specs.Collecting.{Collects}
use Rattle.row_steps.specs.Chained.{chained, ops_of}
use Rattle.row_view.specs.Views.{row_seen}
use Rattle.hash_join.proofs.pushing.push_pairs.Goals as goal

pub push_each-requires-clause-wide : goal.push_each-requires-clause-wide
push_each-requires-clause-wide g c =
    let (rows, spelled) = c.requires.spelled in
    read_wide c.args.probe.now.table.now.width c.args.matches.now rows c.new-reader.result spelled c.new-reader.ensures.fit c.new-reader.ensures.spelled

pub returns-clause-takes : goal.returns-clause-takes
returns-clause-takes g c = λ rows spelled.
    let probe = c.args.probe.now in
    let row = row_seen c.args.row.now in
    let same : rows ≡ c.new-reader.result = one_spelling probe.table.now.width c.args.matches.now rows c.new-reader.result spelled c.new-reader.ensures.fit c.new-reader.ensures.spelled in
    subst (λ (l : List Row). OnOk c.push_each.result (Collects g.C.Collector.holds c.args.out.now c.push_each.new.out (chained (ops_of c.args.steps.now) (map (pair probe.side row) l)))) (sym same)
    c.push_each.ensures.takes
