use Rattle.std.proofs.Common.{◌≡◌, ◌++◌, ◌∷◌, [], sym, subst, ap, ◌∙◌}
use Rattle.hash_join.specs.Joined.{probe_gives, row_gives}
use Rattle.hash_join.specs.Rules.{width_by}
use Rattle.hash_join.proofs.Pairs.{gives_more}
use Rattle.row_steps.specs.Chained.{chained, ops_of}
use Rattle.row_steps.proofs.Laws.{chained_sum}
use Rattle.row_view.specs.Views.{row_seen}
use Rattle.hash_join.proofs.joining.JoinerCollector.collect.Goals as goal

pub returns-clause-takes : goal.returns-clause-takes
returns-clause-takes g c = λ rows had built held.
    let joiner = c.args.self.now in
    let probe = joiner.probe.now in
    let row = row_seen c.args.row.now in
    let ops = ops_of joiner.steps.now in
    let given = probe_gives probe built rows in
    let all : chained ops given ++ chained ops (row_gives probe built row) ≡ chained ops (probe_gives probe built (rows ++ row ∷ [])) =
    sym (ap (chained ops) (gives_more probe built rows row)
    ∙ chained_sum ops (width_by probe.rule joiner.width probe.table.now.width) (g.C.Collector.width joiner.out) given (row_gives probe built row) joiner.fits.steps) in
    subst (g.C.Collector.holds c.push_probed.new.out) all (c.in_ok-push_probed.ensures.takes built held (chained ops given) (had built held))
