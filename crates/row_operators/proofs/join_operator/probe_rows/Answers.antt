use Rattle.std.proofs.Common.{◌≡◌, [], List, ap, ◌∙◌}
use Rattle.hash_join.specs.Joined.{probe_gives}
use Rattle.hash_join.specs.declared.probing.Probe.{Probe}
use Rattle.plan_model.specs.declared.op.Op.{Op}
use Rattle.row_steps.specs.Chained.{ops_of}
use Rattle.row_operators.proofs.Sides.{begins, goes_through}
use Rattle.row_operators.proofs.join_operator.probe_rows.Goals as goal

pub into_rows-requires : goal.into_rows-requires
into_rows-requires c =
    let probe = c.args.probe.now in
    let rows = c.args.rows.now in
    let first = c.new-joiner.result in
    let joiner = c.push_rows.new.out in
    let kept = c.in_ok-push_rows.ensures.kept in
    let same : joiner.probe.now ≡ probe = ap (λ (k : Probe × List Op × Unit {0}). k.0) kept ∙ c.new-joiner.ensures.probe in
    let none : ops_of joiner.steps.now ≡ [] = ap (λ (k : Probe × List Op × Unit {0}). k.1) kept ∙ c.new-joiner.ensures.steps in
    let start = begins first.out c.new-buffer.result (ops_of first.steps.now) c.new-joiner.ensures.out c.new-joiner.ensures.steps c.new-buffer.ensures.none in
    let (built, held) = c.requires.built in (
      probe_gives probe built rows,
      goes_through probe joiner.probe.now (ops_of joiner.steps.now) joiner.out c.into_out-given.result rows same none c.into_out-given.ensures (c.in_ok-push_rows.ensures.takes [] (λ built held. start)) built held,
    )

pub returns-clause-given : goal.returns-clause-given
returns-clause-given c = λ built held.
    let probe = c.args.probe.now in
    let rows = c.args.rows.now in
    let first = c.new-joiner.result in
    let joiner = c.push_rows.new.out in
    let kept = c.in_ok-push_rows.ensures.kept in
    let same : joiner.probe.now ≡ probe = ap (λ (k : Probe × List Op × Unit {0}). k.0) kept ∙ c.new-joiner.ensures.probe in
    let none : ops_of joiner.steps.now ≡ [] = ap (λ (k : Probe × List Op × Unit {0}). k.1) kept ∙ c.new-joiner.ensures.steps in
    let start = begins first.out c.new-buffer.result (ops_of first.steps.now) c.new-joiner.ensures.out c.new-joiner.ensures.steps c.new-buffer.ensures.none in
    c.into_rows.ensures.rows (probe_gives probe built rows)
    (goes_through probe joiner.probe.now (ops_of joiner.steps.now) joiner.out c.into_out-given.result rows same none c.into_out-given.ensures (c.in_ok-push_rows.ensures.takes [] (λ built held. start)) built held)
