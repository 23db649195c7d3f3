use Rattle.std.proofs.Common.{List, ℕ, ◌∷◌, [], ◌++◌, ap, ◌∙◌}
use Rattle.job_events.specs.declared.log_state.LogState.TheVariants.{Running}
use Rattle.recover_core.proofs.Owning.{first_graph, first_replay, opens_first}
use Rattle.recover_core.proofs.opening.first_epoch.Goals as goal

pub unreachable-requires : goal.unreachable-requires
unreachable-requires c =
    let none = rw c.in-None.is at c.in_ok-graph.ensures in
    let blocks = c.in_ok-push.ensures.ok ∙ ap (λ (b : List (List ℕ)). b ++ c.in_ok-body.body ∷ []) c.new-blocks.ensures in
    none c.in_ok-events.events (first_graph c.args.job.now c.can_start.ensures)
    (first_replay c.args.job.now c.can_start.ensures c.in_ok-events.events c.in_ok-events.ensures c.in_ok-body.body _ c.in_ok-body.ensures.fits c.in_ok-body.ensures.spelled blocks)

pub returns : goal.returns
returns c =
    let found = rw c.in-Some.is at c.in_ok-graph.ensures in
    let blocks = c.in_ok-push.ensures.ok ∙ ap (λ (b : List (List ℕ)). b ++ c.in_ok-body.body ∷ []) c.new-blocks.ensures in
    let same = found c.in_ok-events.events (Running (first_graph c.args.job.now c.can_start.ensures))
    (first_replay c.args.job.now c.can_start.ensures c.in_ok-events.events c.in_ok-events.ensures c.in_ok-body.body _ c.in_ok-body.ensures.fits c.in_ok-body.ensures.spelled blocks) in
    opens_first c.args.job.now c.can_start.ensures c.in_ok-events.events c.in_ok-events.ensures c.in-Some.graph same
