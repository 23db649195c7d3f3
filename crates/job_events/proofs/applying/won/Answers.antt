use Rattle.std.proofs.Common.{subst}
use Rattle.event_graph.specs.Graphs.{JobState}
use Rattle.graph_model.specs.Valid.{IsValid}
use Rattle.job_events.proofs.Refusing.{stale}
use Rattle.job_events.proofs.applying.won.Goals as goal

pub returns-in-Stale-clause-same : goal.returns-in-Stale-clause-same
returns-in-Stale-clause-same c = (c.in_ok-finished.ensures.stale c.in-Stale.field-0 c.in-Stale.is).2

pub returns-in-Stale-clause-why : goal.returns-in-Stale-clause-why
returns-in-Stale-clause-why c =
    let P : JobState → Type 0 = λ job. IsValid job.given job.state in
    let valid = subst P c.job.ensures c.is_kept.ensures.valid in
    let found = c.in_ok-finished.ensures.stale c.in-Stale.field-0 c.in-Stale.is in
    let job = c.args.graph.now.job in
    stale job.given job.state c.args.name c.in-Stale.field-0 c.args.inputs.now c.args.sizes.now valid found.1
