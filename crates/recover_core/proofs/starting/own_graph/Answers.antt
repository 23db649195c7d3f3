use Rattle.std.proofs.Common.{List, subst}
use Rattle.graph_model.specs.declared.event.Event.{Event}
use Rattle.graph_model.specs.Folds.{fold_from}
use Rattle.graph_model.specs.States.{Given, started}
use Rattle.recover_core.specs.Standing.{IsStanding}
use Rattle.recover_core.specs.Starting.{Starts, StartsAs}
use Rattle.recover_core.proofs.Owning.{never_other, own_run, owned}
use Rattle.recover_core.proofs.starting.own_graph.Goals as goal

pub check_start-requires : goal.check_start-requires
check_start-requires c = record { tables = λ files starts. (own_run c.args.job.now c.can_start.ensures c.args.events.now files c.args.state (subst (λ (l : List Event). Starts l c.args.job.now.text files) c.as_slice.ensures starts) c.requires.leads).tables }

pub unreachable-requires : goal.unreachable-requires
unreachable-requires c =
    let starts = subst (StartsAs c.args.job.now) c.as_slice.ensures c.in_ok-check_start.ensures.ok in
    never_other c.args.job.now c.can_start.ensures c.args.events.now c.args.state c.requires.leads starts c.in-Empty.is

pub returns-clause-own : goal.returns-clause-own
returns-clause-own c =
    let starts = subst (StartsAs c.args.job.now) c.as_slice.ensures c.in_ok-check_start.ensures.ok in
    let comes = subst (λ (l : List Event). (given : Given) → IsStanding (fold_from given started l) c.of.result) c.as_slice-in-Running.ensures c.of.ensures in
    owned c.args.job.now c.can_start.ensures c.args.events.now c.args.state c.in-Running.graph c.of.result c.started_jobs_fold.ensures c.requires.leads c.in-Running.is starts comes
