use Rattle.std.proofs.Common.{length, ap, sym, ◌∙◌}
use Rattle.job_events.proofs.Starting.{none_opened, none_started}
use Rattle.job_events.proofs.stepping.start_job.Goals as goal

pub returns-then-as_slice-job : goal.returns-then-as_slice-job
returns-then-as_slice-job c =
    let accepted = rw c.in-Some.is at c.in_ok-job.ensures.job in
    let told = rw c.in-Some.is at c.in_ok-job.ensures.tables in
    none_started c.args.epoch c.args.text.now c.args.files.now _ accepted
    (λ new tables takes. c.if-as_slice-job.true (ap length c.as_slice.ensures ∙ tables ∙ sym told))

pub returns : goal.returns
returns c =
    let accepted = rw c.in-Some.is at c.in_ok-job.ensures.job in
    none_opened c.args.epoch c.args.text.now c.args.files.now _ c.in_ok-graph.graph.job _ accepted c.in_ok-graph.ensures.given c.in_ok-graph.ensures.state c.in-Err.ensures.err.1
