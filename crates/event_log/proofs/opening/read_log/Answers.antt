use Rattle.estate.proofs.Laws.{leads_stays}
use Rattle.event_log.proofs.opening.read_log.Goals as goal

pub returns-in_err-log_read-clause-leads : goal.returns-in_err-log_read-clause-leads
returns-in_err-log_read-clause-leads g c =
    let law = g.met.E.Estate.lawful in
    leads_stays _ _ _ (law c.args.estate.now) (law c.log_len.new.self) (law c.log_read.new.self) c.log_len.ensures.leads c.log_read.ensures.leads

pub returns-clause-leads : goal.returns-clause-leads
returns-clause-leads g c =
    let law = g.met.E.Estate.lawful in
    leads_stays _ _ _ (law c.args.estate.now) (law c.log_len.new.self) (law c.log_read.new.self) c.log_len.ensures.leads c.log_read.ensures.leads
