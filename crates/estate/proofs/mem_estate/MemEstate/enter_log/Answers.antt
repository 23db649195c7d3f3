use Rattle.std.proofs.Common.{arith}
use Rattle.estate.proofs.Calling.{leads_faults}
use Rattle.estate.proofs.mem_estate.MemEstate.enter_log.Goals as goal

pub returns-then-begin-clause-leads : goal.returns-then-begin-clause-leads
returns-then-begin-clause-leads c = leads_faults _ _ _ _ _ (record { log_faults = omega arith; shelf_faults = omega arith; sink_faults = omega arith; losses = omega arith }) c.begin.ensures.leads
