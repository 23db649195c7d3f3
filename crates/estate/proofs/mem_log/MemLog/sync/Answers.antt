use Rattle.std.proofs.Common.{◌∙◌, sym}
use Rattle.estate.proofs.Stepping.{whole_sync, writes_sync}
use Rattle.estate.proofs.mem_log.MemLog.sync.Goals as goal

pub invariant_of-self-clause-is : goal.invariant_of-self-clause-is
invariant_of-self-clause-is c = c.args.self.now.is ∙ sym (whole_sync c.args.self.now.changes.items _ c.args.since c.push_reserved.ensures.items)

pub invariant_of-self-clause-settled : goal.invariant_of-self-clause-settled
invariant_of-self-clause-settled c = λ is. writes_sync c.args.self.now.changes.items _ c.args.since c.push_reserved.ensures.items
