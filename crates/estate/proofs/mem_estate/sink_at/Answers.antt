use Rattle.std.proofs.Common.{arith}
use Rattle.estate.proofs.Recalling.{commits_more, since_more}
use Rattle.estate.proofs.mem_estate.sink_at.Goals as goal

pub loop-entry-preserved : goal.loop-entry-preserved
loop-entry-preserved c = (
  commits_more c.args.moment c.args.sink.now c.loop-entry.made.items _ c.loop-entry.entry-index c.entry-item.result c.in_ok-recall.ensures (omega arith) c.entry-item.is c.loop-entry.invariant.0,
  since_more c.args.moment c.args.sink.now c.loop-entry.made.items _ c.loop-entry.entry-index c.entry-item.result c.in_ok-recall.ensures c.loop-entry.invariant.1,
)
