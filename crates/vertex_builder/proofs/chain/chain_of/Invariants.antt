use Rattle.std.proofs.Common.{◌-◌, ◌<◌, length}
use Rattle.vertex_builder.proofs.Chains.{IsFront}
use Rattle.vertex_builder.proofs.chain.chain_of.Given as goal

abbrev pub invariant-loop-next : goal.invariant-loop-next
invariant-loop-next l = record {
  front : IsFront l.links l.widened l.head l.chain.items l.last;
  within : l.last < length l.links;
}

abbrev pub decreases-loop-next : goal.decreases-loop-next
decreases-loop-next l = length l.links - l.last
