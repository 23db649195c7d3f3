use Rattle.std.proofs.Common.{◌≡◌, ◌⊎◌, ◌<◌, ◌-◌, [], length, take}
use Rattle.event_log.specs.Blocks.{AreBlocks, blocks_size}
use Rattle.event_log.proofs.parse.parse.Given as goal

-- whole blocks stand up to the next gate, which is there
abbrev pub invariant-loop-end : goal.invariant-loop-end
invariant-loop-end l = record { whole : AreBlocks l.blocks (take l.end l.log); within : (l.end < length l.log) ⊎ ((l.end ≡ 0) × (l.blocks ≡ [])); takes : l.end ≡ blocks_size l.blocks }

abbrev pub decreases-loop-end : goal.decreases-loop-end
decreases-loop-end l = length l.log - l.end
