use Rattle.std.proofs.Common.{◌≡◌, ◌≤◌, ◌++◌, length}
use Rattle.reader_index.specs.Links.{chain_at}
use Rattle.reader_index.proofs.turning.collect.Given as goal

abbrev pub invariant-loop-at : goal.invariant-loop-at
invariant-loop-at l = (l.at ≤ length l.reads) × (l.readers.items ++ chain_at l.reads l.earlier l.at ≡ chain_at l.reads l.earlier l.first)

abbrev pub decreases-loop-at : goal.decreases-loop-at
decreases-loop-at l = l.at
