use Rattle.std.proofs.Common.{◌≡◌, ℕ, ◌+◌, ◌≤◌, nat_eq, length, get_or}
use Rattle.std.specs.Prelude.{count_by}
use Rattle.reader_index.specs.Links.{chain_at}
use Rattle.reader_index.proofs.turning.lower.Given as goal

abbrev pub invariant-loop-at : goal.invariant-loop-at
invariant-loop-at l = (length l.counts.items ≡ length l.initial.counts.items) × (l.at ≤ length l.reads)
    × ((n : ℕ) → get_or l.counts.items n 0 + count_by (nat_eq n) (chain_at l.reads l.earlier l.first) ≡ get_or l.initial.counts.items n 0 + count_by (nat_eq n) (chain_at l.reads l.earlier l.at))

abbrev pub decreases-loop-at : goal.decreases-loop-at
decreases-loop-at l = l.at
