use Rattle.std.proofs.Common.{◌≡◌, take, All}
use Rattle.estate.specs.Pasts.{commits_in, commits_at}
use Rattle.estate.proofs.mem_estate.sink_at.Given as goal

abbrev pub invariant-loop-entry : goal.invariant-loop-entry
invariant-loop-entry l = (commits_in l.made.items ≡ commits_at l.moment (take l.entry-index l.sink)) × All (λ entry. entry.since ≡ 0) l.made.items
