use Rattle.std.proofs.Common.{◌≡◌, take}
use Rattle.estate.specs.Pasts.{commits_in}
use Rattle.estate.proofs.mem_estate.copy_commits.Given as goal

abbrev pub invariant-loop-entry : goal.invariant-loop-entry
invariant-loop-entry l = l.commits ≡ commits_in (take l.entry-index l.sink)
