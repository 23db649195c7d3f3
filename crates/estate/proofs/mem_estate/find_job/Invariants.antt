use Rattle.std.proofs.Common.{◌≡◌, drop}
use Rattle.estate.specs.Holding.{job_under}
use Rattle.estate.specs.Pasts.{commits_in}
use Rattle.estate.proofs.mem_estate.find_job.Given as goal

abbrev pub invariant-loop-entry : goal.invariant-loop-entry
invariant-loop-entry l = job_under l.id (commits_in (drop l.entry-index l.sink)) ≡ job_under l.id (commits_in l.sink)
