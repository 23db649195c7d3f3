use Rattle.std.proofs.Common.{List, ◌∙◌, ap}
use Rattle.estate.specs.declared.committed.Committed.{Committed}
use Rattle.estate.specs.declared.commit.Commit.{Commit}
use Rattle.estate.specs.Holding.{job_under}
use Rattle.estate.specs.Pasts.{commits_in}
use Rattle.estate.specs.Memory.{history_of, clock_of}
use Rattle.estate.proofs.Calling.{commits_kept}
use Rattle.estate.proofs.mem_estate.MemEstateEstate.sink_committed.Goals as goal

pub returns-clause-found : goal.returns-clause-found
returns-clause-found c = λ told.
    let old = c.args.self.now in
    let mid = c.enter_sink.new.self in
    let e = c.in_ok-enter_sink.ensures.entered in
    c.in_ok-find_job.ensures ∙ ap (λ (l : List Committed). job_under c.args.id.now (commits_in l)) c.deref.ensures.value
    ∙ ap (λ (l : List Commit). job_under c.args.id.now l) (commits_kept (history_of old) (history_of mid) (clock_of old) old.ended e.enters.sink)
