use Rattle.std.proofs.Common.{◌∙◌, ap, sym}
use Rattle.estate.specs.Pasts.{commits_in}
use Rattle.estate.specs.Memory.{clock_of}
use Rattle.estate.proofs.Calling.{commits_now}
use Rattle.estate.proofs.mem_estate.MemEstate.commits.Goals as goal

pub returns : goal.returns
returns c =
    let m = c.args.self.now in
    c.in_ok-commits.ensures ∙ ap commits_in c.deref.ensures.value ∙ sym (commits_now (clock_of m) m.sink.items m.ended.sink)
