use Rattle.std.proofs.Common.{ℕ, List, length, ◌∙◌, ap}
use Rattle.estate.specs.Memory.{history_of, clock_of}
use Rattle.estate.proofs.Calling.{log_kept}
use Rattle.estate.proofs.mem_estate.MemEstateEstate.log_len.Goals as goal

pub returns-clause-len : goal.returns-clause-len
returns-clause-len c = λ told.
    let old = c.args.self.now in
    let mid = c.enter_log.new.self in
    c.len.ensures ∙ ap (λ (l : List ℕ). length l) (log_kept (history_of old) (history_of mid) (clock_of old) old.ended c.in_ok-enter_log.ensures.entered.enters.log)
