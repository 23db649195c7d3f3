use Rattle.std.proofs.Common.{ℕ, List, take, drop, length, refl, ◌∙◌, ap, arith}
use Rattle.estate.specs.Memory.{history_of, clock_of}
use Rattle.estate.proofs.Calling.{log_kept}
use Rattle.estate.proofs.mem_estate.MemEstateEstate.log_read.Goals as goal

pub read-requires : goal.read-requires
read-requires c =
    let old = c.args.self.now in
    let mid = c.enter_log.new.self in
    let same = ap (λ (l : List ℕ). length l) (log_kept (history_of old) (history_of mid) (clock_of old) old.ended c.in_ok-enter_log.ensures.entered.enters.log) in
    omega (arith, same, c.requires refl)

pub returns-clause-bytes : goal.returns-clause-bytes
returns-clause-bytes c = λ told.
    let old = c.args.self.now in
    let mid = c.enter_log.new.self in
    c.in_ok-read.ensures ∙ ap (λ (l : List ℕ). take c.args.len (drop c.args.at l)) (log_kept (history_of old) (history_of mid) (clock_of old) old.ended c.in_ok-enter_log.ensures.entered.enters.log)
