use Rattle.std.proofs.Common.{◌≡◌, None, arith, ◌+◌}
use Rattle.estate.specs.Changes.{Same}
use Rattle.estate.specs.Memory.{history_of, clock_of, counts_of}
use Rattle.estate.proofs.Stepping.{sink_same, shelf_stays}
use Rattle.estate.proofs.Calling.{call_leads, durable_now, sync_ended, log_may_sync}
use Rattle.estate.specs.Memory.{moments_of, time_of}
use Rattle.estate.proofs.Calling.{time_within, log_within}
use Rattle.estate.proofs.mem_estate.MemEstateEstate.log_sync.Goals as goal

pub returns-clause-leads : goal.returns-clause-leads
returns-clause-leads c =
    let old = c.args.self.now in
    let mid = c.enter_log.new.self in
    let e = c.in_ok-enter_log.ensures.entered in
    let at_exit : c.clock-exit.result ≡ clock_of mid = c.clock-exit.ensures.clock in
    call_leads {writes = Same} {part = None} {commit = None} (history_of old) (history_of mid)
    (record { log = c.sync.new.self.changes.items; shelf = mid.shelf.parts.items; sink = mid.sink.items }) (clock_of old) (clock_of mid) (counts_of old) (counts_of mid) old.ended mid.ended.shelf (omega (arith, e.clock)) e.enters
    (log_may_sync (clock_of old) c.clock-exit.result old.log.changes.items mid.log.changes.items c.sync.new.self.changes.items c.sync.ensures.changes e.enters.log old.ended.log (omega (arith, e.clock, at_exit)))
    (shelf_stays (clock_of old) old.shelf.parts.items mid.shelf.parts.items old.ended.shelf e.enters.shelf)
    (sink_same (clock_of old) old.sink.items mid.sink.items e.enters.sink old.ended.sink)
    (λ name has. has)

pub returns-clause-durable : goal.returns-clause-durable
returns-clause-durable c = λ image was.
    let mid = c.enter_log.new.self in
    let at_exit : c.clock-exit.result ≡ clock_of mid = c.clock-exit.ensures.clock in
    let all = sync_ended (clock_of mid) c.clock-exit.result mid.log.changes.items c.sync.new.self.changes.items c.sync.ensures.changes (omega (arith, at_exit)) mid.ended.log in
    durable_now (record { log = c.sync.new.self.changes.items; shelf = mid.shelf.parts.items; sink = mid.sink.items }) (clock_of mid) all c.sync.ensures.synced image was.0 was.1 was.2 was.3

pub returns-clause-under_way : goal.returns-clause-under_way
returns-clause-under_way c =
    let old = c.args.self.now in
    let mid = c.enter_log.new.self in
    let e = c.in_ok-enter_log.ensures.entered in
    let at_exit : c.clock-exit.result ≡ clock_of mid = c.clock-exit.ensures.clock in
    let within : time_of c.enter_log.new.self (moments_of old) ≡ clock_of old + 1 = time_within old.calls.count old.drops.items mid.drops.items e.drops old.dropped in
    log_within (clock_of old) (time_of mid (moments_of old)) c.clock-exit.result old.log.changes.items mid.log.changes.items c.sync.new.self.changes.items c.sync.ensures.changes e.enters.log old.ended.log (omega arith) (omega (arith, e.clock, at_exit, within))
