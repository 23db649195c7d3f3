use Rattle.std.proofs.Common.{sym, subst, ◌≤◌, ◌≡◌, ◌-◌, ℕ, List, [], ◌∷◌, ◌++◌, length, None, refl, ◌∙◌, ap, arith, All, ◌+◌}
use Rattle.estate.specs.declared.log_change.LogChange.{LogChange}
use Rattle.estate.specs.declared.log_event.LogEvent.TheVariants.{Wrote}
use Rattle.estate.specs.declared.write.Write.{Write}
use Rattle.estate.specs.Disk.{overwritten}
use Rattle.estate.specs.Changes.{Torn}
use Rattle.estate.specs.Memory.{mem_world, history_of, clock_of, counts_of}
use Rattle.estate.proofs.Torn.{torn_refl}
use Rattle.estate.proofs.Laws.{leads_more}
use Rattle.estate.proofs.Stepping.{log_writes, whole_write, sink_same, shelf_stays}
use Rattle.estate.proofs.Calling.{call_leads, leads_same, log_kept, log_now, push_ended}
use Rattle.estate.specs.Memory.{moments_of, time_of}
use Rattle.estate.proofs.Stepping.{all_until}
use Rattle.estate.proofs.Calling.{time_within, disk_now}
use Rattle.estate.proofs.mem_estate.MemEstateEstate.log_write.Goals as goal

pub returns-in_err-enter_log-clause-leads : goal.returns-in_err-enter_log-clause-leads
returns-in_err-enter_log-clause-leads c = leads_more (Torn c.args.at (length c.args.bytes.now)) None None _ _ (torn_refl c.args.at (length c.args.bytes.now)) c.enter_log.ensures.leads

pub returns-in_err-write-clause-leads : goal.returns-in_err-write-clause-leads
returns-in_err-write-clause-leads c =
    let mid = c.enter_log.new.self in
    leads_more (Torn c.args.at (length c.args.bytes.now)) None None _ _ (torn_refl c.args.at (length c.args.bytes.now))
    (leads_same (mem_world c.args.self.now) (history_of mid) (record { log = c.write.new.self.changes.items; shelf = mid.shelf.parts.items; sink = mid.sink.items }) (clock_of mid) (clock_of mid) (counts_of mid)
    c.in_err-write.ensures.err refl refl refl c.enter_log.ensures.leads)

pub returns-in_err-write-clause-memory : goal.returns-in_err-write-clause-memory
returns-in_err-write-clause-memory c = λ is.
    let mid = c.enter_log.new.self in
    leads_same (mem_world c.args.self.now) (history_of mid) (record { log = c.write.new.self.changes.items; shelf = mid.shelf.parts.items; sink = mid.sink.items }) (clock_of mid) (clock_of mid) (counts_of mid)
    c.in_err-write.ensures.err refl refl refl c.enter_log.ensures.leads

pub returns-clause-leads : goal.returns-clause-leads
returns-clause-leads c =
    let old = c.args.self.now in
    let mid = c.enter_log.new.self in
    let e = c.in_ok-enter_log.ensures.entered in
    let write : Write = record { at = c.args.at; bytes = c.args.bytes.now } in
    let since = c.clock-within.result - 1 in
    let one : LogChange = record { since = since; event = Wrote write } in
    let at_exit : c.clock-within.result ≡ clock_of mid = c.clock-within.ensures.clock in
    call_leads {writes = Torn c.args.at (length c.args.bytes.now)} {part = None} {commit = None} (history_of old) (history_of mid)
    (record { log = c.write.new.self.changes.items; shelf = mid.shelf.parts.items; sink = mid.sink.items }) (clock_of old) (clock_of mid) (counts_of old) (counts_of mid) old.ended mid.ended.shelf (omega (arith, e.clock)) e.enters
    (log_writes (clock_of old) since old.log.changes.items c.write.new.self.changes.items write old.ended.log (omega (arith, e.clock, at_exit)) (c.in_ok-write.ensures.ok ∙ ap (λ (l : List LogChange). l ++ one ∷ []) e.enters.log))
    (shelf_stays (clock_of old) old.shelf.parts.items mid.shelf.parts.items old.ended.shelf e.enters.shelf)
    (sink_same (clock_of old) old.sink.items mid.sink.items e.enters.sink old.ended.sink)
    (λ name has. has)

pub returns-clause-written : goal.returns-clause-written
returns-clause-written c = λ told.
    let old = c.args.self.now in
    let mid = c.enter_log.new.self in
    let e = c.in_ok-enter_log.ensures.entered in
    let write : Write = record { at = c.args.at; bytes = c.args.bytes.now } in
    let since = c.clock-within.result - 1 in
    let at_exit : c.clock-within.result ≡ clock_of mid = c.clock-within.ensures.clock in
    let all = push_ended (clock_of mid) mid.log.changes.items c.write.new.self.changes.items (record { since = since; event = Wrote write }) c.in_ok-write.ensures.ok (omega (arith, at_exit)) mid.ended.log in
    log_now (clock_of mid) c.write.new.self.changes.items all ∙ whole_write mid.log.changes.items c.write.new.self.changes.items since write c.in_ok-write.ensures.ok
    ∙ ap (λ (l : List ℕ). overwritten l c.args.at c.args.bytes.now) (log_kept (history_of old) (history_of mid) (clock_of old) old.ended e.enters.log)

pub returns-clause-under_way : goal.returns-clause-under_way
returns-clause-under_way c =
    let old = c.args.self.now in
    let mid = c.enter_log.new.self in
    let e = c.in_ok-enter_log.ensures.entered in
    let new = c.write.new.self.changes.items in
    let write : Write = record { at = c.args.at; bytes = c.args.bytes.now } in
    let since = c.clock-within.result - 1 in
    let at_exit : c.clock-within.result ≡ clock_of mid = c.clock-within.ensures.clock in
    let within : time_of c.enter_log.new.self (moments_of old) ≡ clock_of old + 1 = time_within old.calls.count old.drops.items mid.drops.items e.drops old.dropped in
    let u = time_of mid (moments_of old) in
    let before : All (λ (x : LogChange). x.since ≤ u) mid.log.changes.items =
    subst (λ (l : List LogChange). All (λ x. x.since ≤ u) l) (sym e.enters.log) (all_until (λ (x : LogChange). x.since) (clock_of old) u old.log.changes.items (omega arith) old.ended.log) in
    let all = push_ended u mid.log.changes.items new (record { since = since; event = Wrote write }) c.in_ok-write.ensures.ok (omega (arith, e.clock, at_exit, within)) before in
    disk_now u new all ∙ sym (disk_now (clock_of mid) new (all_until (λ (x : LogChange). x.since) u (clock_of mid) new (omega (arith, e.clock, within)) all))
