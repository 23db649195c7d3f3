use Rattle.std.proofs.Common.{◌≡◌, List, [], ◌∷◌, ◌++◌, Some, None, refl, ◌∙◌, ap, arith, ◌+◌}
use Rattle.estate.specs.declared.committed.Committed.{Committed}
use Rattle.estate.specs.declared.commit.Commit.{Commit}
use Rattle.estate.specs.Changes.{Same}
use Rattle.estate.specs.Memory.{mem_world, history_of, clock_of, counts_of}
use Rattle.estate.proofs.Laws.{leads_more}
use Rattle.estate.proofs.Stepping.{log_same, sink_gains, shelf_stays}
use Rattle.estate.proofs.Calling.{call_leads, leads_same}
use Rattle.estate.specs.Memory.{moments_of, time_of}
use Rattle.estate.proofs.Calling.{time_within, sink_within}
use Rattle.estate.proofs.mem_estate.MemEstateEstate.sink_commit.Goals as goal

pub returns-in_err-enter_sink-clause-leads : goal.returns-in_err-enter_sink-clause-leads
returns-in_err-enter_sink-clause-leads c = leads_more Same None (Some (record { id = c.args.id.now; job = c.args.job.now; text = c.args.text.now })) _ _ (λ log. refl) c.enter_sink.ensures.leads

pub returns-in_err-commit-clause-leads : goal.returns-in_err-commit-clause-leads
returns-in_err-commit-clause-leads c = leads_more Same None (Some (record { id = c.args.id.now; job = c.args.job.now; text = c.args.text.now })) _ _ (λ log. refl) c.enter_sink.ensures.leads

pub returns-in_err-push-clause-leads : goal.returns-in_err-push-clause-leads
returns-in_err-push-clause-leads c =
    let mid = c.enter_sink.new.self in
    leads_more Same None (Some (record { id = c.args.id.now; job = c.args.job.now; text = c.args.text.now })) _ _ (λ log. refl)
    (leads_same (mem_world c.args.self.now) (history_of mid) (record { log = mid.log.changes.items; shelf = mid.shelf.parts.items; sink = c.push.new.self.items }) (clock_of mid) (clock_of mid) (counts_of mid)
    refl refl c.in_err-push.ensures.items refl c.enter_sink.ensures.leads)

pub returns-in_err-push-clause-memory : goal.returns-in_err-push-clause-memory
returns-in_err-push-clause-memory c = λ is.
    let mid = c.enter_sink.new.self in
    leads_same (mem_world c.args.self.now) (history_of mid) (record { log = mid.log.changes.items; shelf = mid.shelf.parts.items; sink = c.push.new.self.items }) (clock_of mid) (clock_of mid) (counts_of mid)
    refl refl c.in_err-push.ensures.items refl c.enter_sink.ensures.leads

pub returns-clause-leads : goal.returns-clause-leads
returns-clause-leads c =
    let old = c.args.self.now in
    let mid = c.enter_sink.new.self in
    let e = c.in_ok-enter_sink.ensures.entered in
    let given : Commit = record { id = c.args.id.now; job = c.args.job.now; text = c.args.text.now } in
    let same : c.in_ok-commit.commit ≡ given = grind arith in
    let since = c.clock.result in
    let at_exit : since ≡ clock_of mid = c.clock.ensures.clock in
    let is = c.in_ok-push.ensures.items ∙ ap (λ (x : Commit). mid.sink.items ++ (record { since = since; commit = x }) ∷ []) same ∙ ap (λ (l : List Committed). l ++ (record { since = since; commit = given }) ∷ []) e.enters.sink in
    call_leads {writes = Same} {part = None} {commit = Some given} (history_of old) (history_of mid)
    (record { log = mid.log.changes.items; shelf = mid.shelf.parts.items; sink = c.push.new.self.items }) (clock_of old) (clock_of mid) (counts_of old) (counts_of mid) old.ended mid.ended.shelf (omega (arith, e.clock)) e.enters
    (log_same (clock_of old) old.log.changes.items mid.log.changes.items e.enters.log (λ log. refl) old.ended.log)
    (shelf_stays (clock_of old) old.shelf.parts.items mid.shelf.parts.items old.ended.shelf e.enters.shelf)
    (sink_gains (clock_of old) since old.sink.items c.push.new.self.items given old.ended.sink (omega (arith, e.clock, at_exit)) is)
    (λ name has. has)

pub returns-clause-under_way : goal.returns-clause-under_way
returns-clause-under_way c =
    let old = c.args.self.now in
    let mid = c.enter_sink.new.self in
    let e = c.in_ok-enter_sink.ensures.entered in
    let at_exit : c.clock.result ≡ clock_of mid = c.clock.ensures.clock in
    let within : time_of c.enter_sink.new.self (moments_of old) ≡ clock_of old + 1 = time_within old.calls.count old.drops.items mid.drops.items e.drops old.dropped in
    sink_within (clock_of old) (time_of mid (moments_of old)) c.clock.result old.sink.items c.push.new.self.items c.in_ok-commit.commit
    (c.in_ok-push.ensures.items ∙ ap (λ (l : List Committed). l ++ (record { since = c.clock.result; commit = c.in_ok-commit.commit }) ∷ []) e.enters.sink) old.ended.sink (omega arith) (omega (arith, e.clock, at_exit, within))
