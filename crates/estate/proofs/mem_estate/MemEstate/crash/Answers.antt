use Rattle.std.proofs.Common.{◌≡◌, ◌+◌, ◌*◌, ◌≤◌, ℕ, List, length, sym, ◌∙◌, ap, subst, arith}
use Rattle.estate.specs.declared.committed.Committed.{Committed}
use Rattle.estate.specs.declared.shelved.Shelved.{Shelved}
use Rattle.estate.specs.Holding.{Holding}
use Rattle.estate.specs.Shelf.{held_in}
use Rattle.estate.specs.Pasts.{History, IsLeftOf, past_at, chosen, commits_at}
use Rattle.estate.specs.Memory.{history_of, clock_of, time_of, past_of}
use Rattle.estate.proofs.Recalling.{recalled_whole, recalled_ended, chosen_left, held_few}
use Rattle.estate.proofs.mem_estate.MemEstate.crash.Goals as goal

pub invariant_of-result-clause-ended : goal.invariant_of-result-clause-ended
invariant_of-result-clause-ended c =
    let m = c.args.self.now in
    let made : History = record { log = c.in_ok-crash.field-0.changes.items; shelf = c.in_ok-shelf.shelf.parts.items; sink = c.in_ok-sink_at.field-0.items } in
    recalled_ended (history_of m) made c.time-time.result _ c.in_ok-crash.ensures.first c.in_ok-shelf.ensures c.in_ok-sink_at.ensures.first

pub invariant_of-result-clause-room : goal.invariant_of-result-clause-room
invariant_of-result-clause-room c =
    let parts = c.in_ok-shelf.shelf.parts.items in
    let few : length (held_in parts) ≤ length parts = held_few parts in
    omega (arith, few, c.in_ok-reserve.ensures.ok, ap (λ (l : List Shelved). length l) c.as_slice.ensures.value)

pub returns-clause-image : goal.returns-clause-image
returns-clause-image c =
    let m = c.args.self.now in
    let made : History = record { log = c.in_ok-crash.field-0.changes.items; shelf = c.in_ok-shelf.shelf.parts.items; sink = c.in_ok-sink_at.field-0.items } in
    let commits = c.in_ok-sink_at.ensures.commits ∙ ap (λ (l : List Committed). commits_at c.time-time.result l) c.deref.ensures.value in
    let is = recalled_whole (history_of m) made c.time-time.result (2 * c.in_ok-new.field-0.count + length c.reserve.new.self.items) c.args.choice c.in_ok-crash.ensures.whole c.in_ok-crash.ensures.first c.in_ok-shelf.ensures commits c.in_ok-sink_at.ensures.first
    ∙ ap (λ (t : ℕ). chosen c.args.choice (past_at (history_of m) t)) c.time-time.ensures.time in
    let time : c.time-time.result ≡ time_of m c.args.moment = c.time-time.ensures.time in
    let past : c.time-time.result ≤ clock_of m = c.time-time.ensures.past in
    (time_of m c.args.moment, omega arith, omega (arith, time, past), subst (λ (h : Holding). IsLeftOf (past_of m c.args.moment) h) (sym is) (chosen_left c.args.choice (past_of m c.args.moment)))

pub returns-clause-chosen : goal.returns-clause-chosen
returns-clause-chosen c =
    let m = c.args.self.now in
    let made : History = record { log = c.in_ok-crash.field-0.changes.items; shelf = c.in_ok-shelf.shelf.parts.items; sink = c.in_ok-sink_at.field-0.items } in
    let commits = c.in_ok-sink_at.ensures.commits ∙ ap (λ (l : List Committed). commits_at c.time-time.result l) c.deref.ensures.value in
    let is = recalled_whole (history_of m) made c.time-time.result (2 * c.in_ok-new.field-0.count + length c.reserve.new.self.items) c.args.choice c.in_ok-crash.ensures.whole c.in_ok-crash.ensures.first c.in_ok-shelf.ensures commits c.in_ok-sink_at.ensures.first
    ∙ ap (λ (t : ℕ). chosen c.args.choice (past_at (history_of m) t)) c.time-time.ensures.time in
    is
