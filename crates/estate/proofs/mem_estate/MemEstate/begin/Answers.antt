use Rattle.std.proofs.Common.{inr, List, subst, refl, ◌≡◌, ◌+◌, ◌*◌, ◌≤◌, length, arith, ℕ}
use Rattle.estate.specs.declared.calls.TheConstants.{MOST_CALLS}
use Rattle.estate.specs.declared.loss.Loss.{Loss}
use Rattle.estate.specs.Shelf.{held_in}
use Rattle.estate.specs.Calls.{LosesDue}
use Rattle.estate.proofs.Due.{due_at}
use Rattle.estate.specs.Memory.{mem_world, history_of, clock_of, counts_of}
use Rattle.estate.proofs.Laws.{leads_start}
use Rattle.estate.proofs.Calling.{enters_by, enter_leads, ended_later, below_by}
use Rattle.estate.proofs.Stepping.{all_until}
use Rattle.estate.proofs.mem_estate.MemEstate.begin.Goals as goal

pub returns-then-is_full-clause-leads : goal.returns-then-is_full-clause-leads
returns-then-is_full-clause-leads c = leads_start (mem_world c.args.self.now)

pub returns-clause-leads : goal.returns-clause-leads
returns-clause-leads c =
    let m = c.args.self.now in
    let enters = enters_by m.log.changes.items m.shelf.parts.items c.lose_due.new.shelf.parts.items m.sink.items (clock_of m) c.clock-within.result m.log_faults m.shelf_faults m.sink_faults m.losses c.lose_due.new.losses
    c.clock-within.ensures.clock c.lose_due.ensures.loses c.lose_due.ensures.later c.lose_due.ensures.lost in
    let counted : c.begin.new.self.count ≡ m.calls.count + 1 =
    omega (arith, c.begin.ensures.count, below_by c.is_full.result m.calls.count MOST_CALLS c.is_full.ensures c.if-is_full.false m.calls.few) in
    let later : clock_of m + 1 ≤ 2 * c.begin.new.self.count + length m.drops.items = omega arith in
    enter_leads (history_of m) _ (clock_of m) (2 * c.begin.new.self.count + length m.drops.items) (counts_of m) _ m.ended
    (ended_later (history_of m) _ (clock_of m) _ (counts_of m) _ m.ended enters later) (omega arith) enters

pub returns-clause-entered : goal.returns-clause-entered
returns-clause-entered c = λ goes_on.
    let m = c.args.self.now in
    let enters = enters_by m.log.changes.items m.shelf.parts.items c.lose_due.new.shelf.parts.items m.sink.items (clock_of m) c.clock-within.result m.log_faults m.shelf_faults m.sink_faults m.losses c.lose_due.new.losses
    c.clock-within.ensures.clock c.lose_due.ensures.loses c.lose_due.ensures.later c.lose_due.ensures.lost in
    let counted : c.begin.new.self.count ≡ m.calls.count + 1 =
    omega (arith, c.begin.ensures.count, below_by c.is_full.result m.calls.count MOST_CALLS c.is_full.ensures c.if-is_full.false m.calls.few) in
    let later : clock_of m + 1 ≤ 2 * c.begin.new.self.count + length m.drops.items = omega arith in
    record { drops = refl; enters = enters; clock = omega arith }

pub invariant_of-self-2-clause-ended : goal.invariant_of-self-2-clause-ended
invariant_of-self-2-clause-ended c =
    let m = c.args.self.now in
    let enters = enters_by m.log.changes.items m.shelf.parts.items c.lose_due.new.shelf.parts.items m.sink.items (clock_of m) c.clock-within.result m.log_faults m.shelf_faults m.sink_faults m.losses c.lose_due.new.losses
    c.clock-within.ensures.clock c.lose_due.ensures.loses c.lose_due.ensures.later c.lose_due.ensures.lost in
    let counted : c.begin.new.self.count ≡ m.calls.count + 1 =
    omega (arith, c.begin.ensures.count, below_by c.is_full.result m.calls.count MOST_CALLS c.is_full.ensures c.if-is_full.false m.calls.few) in
    let later : clock_of m + 1 ≤ 2 * c.begin.new.self.count + length m.drops.items = omega arith in
    ended_later (history_of m) _ (clock_of m) _ (counts_of m) _ m.ended enters later

pub invariant_of-self-2-clause-dropped : goal.invariant_of-self-2-clause-dropped
invariant_of-self-2-clause-dropped c =
    let m = c.args.self.now in
    let counted : c.begin.new.self.count ≡ m.calls.count + 1 =
    omega (arith, c.begin.ensures.count, below_by c.is_full.result m.calls.count MOST_CALLS c.is_full.ensures c.if-is_full.false m.calls.few) in
    all_until (λ (d : ℕ). d) (2 * m.calls.count) (2 * c.begin.new.self.count) m.drops.items (omega arith) m.dropped

pub returns-then-is_full-clause-call : goal.returns-then-is_full-clause-call
returns-then-is_full-clause-call c =
    let m = c.args.self.now in
    let full : m.calls.count ≡ MOST_CALLS = c.is_full.ensures.0 c.if-is_full.true in
    (((omega (arith, full), refl), ((λ failed. inr full), (λ next. refl))), refl, λ lt. absurd (omega (arith, full, lt)))

pub returns-clause-call : goal.returns-clause-call
returns-clause-call c =
    let m = c.args.self.now in
    let enters = enters_by m.log.changes.items m.shelf.parts.items c.lose_due.new.shelf.parts.items m.sink.items (clock_of m) c.clock-within.result m.log_faults m.shelf_faults m.sink_faults m.losses c.lose_due.new.losses
    c.clock-within.ensures.clock c.lose_due.ensures.loses c.lose_due.ensures.later c.lose_due.ensures.lost in
    let counted : c.begin.new.self.count ≡ m.calls.count + 1 =
    omega (arith, c.begin.ensures.count, below_by c.is_full.result m.calls.count MOST_CALLS c.is_full.ensures c.if-is_full.false m.calls.few) in
    let later : clock_of m + 1 ≤ 2 * c.begin.new.self.count + length m.drops.items = omega arith in
    let ended = ended_later (history_of m) _ (clock_of m) _ (counts_of m) _ m.ended enters later in
    let old = m.shelf.parts.items in
    let new = c.lose_due.new.shelf.parts.items in (
      ((c.begin.ensures.count, c.begin.ensures.failing), c.begin.ensures.fails),
      refl,
      λ lt. due_at m.losing.items m.calls.count (clock_of m) (2 * c.begin.new.self.count + length m.drops.items) old new m.ended.shelf ended.shelf
          (subst (λ (l : List Loss). LosesDue l m.calls.count (held_in old) (held_in new)) c.deref.ensures.value c.lose_due.ensures.due),
    )
