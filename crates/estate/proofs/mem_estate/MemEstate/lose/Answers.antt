use Rattle.std.proofs.Common.{◌≡◌, ◌+◌, ◌*◌, ℕ, List, [], ◌∷◌, length, inr, Contains, sym, ap, subst, arith, length-append, All, ◌≤◌}
use Rattle.estate.specs.declared.part_name.PartName.{PartName}
use Rattle.estate.specs.declared.shelved.Shelved.{Shelved}
use Rattle.estate.specs.Shelf.{held_in, HasHappened}
use Rattle.estate.specs.Memory.{history_of, clock_of, counts_of}
use Rattle.estate.proofs.Stepping.{held_after}
use Rattle.estate.proofs.Losing.{loses_from, loses_count}
use Rattle.estate.proofs.Calling.{enters_by, enter_leads, ended_later, rose_by}
use Rattle.std.proofs.lemmas.List.Elements.{All-push}
use Rattle.estate.proofs.mem_estate.MemEstate.lose.Goals as goal

pub invariant_of-self-clause-ended : goal.invariant_of-self-clause-ended
invariant_of-self-clause-ended c =
    let m = c.args.self.now in
    let new = c.lose.new.self.parts.items in
    let loses = loses_from c.args.name (c.clock-since.result + 1) m.shelf.parts.items new (c.lose.ensures.lost c.if-lose.true) in
    let enters = enters_by m.log.changes.items m.shelf.parts.items new m.sink.items (clock_of m) c.clock-since.result m.log_faults m.shelf_faults m.sink_faults m.losses c.saturating_add-self.result
    c.clock-since.ensures.clock loses (omega arith) (λ name has. inr (rose_by m.losses c.saturating_add-self.result c.saturating_add-self.ensures)) in
    let later = 2 * m.calls.count + length c.push_reserved.new.self.items in
    let time : later ≡ clock_of m + 1 = omega (arith, ap (λ (l : List ℕ). length l) c.push_reserved.ensures.items, length-append m.drops.items (2 * m.calls.count ∷ [])) in
    let ended = ended_later (history_of m) _ (clock_of m) later (counts_of m) _ m.ended enters (omega arith) in
    ended

pub push_reserved-requires : goal.push_reserved-requires
push_reserved-requires c =
    let m = c.args.self.now in
    omega (arith, m.room, loses_count c.args.name (c.clock-since.result + 1) m.shelf.parts.items c.lose.new.self.parts.items (c.lose.ensures.lost c.if-lose.true))

pub invariant_of-self-clause-room : goal.invariant_of-self-clause-room
invariant_of-self-clause-room c =
    let m = c.args.self.now in
    omega (arith, m.room, c.push_reserved.ensures.len, c.push_reserved.ensures.capacity, loses_count c.args.name (c.clock-since.result + 1) m.shelf.parts.items c.lose.new.self.parts.items (c.lose.ensures.lost c.if-lose.true))

pub returns-then-lose-clause-leads : goal.returns-then-lose-clause-leads
returns-then-lose-clause-leads c =
    let m = c.args.self.now in
    let new = c.lose.new.self.parts.items in
    let loses = loses_from c.args.name (c.clock-since.result + 1) m.shelf.parts.items new (c.lose.ensures.lost c.if-lose.true) in
    let enters = enters_by m.log.changes.items m.shelf.parts.items new m.sink.items (clock_of m) c.clock-since.result m.log_faults m.shelf_faults m.sink_faults m.losses c.saturating_add-self.result
    c.clock-since.ensures.clock loses (omega arith) (λ name has. inr (rose_by m.losses c.saturating_add-self.result c.saturating_add-self.ensures)) in
    let later = 2 * m.calls.count + length c.push_reserved.new.self.items in
    let time : later ≡ clock_of m + 1 = omega (arith, ap (λ (l : List ℕ). length l) c.push_reserved.ensures.items, length-append m.drops.items (2 * m.calls.count ∷ [])) in
    let ended = ended_later (history_of m) _ (clock_of m) later (counts_of m) _ m.ended enters (omega arith) in
    enter_leads (history_of m) _ (clock_of m) later (counts_of m) _ m.ended ended (omega arith) enters

pub returns-then-lose-clause-gone : goal.returns-then-lose-clause-gone
returns-then-lose-clause-gone c =
    let m = c.args.self.now in
    let new = c.lose.new.self.parts.items in
    let loses = loses_from c.args.name (c.clock-since.result + 1) m.shelf.parts.items new (c.lose.ensures.lost c.if-lose.true) in
    let enters = enters_by m.log.changes.items m.shelf.parts.items new m.sink.items (clock_of m) c.clock-since.result m.log_faults m.shelf_faults m.sink_faults m.losses c.saturating_add-self.result
    c.clock-since.ensures.clock loses (omega arith) (λ name has. inr (rose_by m.losses c.saturating_add-self.result c.saturating_add-self.ensures)) in
    let later = 2 * m.calls.count + length c.push_reserved.new.self.items in
    let time : later ≡ clock_of m + 1 = omega (arith, ap (λ (l : List ℕ). length l) c.push_reserved.ensures.items, length-append m.drops.items (2 * m.calls.count ∷ [])) in
    let ended = ended_later (history_of m) _ (clock_of m) later (counts_of m) _ m.ended enters (omega arith) in
    λ has. c.lose.ensures.gone (subst (λ (l : List PartName). Contains l c.args.name) (held_after later new ended.shelf) has)

pub returns-then-lose-clause-others : goal.returns-then-lose-clause-others
returns-then-lose-clause-others c = λ other apart had.
    let m = c.args.self.now in
    let new = c.lose.new.self.parts.items in
    let loses = loses_from c.args.name (c.clock-since.result + 1) m.shelf.parts.items new (c.lose.ensures.lost c.if-lose.true) in
    let enters = enters_by m.log.changes.items m.shelf.parts.items new m.sink.items (clock_of m) c.clock-since.result m.log_faults m.shelf_faults m.sink_faults m.losses c.saturating_add-self.result
    c.clock-since.ensures.clock loses (omega arith) (λ name has. inr (rose_by m.losses c.saturating_add-self.result c.saturating_add-self.ensures)) in
    let later = 2 * m.calls.count + length c.push_reserved.new.self.items in
    let time : later ≡ clock_of m + 1 = omega (arith, ap (λ (l : List ℕ). length l) c.push_reserved.ensures.items, length-append m.drops.items (2 * m.calls.count ∷ [])) in
    let ended = ended_later (history_of m) _ (clock_of m) later (counts_of m) _ m.ended enters (omega arith) in
    subst (λ (l : List PartName). Contains l other) (sym (held_after later new ended.shelf))
    (c.lose.ensures.others other apart (subst (λ (l : List PartName). Contains l other) (held_after (clock_of m) m.shelf.parts.items m.ended.shelf) had))

pub returns-else-lose-clause-gone : goal.returns-else-lose-clause-gone
returns-else-lose-clause-gone c =
    let m = c.args.self.now in
    let new = c.lose.new.self.parts.items in
    let happened = subst (λ (l : List Shelved). HasHappened (clock_of m) l) (sym (c.lose.ensures.same c.if-lose.false)) m.ended.shelf in
    λ has. c.lose.ensures.gone (subst (λ (l : List PartName). Contains l c.args.name) (held_after (clock_of m) new happened) has)

pub returns-else-lose-clause-rose : goal.returns-else-lose-clause-rose
returns-else-lose-clause-rose c = λ had.
    let m = c.args.self.now in
    let held = subst (λ (l : List PartName). Contains l c.args.name) (held_after (clock_of m) m.shelf.parts.items m.ended.shelf) had in
    absurd (c.lose.ensures.gone (subst (λ (l : List Shelved). Contains (held_in l) c.args.name) (sym (c.lose.ensures.same c.if-lose.false)) held))

pub invariant_of-self-clause-dropped : goal.invariant_of-self-clause-dropped
invariant_of-self-clause-dropped c =
    let m = c.args.self.now in
    subst (λ (l : List ℕ). All (λ d. d ≤ 2 * m.calls.count) l) (sym c.push_reserved.ensures.items)
    (All-push (λ (d : ℕ). d ≤ 2 * m.calls.count) m.drops.items (2 * m.calls.count) m.dropped (omega arith))
