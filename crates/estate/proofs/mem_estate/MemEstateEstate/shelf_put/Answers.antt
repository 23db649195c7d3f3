use Rattle.std.proofs.Common.{◌≡◌, ◌+◌, ◌*◌, ◌≤◌, ℕ, List, [], ◌∷◌, ◌++◌, length, map, Some, None, Contains, inr, ⊎_elim, refl, sym, ◌∙◌, ap, subst, arith, length-append, nat_le, count_by, All}
use Rattle.std.proofs.lemmas.List.{map-append}
use Rattle.std.proofs.lemmas.List.Elements.{Contains-push, Contains-append_left}
use Rattle.estate.specs.declared.log_change.LogChange.{LogChange}
use Rattle.estate.specs.declared.shelved.Shelved.{Shelved}
use Rattle.estate.specs.declared.committed.Committed.{Committed}
use Rattle.estate.specs.declared.part_name.PartName.{PartName}
use Rattle.estate.specs.Holding.{StoredPart}
use Rattle.estate.specs.Shelf.{held_in, stored, HasHappened}
use Rattle.estate.specs.PastLaws.{past_lawful}
use Rattle.estate.specs.Changes.{Same}
use Rattle.estate.specs.Memory.{mem_world, history_of, clock_of, counts_of}
use Rattle.estate.proofs.Laws.{leads_more, leads_start}
use Rattle.estate.proofs.Due.{due_put}
use Rattle.estate.proofs.Stepping.{log_same, sink_same, held_after, happened_until, all_until}
use Rattle.estate.proofs.Losing.{shelf_puts, held_add, happened_add, fresh_by}
use Rattle.estate.proofs.Recalling.{held_few}
use Rattle.estate.proofs.Calling.{call_leads, leads_same, ever_now, ever_kept, not_held, either}
use Rattle.estate.specs.Memory.{moments_of}
use Rattle.estate.proofs.Calling.{time_within, ever_within}
use Rattle.estate.proofs.mem_estate.MemEstateEstate.shelf_put.Goals as goal

pub returns-in_err-enter_shelf-clause-leads : goal.returns-in_err-enter_shelf-clause-leads
returns-in_err-enter_shelf-clause-leads c = leads_more Same (Some (record { name = c.args.name; edges = c.args.edges.now })) None _ _ (λ log. refl) c.enter_shelf.ensures.leads

pub returns-in_err-enter_shelf-clause-failed : goal.returns-in_err-enter_shelf-clause-failed
returns-in_err-enter_shelf-clause-failed c = λ is told.
    let mid = c.enter_shelf.new.self in
    let leads = c.enter_shelf.ensures.leads in
    inr ((leads.holding refl).ever, not_held (mem_world c.args.self.now) (mem_world mid) c.args.name (past_lawful (history_of mid) (clock_of mid) (counts_of mid) mid.shelf.distinct) leads refl refl (c.requires refl))

pub returns-in_err-reserve-clause-leads : goal.returns-in_err-reserve-clause-leads
returns-in_err-reserve-clause-leads c =
    let mid = c.enter_shelf.new.self in
    leads_more Same (Some (record { name = c.args.name; edges = c.args.edges.now })) None _ _ (λ log. refl)
    (leads_same (mem_world c.args.self.now) (history_of mid) (record { log = mid.log.changes.items; shelf = mid.shelf.parts.items; sink = mid.sink.items }) (clock_of mid) (2 * mid.calls.count + length c.reserve.new.self.items) (counts_of mid)
    refl refl refl (omega (arith, ap (λ (l : List ℕ). length l) c.in_err-reserve.ensures.items)) c.enter_shelf.ensures.leads)

pub returns-in_err-edges-clause-leads : goal.returns-in_err-edges-clause-leads
returns-in_err-edges-clause-leads c =
    let mid = c.enter_shelf.new.self in
    leads_more Same (Some (record { name = c.args.name; edges = c.args.edges.now })) None _ _ (λ log. refl)
    (leads_same (mem_world c.args.self.now) (history_of mid) (record { log = mid.log.changes.items; shelf = mid.shelf.parts.items; sink = mid.sink.items }) (clock_of mid) (2 * mid.calls.count + length c.reserve.new.self.items) (counts_of mid)
    refl refl refl (omega (arith, ap (λ (l : List ℕ). length l) c.reserve.ensures.items)) c.enter_shelf.ensures.leads)

pub add-requires : goal.add-requires
add-requires c =
    let old = c.args.self.now in
    let mid = c.enter_shelf.new.self in
    let e = c.in_ok-enter_shelf.ensures.entered in
    fresh_by old.shelf.parts.items mid.shelf.parts.items (clock_of old) c.args.name (ever_now (clock_of old) old.shelf.parts.items old.ended.shelf) e.enters.shelf.names (c.requires refl)

pub invariant_of-self-2-clause-ended : goal.invariant_of-self-2-clause-ended
invariant_of-self-2-clause-ended c =
    let mid = c.enter_shelf.new.self in
    let since = c.clock-exit.result in
    let at_exit : since ≡ clock_of mid = c.clock-exit.ensures.clock in
    let later = 2 * mid.calls.count + length c.reserve.new.self.items in
    let time : later ≡ clock_of mid = omega (arith, ap (λ (l : List ℕ). length l) c.reserve.ensures.items) in
    let happened = happened_until (clock_of mid) later mid.shelf.parts.items (omega arith) mid.ended.shelf in
    record {
      log = all_until (λ (x : LogChange). x.since) (clock_of mid) later mid.log.changes.items (omega arith) mid.ended.log;
      shelf =
          ⊎_elim
          (λ is. happened_add later mid.shelf.parts.items c.add.new.self.parts.items since c.args.name c.in_ok-edges.edges is (omega arith) happened)
          (λ same. subst (λ (l : List Shelved). HasHappened later l) (sym same) happened)
          (either c.add.result c.add.ensures.ok c.add.ensures.err);
      sink = all_until (λ (x : Committed). x.since) (clock_of mid) later mid.sink.items (omega arith) mid.ended.sink;
    }

pub invariant_of-self-2-clause-room : goal.invariant_of-self-2-clause-room
invariant_of-self-2-clause-room c =
    let mid = c.enter_shelf.new.self in
    let few : length (held_in mid.shelf.parts.items) ≤ length mid.shelf.parts.items = held_few mid.shelf.parts.items in
    let more : length (held_in c.add.new.self.parts.items) ≤ length mid.shelf.parts.items + 1 =
    ⊎_elim
    (λ is. omega (arith, ap (λ (l : List PartName). length l) (held_add mid.shelf.parts.items c.add.new.self.parts.items c.clock-exit.result c.args.name c.in_ok-edges.edges is), length-append (held_in mid.shelf.parts.items) (c.args.name ∷ [])))
    (λ same. omega (arith, ap (λ (l : List Shelved). length (held_in l)) same))
    (either c.add.result c.add.ensures.ok c.add.ensures.err) in
    omega (arith, more, c.in_ok-reserve.ensures.ok, ap (λ (l : List Shelved). length l) c.as_slice.ensures.value)

pub returns-in_err-add-clause-leads : goal.returns-in_err-add-clause-leads
returns-in_err-add-clause-leads c =
    let mid = c.enter_shelf.new.self in
    leads_more Same (Some (record { name = c.args.name; edges = c.args.edges.now })) None _ _ (λ log. refl)
    (leads_same (mem_world c.args.self.now) (history_of mid) (record { log = mid.log.changes.items; shelf = c.add.new.self.parts.items; sink = mid.sink.items }) (clock_of mid) (2 * mid.calls.count + length c.reserve.new.self.items) (counts_of mid)
    refl c.in_err-add.ensures.err refl (omega (arith, ap (λ (l : List ℕ). length l) c.reserve.ensures.items)) c.enter_shelf.ensures.leads)

pub returns-clause-leads : goal.returns-clause-leads
returns-clause-leads c =
    let old = c.args.self.now in
    let mid = c.enter_shelf.new.self in
    let e = c.in_ok-enter_shelf.ensures.entered in
    let name = c.args.name in
    let part : StoredPart = (record { name = c.args.name; edges = c.args.edges.now }) in
    let since = c.clock-exit.result in
    let at_exit : since ≡ clock_of mid = c.clock-exit.ensures.clock in
    let later = 2 * mid.calls.count + length c.reserve.new.self.items in
    let time : later ≡ clock_of mid = omega (arith, ap (λ (l : List ℕ). length l) c.reserve.ensures.items) in
    let happened = happened_until (clock_of mid) later mid.shelf.parts.items (omega arith) mid.ended.shelf in
    let new = c.add.new.self.parts.items in
    let is : new ≡ mid.shelf.parts.items ++ (record { since = since; name = name; edges = c.args.edges.now; lost = None }) ∷ [] =
    c.in_ok-add.ensures.ok ∙ ap (λ (x : List (List (List ℕ))). mid.shelf.parts.items ++ (record { since = since; name = name; edges = x; lost = None }) ∷ []) c.in_ok-edges.ensures in
    call_leads {writes = Same} {part = Some part} {commit = None} (history_of old) (history_of mid)
    (record { log = mid.log.changes.items; shelf = new; sink = mid.sink.items }) (clock_of old) later (counts_of old) (counts_of mid) old.ended
    (happened_add later mid.shelf.parts.items new since name c.args.edges.now is (omega arith) happened) (omega (arith, e.clock)) e.enters
    (log_same (clock_of old) old.log.changes.items mid.log.changes.items e.enters.log (λ log. refl) old.ended.log)
    (shelf_puts part (clock_of old) since old.shelf.parts.items mid.shelf.parts.items new (omega (arith, e.clock, at_exit)) old.ended.shelf e.enters.shelf is)
    (sink_same (clock_of old) old.sink.items mid.sink.items e.enters.sink old.ended.sink)
    (λ other has. subst (λ (l : List PartName). Contains l other) (sym (held_add mid.shelf.parts.items new since name c.args.edges.now is)) (Contains-append_left (held_in mid.shelf.parts.items) (name ∷ []) other has))

pub returns-clause-put : goal.returns-clause-put
returns-clause-put c = λ told.
    let old = c.args.self.now in
    let mid = c.enter_shelf.new.self in
    let e = c.in_ok-enter_shelf.ensures.entered in
    let name = c.args.name in
    let part : StoredPart = (record { name = c.args.name; edges = c.args.edges.now }) in
    let since = c.clock-exit.result in
    let at_exit : since ≡ clock_of mid = c.clock-exit.ensures.clock in
    let later = 2 * mid.calls.count + length c.reserve.new.self.items in
    let time : later ≡ clock_of mid = omega (arith, ap (λ (l : List ℕ). length l) c.reserve.ensures.items) in
    let happened = happened_until (clock_of mid) later mid.shelf.parts.items (omega arith) mid.ended.shelf in
    let new = c.add.new.self.parts.items in
    let is : new ≡ mid.shelf.parts.items ++ (record { since = since; name = name; edges = c.args.edges.now; lost = None }) ∷ [] =
    c.in_ok-add.ensures.ok ∙ ap (λ (x : List (List (List ℕ))). mid.shelf.parts.items ++ (record { since = since; name = name; edges = x; lost = None }) ∷ []) c.in_ok-edges.ensures in
    let happened_new = happened_add later mid.shelf.parts.items new since name c.args.edges.now is (omega arith) happened in
    let ever = ever_kept (history_of old) (history_of mid) (clock_of old) (clock_of mid) old.ended mid.ended (omega (arith, e.clock)) e.enters.shelf in (
      ever_now later new happened_new ∙ ap (λ (l : List Shelved). map stored l) is ∙ map-append _ mid.shelf.parts.items _ ∙ ap (λ (l : List StoredPart). l ++ part ∷ []) ever,
      subst (λ (l : List PartName). Contains l name) (sym (held_after later new happened_new ∙ held_add mid.shelf.parts.items new since name c.args.edges.now is)) (Contains-push (held_in mid.shelf.parts.items) name),
    )

pub returns-clause-under_way : goal.returns-clause-under_way
returns-clause-under_way c =
    let old = c.args.self.now in
    let mid = c.enter_shelf.new.self in
    let e = c.in_ok-enter_shelf.ensures.entered in
    let at_exit : c.clock-exit.result ≡ clock_of mid = c.clock-exit.ensures.clock in
    let drops = c.reserve.ensures.items ∙ e.drops in
    let u = moments_of old + count_by (λ d. nat_le d (moments_of old)) c.reserve.new.self.items in
    let within : u ≡ clock_of old + 1 = time_within old.calls.count old.drops.items c.reserve.new.self.items drops old.dropped in
    ever_within (clock_of old) u c.clock-exit.result old.shelf.parts.items mid.shelf.parts.items c.add.new.self.parts.items c.args.name c.in_ok-edges.edges c.in_ok-add.ensures.ok old.ended.shelf e.enters.shelf (omega arith) (omega (arith, e.clock, at_exit, within))

pub invariant_of-self-2-clause-dropped : goal.invariant_of-self-2-clause-dropped
invariant_of-self-2-clause-dropped c =
    let mid = c.enter_shelf.new.self in
    subst (λ (l : List ℕ). All (λ d. d ≤ 2 * mid.calls.count) l) (sym c.reserve.ensures.items) mid.dropped

pub returns-clause-call : goal.returns-clause-call
returns-clause-call c =
    let old = c.args.self.now in
    let mid = c.enter_shelf.new.self in
    let name = c.args.name in
    let call = c.in_ok-enter_shelf.ensures.call in
    let since = c.clock-exit.result in
    let at_exit : since ≡ clock_of mid = c.clock-exit.ensures.clock in
    let later = 2 * mid.calls.count + length c.reserve.new.self.items in
    let time : later ≡ clock_of mid = omega (arith, ap (λ (l : List ℕ). length l) c.reserve.ensures.items) in
    let happened = happened_until (clock_of mid) later mid.shelf.parts.items (omega arith) mid.ended.shelf in
    let new = c.add.new.self.parts.items in
    let happened_new = happened_add later mid.shelf.parts.items new since name c.in_ok-edges.edges c.in_ok-add.ensures.ok (omega arith) happened in
    let fresh = not_held (mem_world old) (mem_world old) name (past_lawful (history_of old) (clock_of old) (counts_of old) old.shelf.distinct) (leads_start (mem_world old)) refl refl (c.requires refl) in (
      call.0,
      call.1,
      λ lt. due_put _ _ _ _ _ name (call.2 lt) fresh
          (held_after later new happened_new ∙ held_add mid.shelf.parts.items new since name c.in_ok-edges.edges c.in_ok-add.ensures.ok
          ∙ ap (λ (l : List PartName). l ++ name ∷ []) (sym (held_after (clock_of mid) mid.shelf.parts.items mid.ended.shelf))),
    )
