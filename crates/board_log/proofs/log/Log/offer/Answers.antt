use Rattle.std.proofs.Common.{◌+◌, [], ◌∷◌, ◌++◌, refl, sym, ap, ◌∙◌}
use Rattle.board_log.specs.declared.entry.Entry.TheVariants.{Offer}
use Rattle.board_log.specs.Logs.{state_of}
use Rattle.board_log.proofs.Replaying.{stepped}
use Rattle.board_log.proofs.log.Log.offer.Goals as goal

pub invariant_of-self-2-clause-replays : goal.invariant_of-self-2-clause-replays
invariant_of-self-2-clause-replays c =
    let old = c.args.self.now in
    let o = c.args.offer in
    stepped _ _ _ (Offer o.worker o.name) (state_of old) _ old.replays refl (c.push_reserved-2.ensures.items ∙ ap (λ l. l ++ Offer o.worker o.name ∷ []) c.reserve-3.ensures.items)
    (λ i. record { pending = sym (c.push_reserved.ensures.items ∙ ap (λ l. l ++ o ∷ []) c.reserve.ensures.items) i; owed = sym c.reserve-2.ensures.items i; told = old.told; cancels = old.cancels + 1; stopped = old.stopped; halted = old.halted.items })
