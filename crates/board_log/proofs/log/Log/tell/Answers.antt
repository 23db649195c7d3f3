use Rattle.std.proofs.Common.{rules, ◌≡◌, ◌+◌, Some, sym, ap, ◌∙◌}
use Rattle.std.specs.List.{position, remove}
use Rattle.board_log.specs.declared.entry.Entry.TheVariants.{Told}
use Rattle.board_log.specs.Names.{is_offer}
use Rattle.board_log.specs.Logs.{state_of}
use Rattle.board_log.proofs.Replaying.{stepped}
use Rattle.board_log.proofs.Finding.{found}
use Rattle.board_log.proofs.log.Log.tell.Goals as goal

pub invariant_of-self-2-clause-replays : goal.invariant_of-self-2-clause-replays
invariant_of-self-2-clause-replays c =
    let old = c.args.self.now in
    let o = c.args.offer in
    let at : position (is_offer o) old.owed.items ≡ Some c.in-Some.k = search rules in
    let f = found (is_offer o) old.owed.items _ at in
    stepped _ _ _ (Told o.worker o.name c.args.kind) (state_of old) _ old.replays f.0 c.push_reserved.ensures.items
    (λ i. record { pending = old.pending.items; owed = (ap (remove old.owed.items) f.1 ∙ sym c.remove.ensures.items) i; told = old.told + 1; cancels = old.cancels; stopped = old.stopped; halted = old.halted.items })
