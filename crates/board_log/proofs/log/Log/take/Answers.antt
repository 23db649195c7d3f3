use Rattle.std.proofs.Common.{not, sym, ap, ◌∙◌}
use Rattle.std.proofs.lemmas.Bool.{and_from}
use Rattle.board_log.specs.declared.entry.Entry.TheVariants.{Claim}
use Rattle.board_log.specs.Logs.{state_of}
use Rattle.board_log.proofs.Replaying.{stepped}
use Rattle.board_log.proofs.Finding.{found_inside, claims}
use Rattle.board_log.proofs.log.Log.take.Goals as goal

pub invariant_of-self-clause-replays : goal.invariant_of-self-clause-replays
invariant_of-self-clause-replays c =
    let old = c.args.self.now in
    let o = c.remove-offer.result in
    let t = (claims old.pending.items c.requires.first.0 c.args.k o c.requires.first.1 c.remove-offer.ensures.value).0 in
    stepped _ _ _ (Claim o.worker o.name) (state_of old) _ old.replays (and_from _ _ (and_from _ _ (ap not c.requires.open) t.has) t.is) c.push_reserved-2.ensures.items
    (λ i. record { pending = (t.without ∙ sym c.remove-offer.ensures.items) i; owed = sym c.push_reserved.ensures.items i; told = old.told; cancels = old.cancels; stopped = old.stopped; halted = old.halted.items })

pub returns-clause-enters : goal.returns-clause-enters
returns-clause-enters c =
    let old = c.args.self.now in
    let o = c.remove-offer.result in
    let t = (claims old.pending.items c.requires.first.0 c.args.k o c.requires.first.1 c.remove-offer.ensures.value).0 in
    record {
      history = c.push_reserved-2.ensures.items;
      state = λ i. record { pending = (c.remove-offer.ensures.items ∙ sym t.without) i; owed = c.push_reserved.ensures.items i; told = old.told; cancels = old.cancels; stopped = old.stopped; halted = old.halted.items };
    }

pub returns-clause-worker : goal.returns-clause-worker
returns-clause-worker c = λ w h. (claims c.args.self.now.pending.items w c.args.k c.remove-offer.result h c.remove-offer.ensures.value).1

pub returns-clause-inside : goal.returns-clause-inside
returns-clause-inside c = found_inside _ _ _ c.requires.first.1
