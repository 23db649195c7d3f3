use Rattle.std.proofs.Common.{arith, true, sym, ap, ◌∙◌}
use Rattle.std.proofs.lemmas.Bool.Decides.{nat_tests}
use Rattle.std.specs.List.{remove}
use Rattle.std.specs.Prelude.{◌-◌}
use Rattle.std.proofs.lemmas.Bool.{and_from}
use Rattle.board_log.specs.declared.entry.Entry.TheVariants.{Cancelled}
use Rattle.board_log.specs.Names.{is_of}
use Rattle.board_log.specs.Logs.{state_of}
use Rattle.board_log.proofs.Replaying.{stepped}
use Rattle.board_log.proofs.Finding.{found}
use Rattle.board_log.proofs.log.Log.take_out.Goals as goal

pub invariant_of-self-clause-replays : goal.invariant_of-self-clause-replays
invariant_of-self-clause-replays c =
    let old = c.args.self.now in
    let some = c.requires.some in
    let f = found (is_of c.args.name) old.pending.items c.args.k c.requires.first in
    stepped _ _ _ (Cancelled c.args.name true) (state_of old) _ old.replays (and_from _ _ (grind (arith, nat_tests)) f.0) c.push_reserved.ensures.items
    (λ i. record { pending = (ap (remove old.pending.items) f.1 ∙ sym c.remove.ensures.items) i; owed = old.owed.items; told = old.told; cancels = old.cancels - 1; stopped = old.stopped; halted = old.halted.items })
