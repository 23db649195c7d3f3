use Rattle.std.proofs.Common.{arith, false, not, refl, ap}
use Rattle.std.proofs.lemmas.Bool.Decides.{nat_tests}
use Rattle.std.proofs.lemmas.Bool.{and_from}
use Rattle.board_log.specs.declared.entry.Entry.TheVariants.{Cancelled}
use Rattle.board_log.specs.Names.{is_of}
use Rattle.board_log.specs.Logs.{state_of}
use Rattle.board_log.proofs.Replaying.{stepped}
use Rattle.board_log.proofs.Finding.{missing}
use Rattle.board_log.proofs.log.Log.miss.Goals as goal

pub invariant_of-self-clause-replays : goal.invariant_of-self-clause-replays
invariant_of-self-clause-replays c =
    let old = c.args.self.now in
    let some = c.requires.some in
    stepped _ _ _ (Cancelled c.args.name false) (state_of old) _ old.replays (and_from _ _ (grind (arith, nat_tests)) (ap not (missing (is_of c.args.name) old.pending.items c.requires.none))) c.push_reserved.ensures.items refl
