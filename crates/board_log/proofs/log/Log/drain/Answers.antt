use Rattle.std.proofs.Common.{[], ◌∷◌, ◌++◌, refl, ap, ◌∙◌}
use Rattle.std.proofs.lemmas.Bool.{eq-eqb}
use Rattle.board_log.specs.declared.entry.Entry.TheVariants.{Drained}
use Rattle.board_log.specs.Logs.{state_of}
use Rattle.board_log.proofs.Replaying.{stepped}
use Rattle.board_log.proofs.log.Log.drain.Goals as goal

pub invariant_of-self-2-clause-replays : goal.invariant_of-self-2-clause-replays
invariant_of-self-2-clause-replays c =
    let old = c.args.self.now in
    stepped _ _ _ (Drained old.told) (state_of old) _ old.replays (eq-eqb old.told old.told refl) (c.push_reserved.ensures.items ∙ ap (λ l. l ++ Drained old.told ∷ []) c.in_ok-reserve.ensures.items) refl
