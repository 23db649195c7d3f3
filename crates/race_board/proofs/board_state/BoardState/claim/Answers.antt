use Rattle.std.proofs.Common.{rules, arith, subst, ◌≡◌, ◌+◌, length, map, refl, sym, ap, ◌∙◌, vec_len, length-append, Some}
use Rattle.std.proofs.lemmas.List.Edits.{length-remove}
use Rattle.board_log.specs.declared.entry.Entry.TheVariants.{Claim}
use Rattle.board_log.specs.declared.found.Found.TheVariants.{At}
use Rattle.board_log.specs.Logs.{Claims, Enters}
use Rattle.race_board.specs.Tasks.{posted_name, name_of}
use Rattle.race_board.proofs.Removing.{names_remove, name_at, takings-push}
use Rattle.race_board.proofs.board_state.BoardState.claim.Goals as goal

pub invariant_of-self-in-At-clause-same : goal.invariant_of-self-in-At-clause-same
invariant_of-self-in-At-clause-same g c =
    let old = c.args.self.now in
    let did : Claims old.log c.claim.new.self c.args.pass.now.worker (At c.in-At.k c.in-At.offer) = search rules in
    ap (map posted_name) c.remove-task.ensures.items ∙ names_remove old.tasks.items old.log.pending.items c.in-At.k old.same ∙ ap (map name_of) (sym did.3)

pub invariant_of-self-in-At-clause-room : goal.invariant_of-self-in-At-clause-room
invariant_of-self-in-At-clause-room g c =
    let old = c.args.self.now in
    let did : Claims old.log c.claim.new.self c.args.pass.now.worker (At c.in-At.k c.in-At.offer) = search rules in
    let inside = did.2 in
    let owed : vec_len c.claim.new.self.owed ≡ vec_len old.log.owed + 1 = (let o = ap (λ s. length s.owed) did.0.state in grind (arith, length-append)) in
    let pending : vec_len c.claim.new.self.pending + 1 ≡ vec_len old.log.pending = (let o = ap length did.3 in grind (arith, length-remove)) in
    omega (arith, old.room, owed, pending)

pub invariant_of-self-in-At-clause-took : goal.invariant_of-self-in-At-clause-took
invariant_of-self-in-At-clause-took g c =
    let old = c.args.self.now in
    let did : Claims old.log c.claim.new.self c.args.pass.now.worker (At c.in-At.k c.in-At.offer) = search rules in
    omega (arith, old.took, c.add-in-At.ensures.total, takings-push _ _ _ did.0.history)

pub returns-in-At-clause-entry : goal.returns-in-At-clause-entry
returns-in-At-clause-entry g c =
    let old = c.args.self.now in
    let did : Claims old.log c.claim.new.self c.args.pass.now.worker (At c.in-At.k c.in-At.offer) = search rules in
    let name = name_at old.tasks.items old.log.pending.items c.in-At.k c.remove-task.result c.in-At.offer old.same did.2 c.remove-task.ensures.value (sym did.4) in
    let P : _ → Type 0 = λ e. Enters old.log c.claim.new.self e in
    subst P (ap (Claim c.args.pass.now.worker) (sym name)) did.0

pub returns-in-At-clause-claims : goal.returns-in-At-clause-claims
returns-in-At-clause-claims g c =
    let old = c.args.self.now in
    let did : Claims old.log c.claim.new.self c.args.pass.now.worker (At c.in-At.k c.in-At.offer) = search rules in
    let name = name_at old.tasks.items old.log.pending.items c.in-At.k c.remove-task.result c.in-At.offer old.same did.2 c.remove-task.ensures.value (sym did.4) in
    let owed = ap Some (sym name) in
    (refl, c.add.ensures.amount, c.add-in-At.ensures.amount, search rules, owed)
