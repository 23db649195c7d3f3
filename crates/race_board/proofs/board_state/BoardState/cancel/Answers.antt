use Rattle.std.proofs.Common.{rules, arith, ◌≡◌, ◌<◌, ◌≤◌, length, true, map, sym, ap, ◌∙◌, vec_len}
use Rattle.std.specs.List.{remove}
use Rattle.std.proofs.lemmas.List.Edits.{length-remove}
use Rattle.board_log.specs.declared.entry.Entry.TheVariants.{Cancelled}
use Rattle.board_log.specs.Logs.{Enters}
use Rattle.race_board.specs.Tasks.{posted_name, name_of}
use Rattle.race_board.proofs.Removing.{names_remove, takings-push}
use Rattle.race_board.proofs.board_state.BoardState.cancel.Goals as goal

pub invariant_of-self-in-Some-clause-same : goal.invariant_of-self-in-Some-clause-same
invariant_of-self-in-Some-clause-same g c =
    let old = c.args.self.now in
    let e : c.cancel.new.self.pending.items ≡ remove old.log.pending.items c.in-Some.k = search rules in
    ap (map posted_name) c.remove.ensures.items ∙ names_remove old.tasks.items old.log.pending.items c.in-Some.k old.same ∙ ap (map name_of) (sym e)

pub invariant_of-self-in-Some-clause-room : goal.invariant_of-self-in-Some-clause-room
invariant_of-self-in-Some-clause-room g c =
    let old = c.args.self.now in
    let enters : Enters old.log c.cancel.new.self (Cancelled c.args.name true) = search rules in
    let e : c.cancel.new.self.pending.items ≡ remove old.log.pending.items c.in-Some.k = search rules in
    let owed : vec_len c.cancel.new.self.owed ≡ vec_len old.log.owed = (let o = ap (λ s. length s.owed) enters.state in search rules) in
    let inside : c.in-Some.k < length old.log.pending.items = search rules in
    let pending : vec_len c.cancel.new.self.pending ≤ vec_len old.log.pending = (let o = ap length e in grind (arith, length-remove)) in
    omega (arith, old.room, owed, pending)

pub invariant_of-self-in-Some-clause-took : goal.invariant_of-self-in-Some-clause-took
invariant_of-self-in-Some-clause-took g c =
    let old = c.args.self.now in
    let enters : Enters old.log c.cancel.new.self (Cancelled c.args.name true) = search rules in
    omega (arith, old.took, c.add-in-Some.ensures.total, takings-push _ _ _ enters.history)
