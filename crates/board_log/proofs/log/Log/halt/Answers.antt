use Rattle.std.proofs.Common.{rules, arith, ◌≡◌, ◌<◌, ℕ, length, Bool, true, false, not, refl, ap, get_or, cond}
use Rattle.std.proofs.lemmas.Bool.{and_from}
use Rattle.board_log.specs.declared.entry.Entry.TheVariants.{Halted}
use Rattle.board_log.specs.Logs.{state_of}
use Rattle.board_log.proofs.Replaying.{stepped}
use Rattle.std.proofs.lemmas.List.{get_or_default}
use Rattle.std.proofs.lemmas.List.Sums.{sum_by-set}
use Rattle.board_log.proofs.log.Log.halt.Goals as goal

pub invariant_of-self-2-clause-replays : goal.invariant_of-self-2-clause-replays
invariant_of-self-2-clause-replays c =
    let old = c.args.self.now in
    let i = c.index.ensures in
    let b = c.if-index.false in
    let j : c.args.worker < length old.halted.items = search rules in
    let at : get_or old.halted.items c.args.worker true ≡ false = grind (arith, get_or_default) in
    stepped _ _ _ (Halted c.args.worker) (state_of old) _ old.replays (and_from _ _ (search rules) (ap not at)) c.push_reserved.ensures.items refl

pub invariant_of-self-2-clause-comes : goal.invariant_of-self-2-clause-comes
invariant_of-self-2-clause-comes c =
    let old = c.args.self.now in
    let i = c.index.ensures in
    let b = c.if-index.false in
    let j : c.args.worker < length old.halted.items = search rules in
    let at : get_or old.halted.items c.args.worker true ≡ false = grind (arith, get_or_default) in
    let open_of : Bool → ℕ = λ x. cond (not x) 1 0 in
    let counted : open_of (get_or old.halted.items c.args.worker true) ≡ open_of false = ap open_of at in
    omega (arith, old.comes, sum_by-set (λ x. cond (not x) 1 0) old.halted.items c.args.worker true true j, counted)
