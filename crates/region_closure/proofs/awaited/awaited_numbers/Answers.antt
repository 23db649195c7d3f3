use Rattle.std.proofs.Common.{ℕ, List, [], take, get_or, sym, subst}
use Rattle.std.proofs.lemmas.List.{take_more}
use Rattle.region_closure.specs.Closing.{AreAwaited}
use Rattle.region_closure.proofs.Awaiting.{awaited_if, none_awaited}
use Rattle.region_closure.proofs.awaited.awaited_numbers.Goals as goal

pub loop-number-init : goal.loop-number-init
loop-number-init c = subst (λ (l : List ℕ). AreAwaited c.args.vertices.now c.args.subs.now [] l) (sym c.new-awaited.ensures.items) (none_awaited c.args.vertices.now c.args.subs.now)

pub loop-number-preserved : goal.loop-number-preserved
loop-number-preserved c =
    let vs = c.args.vertices.now in
    let subs = c.args.subs.now in
    let lost = c.args.lost.now in
    let k = c.loop-number.number-index in
    let new = c.push_if.new.numbers.items in
    subst (λ (l : List ℕ). AreAwaited vs subs l new) (sym (take_more lost k 0 c.loop-number-test.true))
    (awaited_if vs subs (take k lost) c.loop-number.awaited.items (get_or lost k 0) c.loop-number.invariant new c.has_awaited.result c.has_awaited.ensures c.in_ok-push_if.ensures.yes c.push_if.ensures.no)
