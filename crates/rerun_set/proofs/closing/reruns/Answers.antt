use Rattle.std.proofs.Common.{◌≡◌, ◌<◌, ◌≤◌, ℕ, List, length, get_or, sym, ◌∙◌, ap, subst, arith}
use Rattle.std.specs.Prelude.{◌≢◌, AllPairs}
use Rattle.rerun_set.specs.Found.{Finds}
use Rattle.rerun_set.specs.Reruns.{AreReruns, LeadsTo}
use Rattle.rerun_set.proofs.Finding.{few}
use Rattle.rerun_set.proofs.Underway.{led_on, made_inside, underway_first, underway_last, underway_more}
use Rattle.rerun_set.proofs.closing.reruns.Goals as goal

pub loop-next-init : goal.loop-next-init
loop-next-init c =
    underway_first c.args.tasks.now c.args.gone.now c.args.awaited.now c.in_ok-again.again c.in_ok-lost.lost c.add_wanted.new.again c.requires.gone c.requires.awaited
    c.in_ok-lost.ensures c.in_ok-again.ensures c.in_ok-add_wanted.ensures

pub loop-next-preserved : goal.loop-next-preserved
loop-next-preserved c =
    let tasks = c.args.tasks.now in
    let gone = c.args.gone.now in
    let items = c.loop-next.again in
    let next = c.loop-next.next in
    let mid = c.add_readers.new.again in
    let new = c.add_producers.new.again in
    let lt : next < length items = subst (λ (l : List ℕ). next < length l) c.as_slice.ensures.items c.loop-next-test.true in
    let number : get_or c.as_slice-in-loop-next.result.now next 0 ≡ get_or items next 0 = ap (λ (l : List ℕ). get_or l next 0) c.as_slice-in-loop-next.ensures.items in
    underway_more tasks gone c.args.awaited.now items new next c.count-count.ensures.inside c.loop-next.invariant lt
    (subst (λ (t : ℕ). Finds items (LeadsTo tasks gone t) new) number
    (led_on tasks gone c.args.awaited.now c.in_ok-lost.lost items mid new (get_or c.as_slice-in-loop-next.result.now next 0) c.in_ok-lost.ensures c.in_ok-add_readers.ensures c.in_ok-add_producers.ensures))

pub add_wanted-requires-clause-lost : goal.add_wanted-requires-clause-lost
add_wanted-requires-clause-lost c = made_inside c.args.gone.now c.in_ok-lost.lost (length c.args.tasks.now.done) c.in_ok-lost.ensures c.requires.gone

pub loop-next-smaller : goal.loop-next-smaller
loop-next-smaller c =
    let items = c.loop-next.again in
    let once : AllPairs ◌≢◌ items = subst (λ (l : List ℕ). AllPairs ◌≢◌ l) c.as_slice.ensures.items c.as_slice.ensures.once in
    let most = few items (length c.args.tasks.now.done) once c.loop-next.invariant.inside in
    let lt : c.loop-next.next < length items = subst (λ (l : List ℕ). c.loop-next.next < length l) c.as_slice.ensures.items c.loop-next-test.true in
    omega (arith, lt, most)

pub returns : goal.returns
returns c =
    let items = c.loop-next.again in
    let once : AllPairs ◌≢◌ items = subst (λ (l : List ℕ). AllPairs ◌≢◌ l) c.as_slice.ensures.items c.as_slice.ensures.once in
    let end : length items ≤ c.loop-next.next = subst (λ (l : List ℕ). length l ≤ c.loop-next.next) c.as_slice.ensures.items c.loop-next-test.false in
    let same = c.in_ok-from_slice.ensures.items ∙ c.as_slice-2.ensures.items in
    subst (λ (l : List ℕ). AreReruns c.args.tasks.now c.args.gone.now c.args.awaited.now l) (sym same)
    (underway_last c.args.tasks.now c.args.gone.now c.args.awaited.now items c.loop-next.next c.loop-next.invariant end once)
