use Rattle.std.proofs.Common.{ℕ, ◌<◌, List, length, sym, ◌∙◌, subst}
use Rattle.std.specs.Prelude.{◌≢◌, All, AllPairs}
use Rattle.std.proofs.lemmas.Result.{IfOk-weaker}
use Rattle.graph_model.specs.Closures.{IsClosure}
use Rattle.graph_model.specs.Indexes.{sub_at}
use Rattle.rerun_set.specs.Reruns.{AreReruns}
use Rattle.region_closure.specs.Closing.{AreAwaited, AreGone, ArePicked}
use Rattle.region_closure.proofs.Awaiting.{awaited_inside}
use Rattle.region_closure.proofs.Closing.{apart}
use Rattle.region_closure.proofs.closure.closure_of.Goals as goal

pub awaited_numbers-requires : goal.awaited_numbers-requires
awaited_numbers-requires c = subst (λ (l : List ℕ). All (λ n. n < length c.args.subs.now) l) (sym c.as_slice.ensures.value) c.in_ok-lost.ensures.inside

pub reruns-requires-clause-gone : goal.reruns-requires-clause-gone
reruns-requires-clause-gone c =
    let inside : All (λ n. n < length c.args.tasks.now.done) c.in_ok-lost.lost.items =
    subst (λ (k : ℕ). All (λ n. n < k) c.in_ok-lost.lost.items) (sym c.requires.numbered.len) c.in_ok-lost.ensures.inside in
    subst (λ (l : List ℕ). All (λ n. n < length c.args.tasks.now.done) l) (sym c.as_slice-2.ensures.value) inside

pub reruns-requires-clause-awaited : goal.reruns-requires-clause-awaited
reruns-requires-clause-awaited c =
    let lost = c.as_slice.result.now in
    let inside : All (λ n. n < length c.args.tasks.now.done) lost =
    subst (λ (l : List ℕ). All (λ n. n < length c.args.tasks.now.done) l) (sym c.as_slice.ensures.value)
    (subst (λ (k : ℕ). All (λ n. n < k) c.in_ok-lost.lost.items) (sym c.requires.numbered.len) c.in_ok-lost.ensures.inside) in
    subst (λ (l : List ℕ). All (λ n. n < length c.args.tasks.now.done) l) (sym c.as_slice-3.ensures.value)
    (awaited_inside c.args.vertices.now c.args.subs.now lost c.in_ok-awaited.awaited.items (length c.args.tasks.now.done) c.in_ok-awaited.ensures inside)

pub picked_subs-requires-clause-inside : goal.picked_subs-requires-clause-inside
picked_subs-requires-clause-inside c =
    subst (λ (l : List ℕ). All (λ n. n < length c.args.subs.now) l) (sym c.as_slice-4.ensures.value)
    (subst (λ (k : ℕ). All (λ n. n < k) c.in_ok-again.again.items) c.requires.numbered.len c.in_ok-again.ensures.inside)

pub picked_subs-requires-clause-apart : goal.picked_subs-requires-clause-apart
picked_subs-requires-clause-apart c =
    let subs = c.args.subs.now in
    let again = c.in_ok-again.again.items in
    let inside : All (λ n. n < length subs) again = subst (λ (k : ℕ). All (λ n. n < k) again) c.requires.numbered.len c.in_ok-again.ensures.inside in
    subst (λ (l : List ℕ). AllPairs (λ n m. sub_at subs n ≢ sub_at subs m) l) (sym c.as_slice-4.ensures.value)
    (apart c.args.vertices.now subs c.args.tasks.now again c.requires.numbered inside c.in_ok-again.ensures.once)

pub returns : goal.returns
returns c =
    let vs = c.args.vertices.now in
    let names = c.args.gone.now in
    let subs = c.args.subs.now in
    let tasks = c.args.tasks.now in
    let lost = c.as_slice-2.result.now in
    let awaited = c.as_slice-3.result.now in
    let again = c.as_slice-4.result.now in
    let same = c.as_slice.ensures.value ∙ sym c.as_slice-2.ensures.value in
    let are_gone : AreGone vs names subs lost = subst (λ (l : List ℕ). AreGone vs names subs l) (sym c.as_slice-2.ensures.value) c.in_ok-lost.ensures in
    let are_awaited : AreAwaited vs subs lost awaited =
    subst (λ (l : List ℕ). AreAwaited vs subs lost l) (sym c.as_slice-3.ensures.value) (subst (λ (l : List ℕ). AreAwaited vs subs l c.in_ok-awaited.awaited.items) same c.in_ok-awaited.ensures) in
    let are : AreReruns tasks lost awaited again = subst (λ (l : List ℕ). AreReruns tasks lost awaited l) (sym c.as_slice-4.ensures.value) c.in_ok-again.ensures in
    IfOk-weaker c.picked_subs.result (λ set. ArePicked subs again set) (λ set. IsClosure vs names set)
    (λ set picked. c.reruns_are_the_closure.ensures vs names subs tasks lost awaited again set c.requires.numbered are_gone are_awaited are picked) c.picked_subs.ensures
