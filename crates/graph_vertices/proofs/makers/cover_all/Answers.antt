use Rattle.std.proofs.Common.{◌≡◌, ◌<◌, ◌≤◌, ℕ, get_or, length, ◌∙◌, ap, arith, ⊎_elim}
use Rattle.std.proofs.lemmas.Bool.{cases_lt}
use Rattle.std.proofs.lemmas.List.{get_or_default}
use Rattle.graph_vertices.proofs.makers.cover_all.Goals as goal

pub loop-place-preserved : goal.loop-place-preserved
loop-place-preserved c =
    let nodes = c.args.nodes.now in
    let place = c.loop-place.place in
    let at : place < length nodes = c.loop-place-test.true in
    let long = c.cover_node.ensures.long in
    let covered : get_or nodes place 0 < length c.cover_node.new.makers.items = c.in_ok-cover_node.ensures.ok in
    record {
      same = λ n. c.cover_node.ensures.same n ∙ c.loop-place.invariant.same n;
      covered = λ k d lt. ⊎_elim
          (λ (less : k < place). let old = c.loop-place.invariant.covered k d less in omega (arith, old, long))
          (λ (le : place ≤ k).
          let is : k ≡ place = omega (arith, lt, le) in
          let same : get_or nodes k d ≡ get_or nodes place 0 = ap (λ (n : ℕ). get_or nodes n d) is ∙ get_or_default nodes place d 0 at in
          omega (arith, same, covered))
          (cases_lt k place);
    }

pub returns-clause-ok : goal.returns-clause-ok
returns-clause-ok c = λ k d lt. c.loop-place.invariant.covered k d (omega (arith, lt, c.loop-place-test.false))
