use Rattle.std.proofs.Common.{◌≡◌, Bool, ℕ, ◌<◌, List, [], ◌∷◌, ◌++◌, length, All, Vec, Global, sym, ◌∙◌, ap, subst, arith}
use Rattle.std.proofs.lemmas.List.Elements.{All-push}
use Rattle.vertex_builder.specs.Vertices.{is_makeable}
use Rattle.vertex_builder.proofs.Ready.{marks_of_all, ready, heads_with, heads_without}
use Rattle.vertex_builder.proofs.builder.heads_of.Goals as goal
use Rattle.vertex_builder.proofs.builder.heads_of.Goals.{then-branch+in_ok-push, else-branch}

pub loop-node-preserved : goal.loop-node-preserved
loop-node-preserved c =
    let nodes = c.args.links.now in
    let k = c.loop-node.node in
    let count = c.count-count.ensures.nodes in
    let within : k < length nodes = omega (arith, c.loop-node-test.true, count) in
    let made_marks = c.as_slice.result.now in
    let complete_marks = c.as_slice-in-loop-node.result.now in
    let made = marks_of_all c.args.made.now (length nodes) c.count-count.result c.in_ok-made.made.items made_marks count c.as_slice.ensures.value c.in_ok-made.ensures in
    let complete = marks_of_all c.args.complete.now (length nodes) c.count-count.result c.in_ok-complete.complete.items complete_marks count c.as_slice-in-loop-node.ensures.value c.in_ok-complete.ensures in
    let says = sym (c.in_ok-is_makeable.ensures ∙ ready nodes c.args.widened.now c.args.made.now c.args.complete.now made_marks complete_marks k c.count-count.ensures.faultless within made complete) in
    let test : ℕ → Bool = is_makeable nodes c.args.widened.now c.args.made.now c.args.complete.now in
    let P : List ℕ → Type 0 = All (λ head. head < length nodes) in
    let before = c.loop-node.heads.items in
    let after = c.if-branch.heads.items in
    elim c.if-branch.branch [
      | then-branch+in_ok-push w ↦
          let pushed : after ≡ before ++ k ∷ [] = ap (λ (heads : Vec ℕ Global). heads.items) w.heads-is ∙ w.in_ok-push.ensures.items in
          record {
            heads = heads_with test k before after c.loop-node.invariant.heads (says ∙ w.if-branch.true) pushed;
            inside = subst P (sym pushed) (All-push (λ head. head < length nodes) before k c.loop-node.invariant.inside within);
          }
      | else-branch w ↦
          let same : after ≡ before = ap (λ (heads : Vec ℕ Global). heads.items) w.heads-is in
          record {
            heads = heads_without test k before after c.loop-node.invariant.heads (says ∙ w.if-branch.false) same;
            inside = subst P (sym same) c.loop-node.invariant.inside;
          }
    ]
