use Rattle.std.proofs.Common.{◌≡◌, ◌<◌, ℕ, List, [], ◌∷◌, ◌++◌, length, take, All, Option, Vec, Global, sym, ◌∙◌, ap, subst}
use Rattle.std.specs.List.{cons_option, filter_map}
use Rattle.std.proofs.lemmas.List.Elements.{All-push}
use Rattle.vertex_builder.specs.declared.edge.Edge.{Edge}
use Rattle.vertex_builder.specs.Vertices.{build_edge}
use Rattle.std.proofs.lemmas.List.{append-nil}
use Rattle.vertex_builder.proofs.EdgeLists.{mapped_next}
use Rattle.vertex_builder.proofs.chain.build_edges.Goals as goal
use Rattle.vertex_builder.proofs.chain.build_edges.Goals.{in-Some+in_ok-push, in_default}

pub loop-node-preserved : goal.loop-node-preserved
loop-node-preserved c =
    let nodes = c.args.links.now in
    let list = c.args.nodes.now in
    let k = c.loop-node.node-index in
    let h : ℕ → Option Edge = build_edge nodes c.args.widened.now in
    let P : List Edge → Type 0 = All (λ edge. edge.into < length nodes) in
    let before = c.loop-node.edges.items in
    let after = c.match-build_edge.edges.items in
    let next = mapped_next h list k 0 c.loop-node-test.true in
    let here = sym c.build_edge.ensures.edge in
    elim c.match-build_edge.branch [
      | in-Some+in_ok-push w ↦
          let edge = w.in-Some.edge in
          let pushed : after ≡ before ++ edge ∷ [] = ap (λ (edges : Vec Edge Global). edges.items) w.edges-is ∙ w.in_ok-push.ensures.items in
          record {
            edges = pushed ∙ ap (λ (l : List Edge). l ++ edge ∷ []) c.loop-node.invariant.edges
                ∙ ap (λ (o : Option Edge). filter_map h (take k list) ++ cons_option o []) (sym (here ∙ w.in-Some.is)) ∙ sym next;
            inside = subst P (sym pushed) (All-push (λ edge. edge.into < length nodes) before edge c.loop-node.invariant.inside w.in-Some.ensures.into);
          }
      | in_default w ↦
          let same : after ≡ before = ap (λ (edges : Vec Edge Global). edges.items) w.edges-is in
          record {
            edges = same ∙ c.loop-node.invariant.edges ∙ sym (append-nil (filter_map h (take k list)))
                ∙ ap (λ (o : Option Edge). filter_map h (take k list) ++ cons_option o []) (sym (here ∙ w.in_default.is)) ∙ sym next;
            inside = subst P (sym same) c.loop-node.invariant.inside;
          }
    ]
