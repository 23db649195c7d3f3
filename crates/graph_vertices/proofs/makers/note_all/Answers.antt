use Rattle.std.proofs.Common.{◌≡◌, ◌+◌, ℕ, Bool, ◌||◌, Option, None, get_or, take, refl, sym, ◌∙◌, ap, nat_eq}
use Rattle.std.proofs.lemmas.List.Folds.{list_any_more}
use Rattle.vertex_builder.specs.Chains.{is_among}
use Rattle.graph_vertices.specs.Makers.{noted}
use Rattle.graph_vertices.proofs.NodeMakers.{noted_none, noted_twice}
use Rattle.graph_vertices.proofs.makers.note_all.Goals as goal

pub loop-place-init : goal.loop-place-init
loop-place-init c = (refl, λ n. sym (noted_none (get_or c.args.makers.now.items n None) c.args.vertex))

pub loop-place-preserved : goal.loop-place-preserved
loop-place-preserved c =
    let nodes = c.args.nodes.now in
    let place = c.loop-place.place in
    let old = c.args.makers.now.items in
    let v = c.args.vertex in (
      c.note_node.ensures.len ∙ c.loop-place.invariant.0,
      λ n.
          let here = nat_eq n (get_or nodes place 0) in
          let before = is_among (take place nodes) n in
          let more : is_among (take (place + 1) nodes) n ≡ (before || here) = list_any_more (nat_eq n) nodes place 0 c.loop-place-test.true in
          c.note_node.ensures.noted n ∙ ap (λ (o : Option ℕ). noted o here v) (c.loop-place.invariant.1 n)
          ∙ noted_twice (get_or old n None) before here v ∙ ap (λ (b : Bool). noted (get_or old n None) b v) (sym more),
    )
