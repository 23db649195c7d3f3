use Rattle.std.proofs.Common.{ℕ, List, [], ◌∷◌, ◌++◌, map, take, All, sym, ◌∙◌, ap, subst}
use Rattle.std.proofs.lemmas.List.{take_more, map-append}
use Rattle.std.proofs.lemmas.List.Elements.{All-push}
use Rattle.vertex_builder.specs.declared.vertex.Vertex.{Vertex}
use Rattle.vertex_builder.specs.Vertices.{head_of, IsVertex}
use Rattle.vertex_builder.proofs.builder.vertices_of.Goals as goal

pub loop-head-preserved : goal.loop-head-preserved
loop-head-preserved c =
    let heads = c.args.heads.now in
    let k = c.loop-head.head-index in
    let made = c.loop-head.made.items in
    let vertex = c.in_ok-vertex_of.field-0 in
    let pushed = c.in_ok-push.ensures.items in
    let P : List Vertex → Type 0 = All (IsVertex c.args.links.now c.args.widened.now c.args.max_parallelism) in
    record {
      heads = ap (map head_of) pushed ∙ map-append head_of made (vertex ∷ [])
          ∙ ap (λ (front : List ℕ). front ++ head_of vertex ∷ []) c.loop-head.invariant.heads
          ∙ ap (λ (head : ℕ). take k heads ++ head ∷ []) c.in_ok-vertex_of.ensures.head
          ∙ sym (take_more heads k 0 c.loop-head-test.true);
      vertices = subst P (sym pushed) (All-push (IsVertex c.args.links.now c.args.widened.now c.args.max_parallelism) made vertex c.loop-head.invariant.vertices c.in_ok-vertex_of.ensures.vertex);
    }
