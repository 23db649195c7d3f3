use Rattle.std.proofs.Common.{◌≡◌, ◌+◌, ◌<◌, ◌^◌, ◌++◌, ◌∷◌, [], ℕ, List, Option, None, get_or, length, sym, ◌∙◌, ap, subst, arith}
use Rattle.std.specs.Prelude.{count_by}
use Rattle.std.proofs.lemmas.List.{get_or_push, length_push}
use Rattle.vertex_builder.specs.Chains.{is_among}
use Rattle.graph_model.specs.declared.made_vertex.MadeVertex.{MadeVertex}
use Rattle.graph_model.specs.declared.subtask_state.SubtaskState.{SubtaskState}
use Rattle.graph_vertices.specs.Counts.{AreCounts, is_unwon, unwon_count}
use Rattle.graph_vertices.specs.Makers.{AreMakers, noted}
use Rattle.graph_vertices.proofs.Counted.{counts_push}
use Rattle.graph_vertices.proofs.NodeMakers.{makers_push}
use Rattle.graph_vertices.proofs.made_vertices.MadeVertices.push.Goals as goal

pub invariant_of-self-2 : goal.invariant_of-self-2
invariant_of-self-2 c =
    let vs = c.self.inside.items.items in
    let new = c.args.made in
    let old = c.self.inside.makers in
    let now = c.note.new.self in
    let len : c.len-vertex.result ≡ length vs = c.len-vertex.ensures ∙ c.self.inside.items.ok.0 in
    let all : c.push.new.self.items ≡ vs ++ new ∷ [] = c.in_ok-push.ensures.items in
    let it : c.index.result.now ≡ new =
    c.index.ensures ∙ ap (λ (l : List MadeVertex). get_or l c.len-vertex.result c.index.result.now) all ∙ get_or_push vs new c.index.result.now c.len-vertex.result (sym len) in
    let nodes : c.as_slice-3.result.now ≡ new.vertex.nodes = c.as_slice-3.ensures ∙ ap (λ (m : MadeVertex). m.vertex.nodes) it in
    let more : (n : ℕ) → get_or now n None ≡ noted (get_or old n None) (is_among new.vertex.nodes n) (length vs) = λ n.
    c.note.ensures n ∙ ap (λ (o : Option ℕ). noted o (is_among c.as_slice-3.result.now n) c.len-vertex.result) (c.cover.ensures.same n)
    ∙ ap (λ (l : List ℕ). noted (get_or old n None) (is_among l n) c.len-vertex.result) nodes
    ∙ ap (λ (k : ℕ). noted (get_or old n None) (is_among new.vertex.nodes n) k) len in
    let few : length vs < 2 ^ 32 = subst (λ (l : List MadeVertex). length l < 2 ^ 32) (sym c.self.view_is) c.requires in
    let long : length c.push.new.self.items ≡ length vs + 1 = ap (λ (l : List MadeVertex). length l) all ∙ length_push vs new in
    let counts = c.self.inside.unwon.items in
    let counted : c.count_unwon-unwon.result ≡ unwon_count new = c.count_unwon-unwon.ensures ∙ ap (λ (l : List SubtaskState). count_by is_unwon l) c.as_slice.ensures.same in
    let numbers : c.push_reserved.new.self.items ≡ counts ++ unwon_count new ∷ [] =
    c.push_reserved.ensures.items ∙ ap (λ (l : List ℕ). l ++ c.count_unwon-unwon.result ∷ []) c.reserve.ensures.items ∙ ap (λ (n : ℕ). counts ++ n ∷ []) counted in (
      omega (arith, few, long),
      subst (λ (l : List MadeVertex). AreMakers l now) (sym all) (makers_push vs new old now c.self.invariant.1 more),
      subst (λ (l : List ℕ). AreCounts c.push.new.self.items l) (sym numbers) (subst (λ (l : List MadeVertex). AreCounts l (counts ++ unwon_count new ∷ [])) (sym all) (counts_push vs counts new c.self.invariant.2)),
    )
