use Rattle.std.proofs.Common.{◌≡◌, ◌≢◌, ◌<◌, ℕ, List, length, map, get_or, sym, ◌∙◌, ap, subst, All}
use Rattle.std.specs.Prelude.{Contains}
use Rattle.std.proofs.lemmas.List.{get_or_default}
use Rattle.std.proofs.lemmas.List.Elements.{Contains-get_or}
use Rattle.graph_model.specs.States.{complete_nodes, made_nodes, no_vertex}
use Rattle.vertex_builder.specs.Vertices.{head_of, makeable_heads, IsVertex}
use Rattle.vertex_builder.specs.declared.vertex.Vertex.{Vertex}
use Rattle.graph_vertices.proofs.Next.{next_head, next_is, no_next}
use Rattle.graph_vertices.proofs.making.next_vertex.Goals as goal

pub returns-in-Some-clause-some : goal.returns-in-Some-clause-some
returns-in-Some-clause-some c =
    let plan = c.args.plan.now in
    let widened = c.args.widened.now in
    let most = c.args.settings.now.max_parallelism in
    let vs = c.args.vertices.now in
    let chain = c.args.chain.now in
    let able = c.into_vec-able.result.items in
    let it = c.swap_remove.result in
    let place = c.in-Some.place in
    let heads : map head_of able ≡ makeable_heads plan widened (made_nodes vs) (complete_nodes vs) =
    ap (map head_of) c.into_vec-able.ensures ∙ c.in_ok-makeable.ensures.heads ∙ ap (λ (l : List ℕ). makeable_heads plan widened l c.in_ok-complete.complete) c.in_ok-made.ensures
    ∙ ap (makeable_heads plan widened (made_nodes vs)) c.in_ok-complete.ensures in
    let are : All (IsVertex plan widened most) able = subst (All (IsVertex plan widened most)) (sym c.into_vec-able.ensures) c.in_ok-makeable.ensures.vertices in
    let lt : place < length able = subst (λ (l : List Vertex). place < length l) c.as_slice.ensures.value c.in-Some.ensures.within in
    let value : it ≡ get_or able place it = c.swap_remove.ensures.value in
    let has : Contains able it = subst (Contains able) (sym value) (Contains-get_or able place it lt) in
    let mine : it.nodes ≡ chain =
    ap (λ (v : Vertex). v.nodes) (value ∙ get_or_default able place it no_vertex.vertex lt)
    ∙ ap (λ (l : List Vertex). (get_or l place no_vertex.vertex).nodes) (sym c.as_slice.ensures.value) ∙ c.in-Some.ensures.chain ∙ c.as_slice-2.ensures in
    record {
      makeable = next_head plan widened (made_nodes vs) (complete_nodes vs) most able chain heads are it has mine;
      is = next_is plan widened (made_nodes vs) (complete_nodes vs) most able chain heads are it has;
      chain_is = mine;
    }

pub returns-clause-none : goal.returns-clause-none
returns-clause-none c =
    let plan = c.args.plan.now in
    let widened = c.args.widened.now in
    let most = c.args.settings.now.max_parallelism in
    let vs = c.args.vertices.now in
    let chain = c.args.chain.now in
    let able = c.into_vec-able.result.items in
    let heads : map head_of able ≡ makeable_heads plan widened (made_nodes vs) (complete_nodes vs) =
    ap (map head_of) c.into_vec-able.ensures ∙ c.in_ok-makeable.ensures.heads ∙ ap (λ (l : List ℕ). makeable_heads plan widened l c.in_ok-complete.complete) c.in_ok-made.ensures
    ∙ ap (makeable_heads plan widened (made_nodes vs)) c.in_ok-complete.ensures in
    let are : All (IsVertex plan widened most) able = subst (All (IsVertex plan widened most)) (sym c.into_vec-able.ensures) c.in_ok-makeable.ensures.vertices in
    let other : All (λ (vertex : Vertex). vertex.nodes ≢ chain) able =
    subst (λ (l : List Vertex). All (λ vertex. vertex.nodes ≢ chain) l) c.as_slice.ensures.value
    (subst (λ (l : List ℕ). All (λ vertex. vertex.nodes ≢ l) c.as_slice.result.now) c.as_slice-2.ensures c.in-None.ensures.none) in
    no_next plan widened (made_nodes vs) (complete_nodes vs) most able chain heads are other
