-- In a valid state no node is in two vertices.
use Rattle.std.proofs.Common.{◌≡◌, ℕ, ◌<◌, ◌≤◌, List, [], length, sym, ◌∙◌, ap, arith, true, ⊎_elim}
use Rattle.std.proofs.lemmas.Bool.{cases_eq, cases_lt, false≢true}
use Rattle.plan_model.specs.Checks.{plan_faults}
use Rattle.vertex_builder.specs.Chains.{is_among}
use Rattle.vertex_builder.specs.Vertices.{head_of}
use Rattle.vertex_builder.proofs.Laws.{chains_part}
use Rattle.graph_model.specs.declared.made_vertex.MadeVertex.{MadeVertex}
use Rattle.graph_model.specs.Links.{SingleLaw}
use Rattle.graph_model.specs.States.{Given, State, vertex_at}
use Rattle.graph_model.specs.Valid.{IsValid}
use Rattle.graph_model.proofs.Linking.{among_at, begins, in_chain}

module _ (given : Given) (state : State) (good : plan_faults given.nodes ≡ []) (valid : IsValid given state) where
  abbrev vs : List MadeVertex
  vs = state.vertices

  abbrev head : ℕ → ℕ
  head v = head_of (vertex_at vs v).vertex

  has_head : (v : ℕ) → v < length vs → is_among (vertex_at vs v).vertex.nodes (head v) ≡ true
  has_head v lt = let start = begins (vertex_at vs v).vertex.nodes (head v) (valid.made v lt).is.chain.first in among_at (vertex_at vs v).vertex.nodes 0 start.0

  -- the heads of two vertices differ
  heads_differ : (u v : ℕ) → u < v → v < length vs → head u ≡ head v → ⊥
  heads_differ u v lt less same =
      let under : u < length vs = omega (arith, lt, less) in
      false≢true (sym (valid.apart u v lt less) ∙ ap (is_among (vertex_at vs u).vertex.nodes) (sym same) ∙ has_head u under)

  pub single : (u v node : ℕ) → u < length vs → v < length vs → is_among (vertex_at vs u).vertex.nodes node ≡ true → is_among (vertex_at vs v).vertex.nodes node ≡ true → u ≡ v
  single u v node lt less in_u in_v =
      let same : head u ≡ head v = (chains_part given.nodes state.widened good).one node (head u) (head v) (valid.made u lt).head (valid.made v less).head
      (in_chain given state good valid u node lt in_u) (in_chain given state good valid v node less in_v) in
      ⊎_elim
      (λ (e : u ≡ v). e)
      (λ (ne : u ≡ v → ⊥). ⊎_elim (λ (b : u < v). absurd (heads_differ u v b less same)) (λ (a : v ≤ u). absurd (heads_differ v u (omega (arith, a, ne)) lt (sym same))) (cases_lt u v))
      (cases_eq u v)

pub single_law : SingleLaw
single_law given state good valid u v node lt less in_u in_v = single given state good valid u v node lt less in_u in_v
