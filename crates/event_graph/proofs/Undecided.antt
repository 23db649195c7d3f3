-- How many nodes are in no decided vertex, as events come.
use Rattle.std.proofs.Common.{◌≡◌, ℕ, ◌+◌, ◌<◌, Bool, true, false, not, List, [], length, map, get_or, refl, sym, ◌∙◌, ap, subst, arith, nat_eq, All}
use Rattle.std.specs.Prelude.{nat_lt}
use Rattle.std.specs.List.{IsDistinct, range_with_len}
use Rattle.std.proofs.lemmas.Bool.{false≢true}
use Rattle.std.proofs.lemmas.Bool.Decides.{nat_tests}
use Rattle.std.proofs.lemmas.List.{length-map, get_or-set_same, get_or-set_other}
use Rattle.std.proofs.lemmas.List.Folds.{list_any_at}
use Rattle.std.proofs.lemmas.List.FromFn.{length-range_with_len}
use Rattle.plan_model.specs.Checks.{plan_faults}
use Rattle.rect_cover.specs.Cells.{Reads}
use Rattle.vertex_builder.specs.Chains.{is_among, chain_of}
use Rattle.vertex_builder.specs.Vertices.{head_of}
use Rattle.vertex_builder.proofs.Laws.{chains_part, one_chain, same_yes}
use Rattle.graph_model.specs.declared.made_vertex.MadeVertex.{MadeVertex}
use Rattle.graph_model.specs.Legal.{MayDecide}
use Rattle.graph_model.specs.States.{Given, State, no_vertex, vertex_at, subtasks_at, maker, is_decided, put_decision, unwon}
use Rattle.graph_model.specs.Valid.{IsValid}
use Rattle.graph_model.proofs.Laws.{KeepsReads, maker-set, maker_has, same_count, single_law}
use Rattle.graph_vertices.proofs.Laws.{maker_first}
use Rattle.event_graph.specs.Kept.{is_undecided, undecided_nodes}
use Rattle.event_graph.proofs.Counting.{among_counted, all_counted, below_each, counted_none, counts_apart, counts_same, each_below, none_counted, one_if}

-- winners come and go
pub undecided_kept : (given : Given) (vs us : List MadeVertex) → KeepsReads vs us → undecided_nodes given vs ≡ undecided_nodes given us
undecided_kept given vs us keeps = counts_same (is_undecided vs) (is_undecided us) (range_with_len 0 (length given.nodes))
    (λ node. sym (ap (λ (v : ℕ). not (nat_lt 0 (length (subtasks_at us v)))) (keeps.makers node) ∙ ap (λ (n : ℕ). not (nat_lt 0 n)) (same_count vs us keeps (maker vs node))))

-- nothing is made
pub none_undecided : (given : Given) → undecided_nodes given [] ≡ length given.nodes
none_undecided given = all_counted (is_undecided []) (range_with_len 0 (length given.nodes)) (λ node. refl) ∙ length-range_with_len 0 (length given.nodes)

not_false : (b : Bool) → not b ≡ false → b ≡ true
not_false true e = refl
not_false false e = sym e

-- each node is in a decided vertex where none is counted
pub all_decided : (given : Given) (vs : List MadeVertex) → undecided_nodes given vs ≡ 0 → (node : ℕ) → node < length given.nodes → is_decided (vertex_at vs (maker vs node)) ≡ true
all_decided given vs none node lt =
    let n = length given.nodes in
    let unmarked : ℕ → Type 0 = λ k. is_undecided vs k ≡ false in
    not_false (is_decided (vertex_at vs (maker vs node))) (below_each unmarked n (none_counted (is_undecided vs) (range_with_len 0 n) none) node lt)

pub decided_all : (given : Given) (vs : List MadeVertex) → ((node : ℕ) → node < length given.nodes → is_decided (vertex_at vs (maker vs node)) ≡ true) → undecided_nodes given vs ≡ 0
decided_all given vs all =
    let n = length given.nodes in
    let unmarked : ℕ → Type 0 = λ k. is_undecided vs k ≡ false in
    counted_none (is_undecided vs) (range_with_len 0 n) (each_below unmarked n (λ k lt. ap not (all k lt)))

-- ---- a vertex is decided

module _ (given : Given) (state : State) (v : ℕ) (decision : List Reads) (good : plan_faults given.nodes ≡ []) (valid : IsValid given state) (may : MayDecide given state v decision) where
  abbrev vs : List MadeVertex
  vs = state.vertices

  abbrev us : List MadeVertex
  us = put_decision vs v decision

  abbrev chain : List ℕ
  chain = (vertex_at vs v).vertex.nodes

  abbrev changed : MadeVertex
  changed = record (vertex_at vs v) { subtasks = map unwon decision }

  -- the nodes of a vertex differ, and are the plan's
  is_chain : chain ≡ chain_of given.nodes state.widened (head_of (vertex_at vs v).vertex)
  is_chain =
      let head = head_of (vertex_at vs v).vertex in
      one_chain given.nodes state.widened head chain (chain_of given.nodes state.widened head) (valid.made v may.decidable.made).is.chain ((chains_part given.nodes state.widened good).chains head)

  distinct : IsDistinct nat_eq chain
  distinct = subst (IsDistinct nat_eq) (sym is_chain) ((chains_part given.nodes state.widened good).once (head_of (vertex_at vs v).vertex))

  small : All (λ node. node < length given.nodes) chain
  small k d lt =
      let head = head_of (vertex_at vs v).vertex in
      let node = get_or chain k d in
      let inside : is_among chain node ≡ true = list_any_at (nat_eq node) chain k d lt (same_yes node) in
      (chains_part given.nodes state.widened good).inside head node (valid.made v may.decidable.made).within (ap (λ (l : List ℕ). is_among l node) (sym is_chain) ∙ inside)

  makers : (node : ℕ) → maker us node ≡ maker vs node
  makers node = maker-set vs v node changed refl

  decided_now : is_decided (vertex_at us v) ≡ true
  decided_now =
      let some = may.cover.some in
      ap is_decided (get_or-set_same vs v changed no_vertex may.decidable.made) ∙ ap (nat_lt 0) (length-map decision unwon) ∙ more (length decision) some
    where
      more : (n : ℕ) → 0 < n → nat_lt 0 n ≡ true
      more n lt = grind (arith, nat_tests)

  -- its own nodes have it alone
  own : (node : ℕ) → is_among chain node ≡ true → maker vs node ≡ v
  own node is =
      let made = may.decidable.made in
      let first = maker_first vs v node made is in
      let under : maker vs node < length vs = omega (arith, first, made) in
      single_law given state good valid (maker vs node) v node under made (maker_has vs node under) is

  other : (node : ℕ) → is_among chain node ≡ false → maker vs node ≡ v → ⊥
  other node is same =
      let under : maker vs node < length vs = subst (λ (u : ℕ). u < length vs) (sym same) may.decidable.made in
      false≢true (sym is ∙ ap (λ (u : ℕ). is_among (vertex_at vs u).vertex.nodes node) (sym same) ∙ maker_has vs node under)

  each : (node : ℕ) (among : Bool) → is_among chain node ≡ among → one_if (is_undecided vs node) ≡ one_if (is_undecided us node) + one_if among
  each node true is =
      let same = own node is in
      let before : one_if (is_undecided vs node) ≡ 1 = ap (λ (u : ℕ). one_if (not (is_decided (vertex_at vs u)))) same ∙ ap (λ (b : Bool). one_if (not b)) may.decidable.undecided in
      let after : one_if (is_undecided us node) ≡ 0 = ap (λ (u : ℕ). one_if (not (is_decided (vertex_at us u)))) (makers node ∙ same) ∙ ap (λ (b : Bool). one_if (not b)) decided_now in
      omega (arith, before, after)
  each node false is =
      let same : is_undecided us node ≡ is_undecided vs node =
      ap (λ (u : ℕ). not (is_decided (vertex_at us u))) (makers node) ∙ ap (λ (m : MadeVertex). not (is_decided m)) (get_or-set_other vs v (maker vs node) changed no_vertex (other node is)) in
      let e = ap (λ (b : Bool). one_if b) same in
      omega (arith, e)

  -- by as many nodes fewer as the vertex has
  pub undecided_less : undecided_nodes given vs ≡ undecided_nodes given us + length chain
  undecided_less =
      let range = range_with_len 0 (length given.nodes) in
      let split = counts_apart (is_undecided vs) (is_undecided us) (is_among chain) range (λ node. each node (is_among chain node) refl) in
      let mine = among_counted chain (length given.nodes) distinct small in
      omega (arith, split, mine)
