-- Heads that can be made, by marks of the nodes.
use Rattle.std.proofs.Common.{◌≡◌, ℕ, zero, suc, ◌+◌, ◌<◌, Bool, true, false, not, ◌&&◌, cond, List, [], ◌∷◌, ◌++◌, length, map, filter, drop, get_or, Option, Some, None, slice_get, refl, sym, ◌∙◌, ap, subst, arith}
use Rattle.std.specs.List.{cons_option, filter_map, list_all, range_with_len, AllByRecursion}
use Rattle.std.specs.Option.{option_map, option_map_or}
use Rattle.std.proofs.lemmas.List.{append-nil}
use Rattle.std.proofs.lemmas.List.Folds.{list_all-append, list_all-map}
use Rattle.std.proofs.lemmas.List.Elements.{filter-append, recursion_from_All}
use Rattle.std.proofs.lemmas.Option.{slice_get_within}
use Rattle.plan_model.specs.Checks.{plan_faults}
use Rattle.vertex_builder.specs.declared.widening.Widening.{Widening}
use Rattle.plan_model.specs.declared.node.Node.{Node}
use Rattle.vertex_builder.specs.Edges.{build_place, build_side, is_head}
use Rattle.vertex_builder.specs.Chains.{is_among, chain_of}
use Rattle.vertex_builder.specs.Vertices.{build_edge, chain_builds, inputs_at, is_makeable, nodes_taken}
use Rattle.vertex_builder.specs.Links.{Marks}
use Rattle.vertex_builder.proofs.Membership.{all_map}
use Rattle.vertex_builder.specs.declared.edge.Edge.{Edge}
use Rattle.plan_model.specs.declared.side.Side.{Side}
use Rattle.vertex_builder.proofs.EdgeLists.{range_more}
use Rattle.plan_model.proofs.Laws.{inputs_earlier}

-- the marks of all nodes, as they are kept
pub marks_of_all : (set : List ℕ) (all count : ℕ) (kept marks : List Bool) → count ≡ all → marks ≡ kept → Marks set count kept → Marks set all marks
marks_of_all set all count kept marks e same h =
    let P : List Bool → Type 0 = λ m. Marks set all m in
    subst P (sym same) (subst (λ (n : ℕ). Marks set n kept) e h)

all_agree : {X : Type 0} (P : X → Type 0) (p q : X → Bool) (xs : List X) → AllByRecursion P xs → ((x : X) → P x → p x ≡ q x) → list_all p xs ≡ list_all q xs
all_agree P p q [] each e = refl
all_agree P p q (x ∷ xs) each e = (λ i. e x each.0 i && all_agree P p q xs each.1 e i)

below_at : (n : ℕ) (xs : List ℕ) (k : ℕ) → 0 < n → AllByRecursion (λ x. x < n) xs → get_or xs k 0 < n
below_at n [] k some each = some
below_at n (x ∷ xs) zero some each = each.0
below_at n (x ∷ xs) (suc k) some each = below_at n xs k some each.1

-- the inputs of a node stand in the plan
inputs_within : (nodes : List Node) (node : ℕ) → plan_faults nodes ≡ [] → AllByRecursion (λ input. input < length nodes) (inputs_at nodes node)
inputs_within nodes node good = at (slice_get nodes node) refl
  where
    at : (o : Option Node) → slice_get nodes node ≡ o → AllByRecursion (λ input. input < length nodes) (option_map_or (λ n. n.inputs) o [])
    at None is = tt
    at (Some it) is =
        let within = slice_get_within nodes node it is in
        all_map (λ input. input < node) (λ input. input < length nodes) it.inputs
        (recursion_from_All (λ input. input < node) it.inputs (inputs_earlier nodes node it good is))
        (λ input lt. omega (arith, lt, within))

-- so do the build sides of joins
builds_within : (nodes : List Node) (widened : List Widening) (chain : List ℕ) → plan_faults nodes ≡ [] → 0 < length nodes → AllByRecursion (λ edge. edge.from < length nodes) (filter_map (build_edge nodes widened) chain)
builds_within nodes widened [] good some = tt
builds_within nodes widened (node ∷ chain) good some = at (build_side nodes widened node) (builds_within nodes widened chain good some)
  where
    edge_of : Side → Edge
    edge_of side = record { from = get_or (inputs_at nodes node) (build_place side) 0; into = node; place = build_place side }

    at : (o : Option Side) → AllByRecursion (λ edge. edge.from < length nodes) (filter_map (build_edge nodes widened) chain)
        → AllByRecursion (λ edge. edge.from < length nodes) (cons_option (option_map edge_of o) (filter_map (build_edge nodes widened) chain))
    at None rest = rest
    at (Some side) rest = (below_at (length nodes) (inputs_at nodes node) (build_place side) some (inputs_within nodes node good), rest)

-- what is taken by a vertex, by its head's inputs and its build sides
pub all_taken : (nodes : List Node) (widened : List Widening) (node : ℕ) (p : ℕ → Bool)
    → list_all p (nodes_taken nodes widened node) ≡ (list_all p (inputs_at nodes node) && list_all (λ edge. p edge.from) (chain_builds nodes widened (chain_of nodes widened node)))
all_taken nodes widened node p =
    let builds = chain_builds nodes widened (chain_of nodes widened node) in
    list_all-append p (inputs_at nodes node) (map (λ (edge : Edge). edge.from) builds)
    ∙ ap (λ (b : Bool). list_all p (inputs_at nodes node) && b) (list_all-map p (λ (edge : Edge). edge.from) builds)

pub ready : (nodes : List Node) (widened : List Widening) (made complete : List ℕ) (made_marks complete_marks : List Bool) (node : ℕ) → plan_faults nodes ≡ [] → node < length nodes → Marks made (length nodes) made_marks → Marks complete (length nodes) complete_marks
    → (is_head nodes widened node && not (get_or made_marks node false) && list_all (λ input. get_or complete_marks input false) (nodes_taken nodes widened node)) ≡ is_makeable nodes widened made complete node
ready nodes widened made complete made_marks complete_marks node faultless lt m c =
    let p : ℕ → Bool = λ input. get_or complete_marks input false in
    let q : ℕ → Bool = is_among complete in
    let chain = chain_of nodes widened node in
    let inputs = all_agree (λ input. input < length nodes) p q (inputs_at nodes node) (inputs_within nodes node faultless) (λ x below. c.at x below) in
    let builds = all_agree (λ (edge : Edge). edge.from < length nodes) (λ (edge : Edge). p edge.from) (λ (edge : Edge). q edge.from) (chain_builds nodes widened chain)
    (builds_within nodes widened (drop 1 chain) faultless (omega (arith, lt))) (λ edge below. c.at edge.from below) in
    let taken = all_taken nodes widened node p ∙ (λ i. inputs i && builds i) ∙ sym (all_taken nodes widened node q) in
    (λ i. is_head nodes widened node && not (m.at node lt i) && taken i)

-- a head that is not made and whose inputs are complete, by the build sides in its chain
pub by_builds : (nodes : List Node) (widened : List Widening) (node : ℕ) (p : ℕ → Bool) (marked : Bool) → is_head nodes widened node ≡ true → marked ≡ false → list_all p (inputs_at nodes node) ≡ true
    → list_all (λ edge. p edge.from) (chain_builds nodes widened (chain_of nodes widened node)) ≡ (is_head nodes widened node && not marked && list_all p (nodes_taken nodes widened node))
by_builds nodes widened node p marked head unmade complete =
    let builds = list_all (λ (edge : Edge). p edge.from) (chain_builds nodes widened (chain_of nodes widened node)) in
    let taken = all_taken nodes widened node p ∙ ap (λ (b : Bool). b && builds) complete in
    sym (λ i. head i && not (unmade i) && taken i)

module _ (p : ℕ → Bool) (k : ℕ) (heads more : List ℕ) (so_far : heads ≡ filter p (range_with_len 0 k)) where
  next : (here : Bool) → p k ≡ here → filter p (range_with_len 0 (k + 1)) ≡ heads ++ cond here (k ∷ []) []
  next here e =
      ap (filter p) (range_more k) ∙ filter-append p (range_with_len 0 k) (k ∷ [])
      ∙ ap (λ (b : Bool). filter p (range_with_len 0 k) ++ cond b (k ∷ []) []) e
      ∙ ap (λ (front : List ℕ). front ++ cond here (k ∷ []) []) (sym so_far)

  pub heads_with : p k ≡ true → more ≡ heads ++ k ∷ [] → more ≡ filter p (range_with_len 0 (k + 1))
  heads_with e pushed = pushed ∙ sym (next true e)

  pub heads_without : p k ≡ false → more ≡ heads → more ≡ filter p (range_with_len 0 (k + 1))
  heads_without e same = same ∙ sym (append-nil heads) ∙ sym (next false e)
