-- Chains, one node more at a time, and that a head has one.
use Rattle.std.proofs.Common.{◌≡◌, ℕ, zero, suc, ◌+◌, ◌-◌, ◌<◌, ◌≤◌, All, List, [], ◌∷◌, ◌++◌, length, map, drop, get_or, Option, Some, None, slice_get, refl, sym, ◌∙◌, ap, subst, inl, inr, ◌⊎◌, arith}
use Rattle.std.proofs.lemmas.Bool.{cases_lt}
use Rattle.std.proofs.lemmas.List.{length_push}
use Rattle.std.proofs.lemmas.List.Elements.{All-push, All-cons, All-nil, recursion_from_All}
use Rattle.std.proofs.lemmas.Option.{slice_get_within, slice_get_past, slice_get-get_or, get_or_from_slice_get}
use Rattle.vertex_builder.specs.declared.widening.Widening.{Widening}
use Rattle.plan_model.specs.declared.node.Node.{Node}
use Rattle.vertex_builder.specs.Edges.{chained_after}
use Rattle.std.specs.List.{AllByRecursion}
use Rattle.vertex_builder.specs.Chains.{IsChain, OneChain}
use Rattle.vertex_builder.specs.Vertices.{head_of, vertex_inputs, vertex_outputs, IsVertex, OneAnswer}
use Rattle.vertex_builder.specs.declared.vertex.Vertex.{Vertex}

-- ---- lists

module _ {X : Type 0} where
  get_left : (xs ys : List X) (k : ℕ) → k < length xs → slice_get (xs ++ ys) k ≡ slice_get xs k
  get_left [] ys k lt = absurd (omega arith)
  get_left (x ∷ xs) ys zero lt = refl
  get_left (x ∷ xs) ys (suc k) lt = get_left xs ys k (omega (arith, lt))

  get_last : (xs : List X) (y : X) → slice_get (xs ++ y ∷ []) (length xs) ≡ Some y
  get_last [] y = refl
  get_last (x ∷ xs) y = get_last xs y

  or_left : (xs ys : List X) (k : ℕ) (d : X) → k < length xs → get_or (xs ++ ys) k d ≡ get_or xs k d
  or_left [] ys k d lt = absurd (omega arith)
  or_left (x ∷ xs) ys zero d lt = refl
  or_left (x ∷ xs) ys (suc k) d lt = or_left xs ys k d (omega (arith, lt))

  same_item : (x y : X) → Some x ≡ Some y → x ≡ y
  same_item x y e = ap (λ (o : Option X). or_else o) e
    where
      or_else : Option X → X
      or_else None = x
      or_else (Some z) = z

  same_lists : (xs ys : List X) → ((k : ℕ) → slice_get xs k ≡ slice_get ys k) → xs ≡ ys
  same_lists [] [] e = refl
  same_lists [] (y ∷ ys) e = let first = e 0 in search first
  same_lists (x ∷ xs) [] e = let first = e 0 in search first
  same_lists (x ∷ xs) (y ∷ ys) e =
      ap (λ (z : X). z ∷ xs) (same_item x y (e 0)) ∙ ap (λ (zs : List X). y ∷ zs) (same_lists xs ys (λ k. e (suc k)))

-- ---- a chain that is not at its end

pub record IsFront (nodes : List Node) (widened : List Widening) (head : ℕ) (chain : List ℕ) (last : ℕ) : Type 0 where
  pub first : slice_get chain 0 ≡ Some head
  pub next : (k : ℕ) → k + 1 < length chain → slice_get chain (k + 1) ≡ chained_after nodes widened (get_or chain k 0)
  pub back : (k : ℕ) → k + 1 ≡ length chain → get_or chain k 0 ≡ last
  pub inside : All (λ node. node < length nodes) chain

pub front_one : (nodes : List Node) (widened : List Widening) (head : ℕ) → head < length nodes → IsFront nodes widened head (head ∷ []) head
front_one nodes widened head lt = record {
  first = refl;
  next = λ k below. absurd (omega (arith, below));
  back = back_one;
  inside = All-cons (λ node. node < length nodes) head [] lt (All-nil (λ node. node < length nodes));
}
  where
    back_one : (k : ℕ) → k + 1 ≡ 1 → get_or (head ∷ []) k 0 ≡ head
    back_one zero e = refl
    back_one (suc k) e = absurd (omega (arith, e))

pub front_more : (nodes : List Node) (widened : List Widening) (head : ℕ) (chain : List ℕ) (last next : ℕ) → IsFront nodes widened head chain last → chained_after nodes widened last ≡ Some next → next < length nodes → IsFront nodes widened head (chain ++ next ∷ []) next
front_more nodes widened head chain last next front after lt = record {
  first = get_left chain (next ∷ []) 0 some ∙ front.first;
  next = λ k below. at k below (cases_lt (k + 1) (length chain));
  back = λ k e. get_or_from_slice_get (chain ++ next ∷ []) k next 0 (ap (slice_get (chain ++ next ∷ [])) (end k e) ∙ get_last chain next);
  inside = All-push (λ node. node < length nodes) chain next front.inside lt;
}
  where
    some : 0 < length chain
    some = slice_get_within chain 0 head front.first

    end : (k : ℕ) → k + 1 ≡ length (chain ++ next ∷ []) → k ≡ length chain
    end k e = omega (arith, e, length_push chain next)

    at : (k : ℕ) → k + 1 < length (chain ++ next ∷ []) → (k + 1 < length chain) ⊎ (length chain ≤ k + 1) → slice_get (chain ++ next ∷ []) (k + 1) ≡ chained_after nodes widened (get_or (chain ++ next ∷ []) k 0)
    at k below (inl inner) = get_left chain (next ∷ []) (k + 1) inner ∙ front.next k inner ∙ ap (chained_after nodes widened) (sym (or_left chain (next ∷ []) k 0 (omega (arith, inner))))
    at k below (inr outer) =
        let e : k + 1 ≡ length chain = omega (arith, below, outer, length_push chain next) in
        ap (slice_get (chain ++ next ∷ [])) e ∙ get_last chain next ∙ sym after
        ∙ ap (chained_after nodes widened) (sym (or_left chain (next ∷ []) k 0 (omega (arith, e)) ∙ front.back k e))

pub front_done : (nodes : List Node) (widened : List Widening) (head : ℕ) (chain : List ℕ) (last : ℕ) → IsFront nodes widened head chain last → chained_after nodes widened last ≡ None → IsChain nodes widened head chain
front_done nodes widened head chain last front after = record {
  first = front.first;
  next = λ k below. at k below (cases_lt (k + 1) (length chain));
}
  where
    at : (k : ℕ) → k < length chain → (k + 1 < length chain) ⊎ (length chain ≤ k + 1) → slice_get chain (k + 1) ≡ chained_after nodes widened (get_or chain k 0)
    at k below (inl inner) = front.next k inner
    at k below (inr outer) =
        let e : k + 1 ≡ length chain = omega (arith, below, outer) in
        slice_get_past chain (k + 1) outer ∙ sym after ∙ ap (chained_after nodes widened) (sym (front.back k e))

-- ---- one chain

module _ (nodes : List Node) (widened : List Widening) (head : ℕ) (a b : List ℕ) (of_a : IsChain nodes widened head a) (of_b : IsChain nodes widened head b) where
  same_next : (k : ℕ) → slice_get a k ≡ slice_get b k → (k < length a) ⊎ (length a ≤ k) → (k < length b) ⊎ (length b ≤ k) → slice_get a (suc k) ≡ slice_get b (suc k)
  same_next k here (inl in_a) (inl in_b) =
      let on : suc k ≡ k + 1 = omega arith in
      let item : get_or a k 0 ≡ get_or b k 0 = same_item (get_or a k 0) (get_or b k 0) (sym (slice_get-get_or a k 0 in_a) ∙ here ∙ slice_get-get_or b k 0 in_b) in
      ap (slice_get a) on ∙ of_a.next k in_a ∙ ap (chained_after nodes widened) item ∙ sym (of_b.next k in_b) ∙ ap (slice_get b) (sym on)
  same_next k here (inl in_a) (inr past_b) =
      let both : Some (get_or a k 0) ≡ None = sym (slice_get-get_or a k 0 in_a) ∙ here ∙ slice_get_past b k past_b in search both
  same_next k here (inr past_a) (inl in_b) =
      let both : Some (get_or b k 0) ≡ None = sym (slice_get-get_or b k 0 in_b) ∙ sym here ∙ slice_get_past a k past_a in search both
  same_next k here (inr past_a) (inr past_b) = slice_get_past a (suc k) (omega (arith, past_a)) ∙ sym (slice_get_past b (suc k) (omega (arith, past_b)))

  same_at : (k : ℕ) → slice_get a k ≡ slice_get b k
  same_at zero = of_a.first ∙ sym of_b.first
  same_at (suc k) = same_next k (same_at k) (cases_lt k (length a)) (cases_lt k (length b))

pub one_chain : OneChain
one_chain nodes widened head a b of_a of_b = same_lists a b (same_at nodes widened head a b of_a of_b)

-- ---- one vertex

same_first : (x y : ℕ) (xs ys : List ℕ) → x ∷ xs ≡ y ∷ ys → x ≡ y
same_first x y xs ys e = ap (λ (l : List ℕ). get_or l 0 0) e

same_rest : (x y : ℕ) (xs ys : List ℕ) → x ∷ xs ≡ y ∷ ys → xs ≡ ys
same_rest x y xs ys e = ap (drop 1) e

module _ (nodes : List Node) (widened : List Widening) (max_parallelism : ℕ) where
  one_vertex : (a b : Vertex) → IsVertex nodes widened max_parallelism a → IsVertex nodes widened max_parallelism b → head_of a ≡ head_of b → a ≡ b
  one_vertex a b of_a of_b e =
      let chain : a.nodes ≡ b.nodes = one_chain nodes widened (head_of b) a.nodes b.nodes (subst (λ (head : ℕ). IsChain nodes widened head a.nodes) e of_a.chain) of_b.chain in
      let inputs : a.inputs ≡ b.inputs = of_a.inputs ∙ ap (vertex_inputs nodes widened) chain ∙ sym of_b.inputs in
      let outputs : a.outputs ≡ b.outputs = of_a.outputs ∙ ap (λ (l : List ℕ). vertex_outputs nodes max_parallelism (get_or l (length l - 1) 0)) chain ∙ sym of_b.outputs in
      (λ i. record { nodes = chain i; inputs = inputs i; outputs = outputs i })

  all_same : (a b : List Vertex) → AllByRecursion (IsVertex nodes widened max_parallelism) a → AllByRecursion (IsVertex nodes widened max_parallelism) b → map head_of a ≡ map head_of b → a ≡ b
  all_same [] [] of_a of_b e = refl
  all_same [] (y ∷ b) of_a of_b e = search e
  all_same (x ∷ a) [] of_a of_b e = search e
  all_same (x ∷ a) (y ∷ b) of_a of_b e =
      ap (λ (z : Vertex). z ∷ a) (one_vertex x y of_a.0 of_b.0 (same_first (head_of x) (head_of y) (map head_of a) (map head_of b) e))
      ∙ ap (λ (zs : List Vertex). y ∷ zs) (all_same a b of_a.1 of_b.1 (same_rest (head_of x) (head_of y) (map head_of a) (map head_of b) e))

pub one_answer : OneAnswer
one_answer nodes widened max_parallelism a b of_a of_b e =
    all_same nodes widened max_parallelism a b (recursion_from_All (IsVertex nodes widened max_parallelism) a of_a) (recursion_from_All (IsVertex nodes widened max_parallelism) b of_b) e
