-- The heads made, round by round.
use Rattle.std.proofs.Common.{◌≡◌, ℕ, zero, suc, ◌+◌, ◌<◌, ◌≤◌, ◌⊎◌, inl, inr, List, [], ◌∷◌, ◌++◌, length, take, get_or, refl, sym, ◌∙◌, ap, arith, length-append}
use Rattle.std.proofs.lemmas.Bool.{cases_lt}
use Rattle.std.proofs.lemmas.Grind.{flat_map-append}
use Rattle.std.proofs.lemmas.List.{append-nil, take_all, take_more, take-append-le}
use Rattle.vertex_builder.specs.declared.widening.Widening.{Widening}
use Rattle.plan_model.specs.declared.node.Node.{Node}
use Rattle.vertex_builder.specs.Vertices.{makeable_heads}
use Rattle.vertex_builder.specs.Chains.{chain_of}
use Rattle.plan_text.specs.Making.{nodes_of_vertices, heads_made}

-- ---- no round after the last vertex is complete makes more

no_item : (xs : List ℕ) → length xs ≤ 0 → xs ≡ []
no_item [] le = refl
no_item (x ∷ xs) le = absurd (omega (arith, le))

-- what is made where these heads are made, and this many of their vertices are complete
abbrev made_next : List Node → List Widening → ℕ → List ℕ → List ℕ
made_next nodes widened complete made = made ++ makeable_heads nodes widened made (nodes_of_vertices nodes widened (take complete made))

nothing_added : (made more : List ℕ) (n : ℕ) → n < length made → length (made ++ more) ≤ suc n → made ++ more ≡ made
nothing_added made more n lt le =
    ap (λ (l : List ℕ). made ++ l) (no_item more (omega (arith, lt, le, length-append made more))) ∙ append-nil made

added_or_not : (nodes : List Node) (widened : List Widening) (k : ℕ) → length (heads_made nodes widened (suc k)) ≤ suc k → (length (heads_made nodes widened k) ≤ k → heads_made nodes widened (suc k) ≡ heads_made nodes widened k)
    → (k < length (heads_made nodes widened k)) ⊎ (length (heads_made nodes widened k) ≤ k) → heads_made nodes widened (suc k) ≡ heads_made nodes widened k
added_or_not nodes widened k le before (inl lt) =
    let made = heads_made nodes widened k in
    nothing_added made (makeable_heads nodes widened made (nodes_of_vertices nodes widened (take (suc k) made))) k lt le
added_or_not nodes widened k le before (inr past) = before past

pub settles : (nodes : List Node) (widened : List Widening) (k : ℕ) → length (heads_made nodes widened k) ≤ k → heads_made nodes widened (suc k) ≡ heads_made nodes widened k
settles nodes widened zero le = ap (made_next nodes widened 1) (no_item (heads_made nodes widened zero) le)
settles nodes widened (suc k) le =
    let made = heads_made nodes widened k in
    let more = makeable_heads nodes widened made (nodes_of_vertices nodes widened (take (suc k) made)) in
    let fits : length made ≤ suc k = omega (arith, le, length-append made more) in
    let all : take (suc (suc k)) made ≡ take (suc k) made = take_all (suc (suc k)) made (omega (arith, fits)) ∙ sym (take_all (suc k) made fits) in
    ap (made_next nodes widened (suc (suc k))) (added_or_not nodes widened k le (settles nodes widened k) (cases_lt k (length made)))
    ∙ ap (λ (l : List ℕ). made ++ makeable_heads nodes widened made (nodes_of_vertices nodes widened l)) all

-- where all vertices are complete, more rounds make no more
pub settled : (nodes : List Node) (widened : List Widening) (k n : ℕ) → k ≤ n → length (heads_made nodes widened k) ≤ k → heads_made nodes widened n ≡ heads_made nodes widened k
settled nodes widened k zero le past = let end : zero ≡ k = omega (arith, le) in ap (heads_made nodes widened) end
settled nodes widened k (suc n) le past = last (settled nodes widened k n) (cases_lt k (suc n))
  where
    last : (k ≤ n → length (heads_made nodes widened k) ≤ k → heads_made nodes widened n ≡ heads_made nodes widened k) → (k < suc n) ⊎ (suc n ≤ k) → heads_made nodes widened (suc n) ≡ heads_made nodes widened k
    last same (inl lt) =
        let before = same (omega (arith, lt)) past in
        settles nodes widened n (omega (arith, ap length before, past, lt)) ∙ before
    last same (inr ge) = let end : suc n ≡ k = omega (arith, ge, le) in ap (heads_made nodes widened) end

-- ---- one round

-- the heads made and the nodes of complete vertices, once this many vertices are complete
pub record AfterRounds (nodes : List Node) (widened : List Widening) (k : ℕ) (heads complete : List ℕ) : Type 0 where
  pub made : heads ≡ heads_made nodes widened k
  pub done : complete ≡ nodes_of_vertices nodes widened (take k (heads_made nodes widened k))

nodes_with : (nodes : List Node) (widened : List Widening) (heads : List ℕ) (k : ℕ) → k < length heads
    → nodes_of_vertices nodes widened (take (k + 1) heads) ≡ nodes_of_vertices nodes widened (take k heads) ++ chain_of nodes widened (get_or heads k 0)
nodes_with nodes widened heads k lt =
    let head = get_or heads k 0 in
    ap (nodes_of_vertices nodes widened) (take_more heads k 0 lt)
    ∙ flat_map-append (chain_of nodes widened) (take k heads) (head ∷ [])
    ∙ ap (λ (l : List ℕ). nodes_of_vertices nodes widened (take k heads) ++ l) (append-nil (chain_of nodes widened head))

pub round : (nodes : List Node) (widened : List Widening) (k : ℕ) (heads complete chain after : List ℕ) → AfterRounds nodes widened k heads complete → k < length heads → chain ≡ chain_of nodes widened (get_or heads k 0)
    → after ≡ heads ++ makeable_heads nodes widened heads (complete ++ chain) → AfterRounds nodes widened (k + 1) after (complete ++ chain)
round nodes widened k heads complete chain after so_far lt is more = record {
  made = all;
  done = both ∙ ap (nodes_of_vertices nodes widened) (sym (ap (take (k + 1)) (sym all ∙ more) ∙ take-append-le (k + 1) heads (makeable_heads nodes widened heads (complete ++ chain)) (omega (arith, lt))));
}
  where
    both : complete ++ chain ≡ nodes_of_vertices nodes widened (take (k + 1) heads)
    both = ap (λ (l : List ℕ). l ++ chain) (so_far.done ∙ ap (λ (l : List ℕ). nodes_of_vertices nodes widened (take k l)) (sym so_far.made))
        ∙ ap (λ (l : List ℕ). nodes_of_vertices nodes widened (take k heads) ++ l) is
        ∙ sym (nodes_with nodes widened heads k lt)

    on : k + 1 ≡ suc k
    on = omega arith

    all : after ≡ heads_made nodes widened (k + 1)
    all = more
        ∙ ap (λ (l : List ℕ). heads ++ makeable_heads nodes widened heads l) both
        ∙ ap (λ (n : ℕ). made_next nodes widened n heads) on
        ∙ ap (made_next nodes widened (suc k)) so_far.made
        ∙ ap (heads_made nodes widened) (sym on)
