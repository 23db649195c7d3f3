-- Vertices are made behind those whose rows they take.
use Rattle.std.proofs.Common.{◌≡◌, ℕ, zero, suc, ◌+◌, ◌-◌, ◌<◌, ◌≤◌, nat_eq, Bool, true, not, ◌&&◌, ◌⊎◌, inl, inr, List, [], ◌∷◌, ◌++◌, length, take, drop, get_or, refl, sym, ◌∙◌, ap, arith, length-append}
use Rattle.std.specs.List.{list_all, range_with_len}
use Rattle.std.proofs.lemmas.Bool.{cases_lt, false≢true}
use Rattle.std.proofs.lemmas.Grind.{flat_map-append}
use Rattle.std.proofs.lemmas.List.{take-append-drop, take-append-le, get_or_append_left, get_or-append-add}
use Rattle.std.proofs.lemmas.List.Elements.{filter_passes}
use Rattle.std.proofs.lemmas.List.Folds.{list_any-append}
use Rattle.std.proofs.Math.Seq.{take-append-add}
use Rattle.vertex_builder.specs.declared.widening.Widening.{Widening}
use Rattle.plan_model.specs.declared.node.Node.{Node}
use Rattle.vertex_builder.specs.Edges.{is_head}
use Rattle.vertex_builder.specs.Chains.{is_among}
use Rattle.vertex_builder.specs.Vertices.{is_makeable, makeable_heads, nodes_taken}
use Rattle.vertex_builder.specs.Chains.{chain_of}
use Rattle.plan_text.specs.Making.{nodes_of_vertices, heads_made}
use Rattle.plan_text.specs.OrderLaws.{GoesByInputs, InputsComeBefore}
use Rattle.vertex_builder.proofs.Laws.{either_left, both_left, both_right}

still_all : (p q : ℕ → Bool) (xs : List ℕ) → ((x : ℕ) → p x ≡ true → q x ≡ true) → list_all p xs ≡ true → list_all q xs ≡ true
still_all p q [] f e = refl
still_all p q (x ∷ xs) f e =
    ap (λ (b : Bool). b && list_all q xs) (f x (both_left (p x) (list_all p xs) e)) ∙ still_all p q xs f (both_right (p x) (list_all p xs) e)

-- a node of the first vertices is one of all
among_more : (nodes : List Node) (widened : List Widening) (front back : List ℕ) (x : ℕ) → is_among (nodes_of_vertices nodes widened front) x ≡ true → is_among (nodes_of_vertices nodes widened (front ++ back)) x ≡ true
among_more nodes widened front back x e =
    ap (λ (l : List ℕ). is_among l x) (flat_map-append (chain_of nodes widened) front back)
    ∙ list_any-append (nat_eq x) (nodes_of_vertices nodes widened front) (nodes_of_vertices nodes widened back)
    ∙ either_left (is_among (nodes_of_vertices nodes widened front) x) (is_among (nodes_of_vertices nodes widened back) x) e

-- the inputs of a head that can be made
ready : (nodes : List Node) (widened : List Widening) (made complete : List ℕ) (k : ℕ) → k < length (makeable_heads nodes widened made complete) → list_all (is_among complete) (nodes_taken nodes widened (get_or (makeable_heads nodes widened made complete) k 0)) ≡ true
ready nodes widened made complete k lt =
    let head = get_or (makeable_heads nodes widened made complete) k 0 in
    both_right (is_head nodes widened head && not (is_among made head)) (list_all (is_among complete) (nodes_taken nodes widened head))
    (filter_passes (is_makeable nodes widened made complete) (range_with_len 0 (length nodes)) k 0 lt)

round_goes : (nodes : List Node) (widened : List Widening) (made complete : List ℕ) → ((x : ℕ) → is_among complete x ≡ true → is_among (nodes_of_vertices nodes widened made) x ≡ true)
    → GoesByInputs nodes widened made → GoesByInputs nodes widened (made ++ makeable_heads nodes widened made complete)
round_goes nodes widened made complete inside before k lt = at (cases_lt k (length made))
  where
    at : (k < length made) ⊎ (length made ≤ k) → list_all (is_among (nodes_of_vertices nodes widened (take k (made ++ makeable_heads nodes widened made complete)))) (nodes_taken nodes widened (get_or (made ++ makeable_heads nodes widened made complete) k 0)) ≡ true
    at (inl old) =
        let more = makeable_heads nodes widened made complete in
        (λ i. list_all (is_among (nodes_of_vertices nodes widened (take-append-le k made more (omega (arith, old)) i))) (nodes_taken nodes widened (get_or_append_left made more 0 k old i)))
        ∙ before k old
    at (inr new) =
        let more = makeable_heads nodes widened made complete in
        let j = k - length made in
        let place : length made + j ≡ k = omega (arith, new) in
        let in_more : j < length more = omega (arith, place, lt, length-append made more) in
        let front : take k (made ++ more) ≡ made ++ take j more = ap (λ (n : ℕ). take n (made ++ more)) (sym place) ∙ take-append-add made more j in
        let item : get_or (made ++ more) k 0 ≡ get_or more j 0 = ap (λ (n : ℕ). get_or (made ++ more) n 0) (sym place) ∙ get_or-append-add made more j 0 in
        (λ i. list_all (is_among (nodes_of_vertices nodes widened (front i))) (nodes_taken nodes widened (item i)))
        ∙ still_all (is_among complete) (is_among (nodes_of_vertices nodes widened (made ++ take j more))) (nodes_taken nodes widened (get_or more j 0)) (λ x e. among_more nodes widened made (take j more) x (inside x e)) (ready nodes widened made complete j in_more)

goes_by_inputs : (nodes : List Node) (widened : List Widening) (k : ℕ) → GoesByInputs nodes widened (heads_made nodes widened k)
goes_by_inputs nodes widened zero = round_goes nodes widened [] [] (λ x e. absurd (false≢true e)) (λ k lt. absurd (omega (arith, lt)))
goes_by_inputs nodes widened (suc k) =
    let made = heads_made nodes widened k in
    let n = suc k in
    round_goes nodes widened made (nodes_of_vertices nodes widened (take n made))
    (λ x e. ap (λ (l : List ℕ). is_among (nodes_of_vertices nodes widened l) x) (sym (take-append-drop n made)) ∙ among_more nodes widened (take n made) (drop n made) x e)
    (goes_by_inputs nodes widened k)

pub inputs_come_before : InputsComeBefore
inputs_come_before nodes widened = goes_by_inputs nodes widened (length nodes)
