-- Each head of a plan is made, and made once.
use Rattle.std.proofs.Common.{◌≡◌, ℕ, zero, suc, ◌<◌, ◌≤◌, nat_eq, nat_lt, Bool, true, false, not, ◌&&◌, ◌||◌, List, [], ◌∷◌, ◌++◌, length, take, refl, sym, ◌∙◌, ap, arith, length-append}
use Rattle.std.specs.List.{list_all, range_with_len, AllByRecursion, IsDistinct}
use Rattle.std.proofs.lemmas.Bool.{false≢true}
use Rattle.std.proofs.lemmas.List.{take_all}
use Rattle.std.proofs.lemmas.List.Elements.{filter_passes, recursion_from_All}
use Rattle.std.proofs.lemmas.List.Folds.{list_any-append}
use Rattle.std.proofs.lemmas.Map.Steps.{length-le_from_distinct_below}
use Rattle.std.proofs.lemmas.Map.Views.{any-filter_same}
use Rattle.vertex_builder.specs.Inputs.{TakenFrom}
use Rattle.plan_model.specs.Checks.{plan_faults}
use Rattle.vertex_builder.specs.declared.widening.Widening.{Widening}
use Rattle.plan_model.specs.declared.node.Node.{Node}
use Rattle.vertex_builder.specs.Edges.{is_head}
use Rattle.vertex_builder.specs.Chains.{is_among}
use Rattle.vertex_builder.specs.Vertices.{is_makeable, last_in, makeable_heads, nodes_taken}
use Rattle.vertex_builder.proofs.Laws.{all_map, both_left, both_right, same_number, taken_earlier}
use Rattle.vertex_builder.specs.Chains.{chain_of}
use Rattle.plan_text.specs.Making.{nodes_of_vertices, heads_made, making_order}
use Rattle.plan_text.specs.OrderLaws.{HasEachHead, EachHeadIsMade}
use Rattle.plan_text.proofs.Membership.{below_yes, below_is, all_yes, distinct_append, distinct_filter, distinct_range, has_below, is_below, among_pieces}
use Rattle.plan_text.proofs.Rounds.{settles}

-- ---- truth values

middle_unset : (a b c : Bool) → (a && not b && c) ≡ true → b ≡ false
middle_unset true true c e = absurd (false≢true e)
middle_unset true false c e = refl
middle_unset false b c e = absurd (false≢true e)

middle_set : (a b c : Bool) → a ≡ true → c ≡ true → (a && not b && c) ≡ false → b ≡ true
middle_set true true c x y e = refl
middle_set true false true x y e = absurd (false≢true (sym e))
middle_set true false false x y e = absurd (false≢true y)
middle_set false b c x y e = absurd (false≢true x)

unset : (a b : Bool) → b ≡ true → (a && b) ≡ false → a ≡ false
unset true true e f = absurd (false≢true (sym f))
unset true false e f = absurd (false≢true e)
unset false b e f = refl

pub same_truth : (a b : Bool) → (a ≡ true → b ≡ true) → (b ≡ true → a ≡ true) → a ≡ b
same_truth true b f g = sym (f refl)
same_truth false true f g = g refl
same_truth false false f g = refl

-- ---- what one round makes

makeable_among : (nodes : List Node) (widened : List Widening) (made complete : List ℕ) (q : ℕ) → is_among (makeable_heads nodes widened made complete) q ≡ (is_makeable nodes widened made complete q && is_among (range_with_len 0 (length nodes)) q)
makeable_among nodes widened made complete q =
    let test = is_makeable nodes widened made complete in
    any-filter_same (nat_eq q) test (test q) (λ k e. ap test (sym (same_number q k e))) (range_with_len 0 (length nodes))

not_made : (nodes : List Node) (widened : List Widening) (made complete : List ℕ) → AllByRecursion (λ y. is_among made y ≡ false) (makeable_heads nodes widened made complete)
not_made nodes widened made complete =
    let test = is_makeable nodes widened made complete in
    let heads = makeable_heads nodes widened made complete in
    all_map (λ y. test y ≡ true) (λ y. is_among made y ≡ false) heads (recursion_from_All (λ y. test y ≡ true) heads (filter_passes test (range_with_len 0 (length nodes))))
    (λ y e. middle_unset (is_head nodes widened y) (is_among made y) (list_all (is_among complete) (nodes_taken nodes widened y)) e)

makeable_distinct : (nodes : List Node) (widened : List Widening) (made complete : List ℕ) → IsDistinct nat_eq (makeable_heads nodes widened made complete)
makeable_distinct nodes widened made complete = distinct_filter (is_makeable nodes widened made complete) (range_with_len 0 (length nodes)) (distinct_range (length nodes))

-- a node of the plan that is a head
pub record IsHead (nodes : List Node) (widened : List Widening) (q : ℕ) : Type 0 where
  pub within : q < length nodes
  pub head : is_head nodes widened q ≡ true

makeable_is_head : (nodes : List Node) (widened : List Widening) (made complete : List ℕ) (q : ℕ) → is_among (makeable_heads nodes widened made complete) q ≡ true → IsHead nodes widened q
makeable_is_head nodes widened made complete q e =
    let both = sym (makeable_among nodes widened made complete q) ∙ e in
    let row = is_among (range_with_len 0 (length nodes)) q in
    record {
      within = is_below (length nodes) q (both_right (is_makeable nodes widened made complete q) row both);
      head = both_left (is_head nodes widened q) (not (is_among made q)) (both_left (is_head nodes widened q && not (is_among made q)) (list_all (is_among complete) (nodes_taken nodes widened q)) (both_left (is_makeable nodes widened made complete q) row both));
    }

-- ---- what all rounds make

pub record AreHeads (nodes : List Node) (widened : List Widening) (made : List ℕ) : Type 0 where
  pub distinct : IsDistinct nat_eq made
  pub heads : (q : ℕ) → is_among made q ≡ true → IsHead nodes widened q

pub are_heads : (nodes : List Node) (widened : List Widening) (k : ℕ) → AreHeads nodes widened (heads_made nodes widened k)
are_heads nodes widened zero = record { distinct = makeable_distinct nodes widened [] []; heads = makeable_is_head nodes widened [] [] }
are_heads nodes widened (suc k) = more (heads_made nodes widened k) (nodes_of_vertices nodes widened (take (suc k) (heads_made nodes widened k))) (are_heads nodes widened k)
  where
    more : (made complete : List ℕ) → AreHeads nodes widened made → AreHeads nodes widened (made ++ makeable_heads nodes widened made complete)
    more made complete before = record {
      distinct = distinct_append made (makeable_heads nodes widened made complete) before.distinct (makeable_distinct nodes widened made complete) (not_made nodes widened made complete);
      heads = λ q e. at q (is_among made q) refl (sym (list_any-append (nat_eq q) made (makeable_heads nodes widened made complete)) ∙ e);
    }
      where
        at : (q : ℕ) (b : Bool) → is_among made q ≡ b → (b || is_among (makeable_heads nodes widened made complete) q) ≡ true → IsHead nodes widened q
        at q true is e = before.heads q is
        at q false is e = makeable_is_head nodes widened made complete q e

no_more_than_nodes : (nodes : List Node) (widened : List Widening) (k : ℕ) → length (heads_made nodes widened k) ≤ length nodes
no_more_than_nodes nodes widened k =
    let all = are_heads nodes widened k in
    length-le_from_distinct_below (heads_made nodes widened k) (length nodes) all.distinct (λ q e. (all.heads q e).within)

nothing_more : (made more : List ℕ) → made ++ more ≡ made → more ≡ []
nothing_more made [] e = refl
nothing_more made (x ∷ more) e = let len = ap length e in absurd (omega (arith, len, length-append made (x ∷ more)))

-- at the end all vertices are complete, and nothing can be made
at_the_end : (nodes : List Node) (widened : List Widening) → makeable_heads nodes widened (making_order nodes widened) (nodes_of_vertices nodes widened (making_order nodes widened)) ≡ []
at_the_end nodes widened =
    let made = making_order nodes widened in
    let all : take (suc (length nodes)) made ≡ made = take_all (suc (length nodes)) made (omega (arith, no_more_than_nodes nodes widened (length nodes))) in
    ap (λ (l : List ℕ). makeable_heads nodes widened made (nodes_of_vertices nodes widened l)) (sym all)
    ∙ nothing_more made (makeable_heads nodes widened made (nodes_of_vertices nodes widened (take (suc (length nodes)) made))) (settles nodes widened (length nodes) (no_more_than_nodes nodes widened (length nodes)))

cannot_be_made : (nodes : List Node) (widened : List Widening) (q : ℕ) → q < length nodes → is_makeable nodes widened (making_order nodes widened) (nodes_of_vertices nodes widened (making_order nodes widened)) q ≡ false
cannot_be_made nodes widened q within =
    let made = making_order nodes widened in
    let complete = nodes_of_vertices nodes widened made in
    unset (is_makeable nodes widened made complete q) (is_among (range_with_len 0 (length nodes)) q) (has_below (length nodes) q within)
    (sym (makeable_among nodes widened made complete q) ∙ ap (λ (l : List ℕ). is_among l q) (at_the_end nodes widened))

module _ (nodes : List Node) (widened : List Widening) (good : plan_faults nodes ≡ []) where
  pub made_below : (n q : ℕ) → last_in (chain_of nodes widened q) < n → q < length nodes → is_head nodes widened q ≡ true → is_among (making_order nodes widened) q ≡ true
  made_below zero q lt within head = absurd (omega (arith, lt))
  made_below (suc n) q lt within head = at (made_below n)
    where
      at : ((m : ℕ) → last_in (chain_of nodes widened m) < n → m < length nodes → is_head nodes widened m ≡ true → is_among (making_order nodes widened) m ≡ true) → is_among (making_order nodes widened) q ≡ true
      at before =
          let made = making_order nodes widened in
          let complete = nodes_of_vertices nodes widened made in
          let taken = nodes_taken nodes widened q in
          let ready : AllByRecursion (λ input. is_among complete input ≡ true) taken =
          all_map (TakenFrom nodes widened (last_in (chain_of nodes widened q))) (λ input. is_among complete input ≡ true) taken (taken_earlier nodes widened good q head within) (λ input of.
          among_pieces (chain_of nodes widened) made of.head input (before of.head (omega (arith, of.earlier, lt)) of.within of.begins) of.inside) in
          middle_set (is_head nodes widened q) (is_among made q) (list_all (is_among complete) taken) head
          (all_yes (is_among complete) taken ready) (cannot_be_made nodes widened q within)

  pub made_each : (q : ℕ) → q < length nodes → is_head nodes widened q ≡ true → is_among (making_order nodes widened) q ≡ true
  made_each q = made_below (suc (last_in (chain_of nodes widened q))) q (omega arith)

  has_each_head : HasEachHead nodes widened (making_order nodes widened)
  has_each_head = record {
    heads = λ q. same_truth (is_among (making_order nodes widened) q) (nat_lt q (length nodes) && is_head nodes widened q)
        (λ e. let is = all.heads q e in ap (λ (b : Bool). b && is_head nodes widened q) (below_yes q (length nodes) is.within) ∙ is.head)
        (λ e. made_each q (below_is q (length nodes) (both_left (nat_lt q (length nodes)) (is_head nodes widened q) e)) (both_right (nat_lt q (length nodes)) (is_head nodes widened q) e));
    once = all.distinct;
  }
    where
      all : AreHeads nodes widened (making_order nodes widened)
      all = are_heads nodes widened (length nodes)

pub each_head_is_made : EachHeadIsMade
each_head_is_made nodes widened good = has_each_head nodes widened good
