-- The widths of nodes: one node more at a time, and in a plan without a fault.
use Rattle.std.proofs.Common.{◌≡◌, ℕ, zero, suc, ◌+◌, ◌<◌, ◌≤◌, All, List, [], ◌∷◌, ◌++◌, length, map, get_or, take, drop, Some, slice_get, slice_index_or, inl, inr, refl, sym, ◌∙◌, ap, subst, arith, drop-cons, length-append}
use Rattle.std.proofs.lemmas.List.{take_more, get_or_append_left, take-append-drop}
use Rattle.std.proofs.lemmas.List.Elements.{All-append}
use Rattle.std.proofs.lemmas.Grind.{get_or_default_zero}
use Rattle.std.proofs.lemmas.Option.{slice_get_within, slice_get_cases, get_or_from_slice_get}
use Rattle.std.proofs.Math.Seq.{get_or-append_seam}
use Rattle.plan_model.specs.Checks.{plan_faults}
use Rattle.plan_model.specs.Nodes.{IsGoodNode, widths_into}
use Rattle.plan_model.specs.Widths.{width_of, widths_of, widths_from, input_widths}
use Rattle.plan_model.specs.declared.node.Node.{Node}
use Rattle.plan_model.proofs.GoodNodes.{good_at, earlier_at, long_before}

widths_from-append : (widths : List ℕ) (before nodes : List Node) → widths_from widths (before ++ nodes) ≡ widths_from (widths_from widths before) nodes
widths_from-append widths [] nodes = refl
widths_from-append widths (node ∷ before) nodes = widths_from-append (widths ++ width_of node.op (input_widths widths node.inputs) ∷ []) before nodes

-- the widths with those of the next node
pub widths_of-more : (before : List Node) (node : Node) → widths_of (before ++ node ∷ []) ≡ widths_of before ++ width_of node.op (widths_into before node) ∷ []
widths_of-more before node = widths_from-append [] before (node ∷ [])

pub widths_of-next : (nodes : List Node) (k : ℕ) (node : Node) → k < length nodes → node ≡ slice_index_or nodes k node
    → widths_of (take (k + 1) nodes) ≡ widths_of (take k nodes) ++ width_of node.op (widths_into (take k nodes) node) ∷ []
widths_of-next nodes k node lt is = ap widths_of (take_more nodes k node lt ∙ ap (λ (n : Node). take k nodes ++ n ∷ []) (sym is)) ∙ widths_of-more (take k nodes) node

length-widths_from : (widths : List ℕ) (nodes : List Node) → length (widths_from widths nodes) ≡ length widths + length nodes
length-widths_from widths [] = omega arith
length-widths_from widths (node ∷ nodes) =
    let rest = length-widths_from (widths ++ width_of node.op (input_widths widths node.inputs) ∷ []) nodes in
    let more = length-append widths (width_of node.op (input_widths widths node.inputs) ∷ []) in
    omega (arith, rest, more)

pub one_each : (nodes : List Node) → length (widths_of nodes) ≡ length nodes
one_each nodes = let long = length-widths_from [] nodes in omega (arith, long)

pub narrow_one : (width : ℕ) → width ≤ 256 → All (λ w. w ≤ 256) (width ∷ [])
narrow_one width le zero d lt = le
narrow_one width le (suc k) d lt = omega (arith, lt)

-- widths that stand keep their places
stay_at : (widths : List ℕ) (nodes : List Node) (place : ℕ) → place < length widths → get_or (widths_from widths nodes) place 0 ≡ get_or widths place 0
stay_at widths [] place lt = refl
stay_at widths (node ∷ nodes) place lt =
    let width = width_of node.op (input_widths widths node.inputs) in
    stay_at (widths ++ width ∷ []) nodes place (let long = length-append widths (width ∷ []) in omega (arith, lt, long)) ∙ get_or_append_left widths (width ∷ []) 0 place lt

same_inputs : (widths others : List ℕ) (inputs : List ℕ) → All (λ input. get_or widths input 0 ≡ get_or others input 0) inputs → input_widths widths inputs ≡ input_widths others inputs
same_inputs widths others [] each = refl
same_inputs widths others (input ∷ inputs) each = λ i. each 0 input (omega arith) i ∷ same_inputs widths others inputs (λ k d lt. each (suc k) d (omega (arith, lt))) i

module _ (nodes : List Node) (place : ℕ) (node : Node) (faultless : plan_faults nodes ≡ []) (at : slice_get nodes place ≡ Some node) where
  abbrev front : List ℕ
  front = widths_of (take place nodes)

  abbrev own : ℕ
  own = width_of node.op (input_widths front node.inputs)

  long : length front ≡ place
  long = one_each (take place nodes) ∙ long_before nodes place node at

  within : place < length nodes
  within = slice_get_within nodes place node at

  all_are : widths_of nodes ≡ widths_from (front ++ own ∷ []) (drop (suc place) nodes)
  all_are =
      let cut : drop place nodes ≡ node ∷ drop (suc place) nodes = drop-cons nodes place node within ∙ ap (λ (n : Node). n ∷ drop (suc place) nodes) (get_or_from_slice_get nodes place node node at) in
      ap widths_of (sym (take-append-drop place nodes) ∙ ap (λ (rest : List Node). take place nodes ++ rest) cut)
      ∙ widths_from-append [] (take place nodes) (node ∷ drop (suc place) nodes)

  front_at : (input : ℕ) → input < place → get_or (widths_of nodes) input 0 ≡ get_or front input 0
  front_at input low =
      let more = length-append front (own ∷ []) in let is = long in
      ap (λ (widths : List ℕ). get_or widths input 0) all_are
      ∙ stay_at (front ++ own ∷ []) (drop (suc place) nodes) input (omega (arith, low, more, is))
      ∙ get_or_append_left front (own ∷ []) 0 input (omega (arith, low, is))

  -- the widths before a node are those of its inputs among all
  pub inputs_are : widths_into (take place nodes) node ≡ input_widths (widths_of nodes) node.inputs
  inputs_are = same_inputs front (widths_of nodes) node.inputs (λ k d low. sym (front_at _ (earlier_at nodes place node faultless at k d low)))

  pub width_here : get_or (widths_of nodes) place 0 ≡ width_of node.op (input_widths (widths_of nodes) node.inputs)
  width_here =
      let more = length-append front (own ∷ []) in let is = long in
      ap (λ (widths : List ℕ). get_or widths place 0) all_are
      ∙ stay_at (front ++ own ∷ []) (drop (suc place) nodes) place (omega (arith, more, is))
      ∙ ap (λ (k : ℕ). get_or (front ++ own ∷ []) k 0) (sym long)
      ∙ get_or-append_seam front own [] 0
      ∙ ap (width_of node.op) inputs_are

  pub narrow_here : get_or (widths_of nodes) place 0 ≤ 256
  narrow_here = subst (λ (width : ℕ). width ≤ 256) (sym (width_here ∙ ap (width_of node.op) (sym inputs_are))) (good_at nodes place node faultless at).narrow

-- a place within the nodes has its node
pub node_of : (nodes : List Node) (k : ℕ) → k < length nodes → (node : Node) × (slice_get nodes k ≡ Some node)
node_of nodes k lt = elim (slice_get_cases nodes k).1 [
  | inl h ↦ (h.0, h.2)
  | inr h ↦ absurd (let le = h.0 in omega (arith, le, lt))
]

pub narrow_all : (nodes : List Node) → plan_faults nodes ≡ [] → All (λ width. width ≤ 256) (widths_of nodes)
narrow_all nodes faultless k d lt =
    let here = node_of nodes k (let long = one_each nodes in omega (arith, lt, long)) in
    subst (λ (width : ℕ). width ≤ 256) (sym (get_or_default_zero (widths_of nodes) k d lt)) (narrow_here nodes k here.0 faultless here.1)
