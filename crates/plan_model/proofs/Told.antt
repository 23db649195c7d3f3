-- A walk over the nodes that tells the first fault: what is told of all is what is told from each place on.
use Rattle.std.proofs.Common.{◌≡◌, ℕ, suc, ◌+◌, ◌<◌, ◌≤◌, List, [], ◌∷◌, ◌++◌, length, map, take, drop, Option, Some, None, slice_get, slice_index_or, refl, sym, ◌∙◌, ap, drop-cons, length-take-le, arith}
use Rattle.std.proofs.lemmas.List.{take_more, drop_all}
use Rattle.plan_model.specs.Checks.{told_at}
use Rattle.plan_model.specs.declared.node.Node.{Node}
use Rattle.plan_model.specs.declared.plan_fault.PlanFault.{PlanFault}
use Rattle.plan_model.specs.declared.plan_kind.PlanKind.{PlanKind}

abbrev pub fault_of : ℕ → PlanKind → PlanFault
fault_of place kind = record { node = Some place; kind = kind }

-- the first fault that is told from a place on
abbrev pub from : (List Node → Node → List PlanKind) → List Node → ℕ → Option PlanFault
from kinds nodes k = slice_get (told_at kinds (take k nodes) (drop k nodes)) 0

-- what is told of one node, ahead of the rest
head_none : (place : ℕ) (ks : List PlanKind) (rest : List PlanFault) → slice_get ks 0 ≡ None → slice_get (map (fault_of place) ks ++ rest) 0 ≡ slice_get rest 0
head_none place [] rest e = refl
head_none place (k ∷ ks) rest e = search e

abbrev some_fault : ℕ → Option PlanKind → Option PlanFault
some_fault place None = None
some_fault place (Some kind) = Some (fault_of place kind)

head_some : (place : ℕ) (ks : List PlanKind) (rest : List PlanFault) (kind : PlanKind) → slice_get ks 0 ≡ Some kind → slice_get (map (fault_of place) ks ++ rest) 0 ≡ Some (fault_of place kind)
head_some place [] rest kind e = search e
head_some place (k ∷ ks) rest kind e = ap (λ (o : Option PlanKind). some_fault place o) e

module _ (kinds : List Node → Node → List PlanKind) (nodes : List Node) (k : ℕ) (node : Node) where
  -- the walk at a place
  step : k < length nodes → node ≡ slice_index_or nodes k node
      → from kinds nodes k ≡ slice_get (map (fault_of k) (kinds (take k nodes) node) ++ told_at kinds (take (k + 1) nodes) (drop (k + 1) nodes)) 0
  step lt is =
      let on : suc k ≡ k + 1 = omega arith in
      let cut : drop k nodes ≡ node ∷ drop (k + 1) nodes = drop-cons nodes k node lt ∙ ap (λ n. n ∷ drop (suc k) nodes) (sym is) ∙ ap (λ (m : ℕ). node ∷ drop m nodes) on in
      let one : take (k + 1) nodes ≡ take k nodes ++ node ∷ [] = take_more nodes k node lt ∙ ap (λ n. take k nodes ++ n ∷ []) (sym is) in
      let long : length (take k nodes) ≡ k = length-take-le k nodes (omega (arith, lt)) in
      ap (λ rest. slice_get (told_at kinds (take k nodes) rest) 0) cut
      ∙ ap (λ (n : ℕ). slice_get (map (fault_of n) (kinds (take k nodes) node) ++ told_at kinds (take k nodes ++ node ∷ []) (drop (k + 1) nodes)) 0) long
      ∙ ap (λ before. slice_get (map (fault_of k) (kinds (take k nodes) node) ++ told_at kinds before (drop (k + 1) nodes)) 0) (sym one)

  pub told-next : k < length nodes → node ≡ slice_index_or nodes k node → slice_get (kinds (take k nodes) node) 0 ≡ None → from kinds nodes (k + 1) ≡ from kinds nodes k
  told-next lt is none = sym (step lt is ∙ head_none k (kinds (take k nodes) node) (told_at kinds (take (k + 1) nodes) (drop (k + 1) nodes)) none)

  pub told-here : (kind : PlanKind) → k < length nodes → node ≡ slice_index_or nodes k node → slice_get (kinds (take k nodes) node) 0 ≡ Some kind → from kinds nodes k ≡ Some (fault_of k kind)
  told-here kind lt is some = step lt is ∙ head_some k (kinds (take k nodes) node) (told_at kinds (take (k + 1) nodes) (drop (k + 1) nodes)) kind some

pub told-end : (kinds : List Node → Node → List PlanKind) (nodes : List Node) (k : ℕ) → length nodes ≤ k → from kinds nodes k ≡ None
told-end kinds nodes k le = ap (λ rest. slice_get (told_at kinds (take k nodes) rest) 0) (drop_all k nodes le)
