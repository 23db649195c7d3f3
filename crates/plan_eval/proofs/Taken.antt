-- The last node that takes the rows of another.
use Rattle.std.proofs.Common.{◌≡◌, ℕ, ◌+◌, ◌<◌, ◌≤◌, ◌⊎◌, inl, inr, All, List, length, take, get_or, slice_index_or, sym, subst, ap, ◌∙◌, arith, length-take-le}
use Rattle.std.proofs.lemmas.List.{get_or_default}
use Rattle.plan_model.specs.declared.node.Node.{Node}
use Rattle.plan_model.specs.Nodes.{IsGoodNode}
use Rattle.plan_model.proofs.Laws.{gives_within}
use Rattle.plan_eval.specs.Takers.{AreLast}

module _ (nodes : List Node) where
  -- the last takers of what these nodes take
  abbrev pub TakenBefore : List ℕ → ℕ → Type 0
  TakenBefore last place = (other : ℕ) (node : Node) → other < place → node ≡ get_or nodes other node
      → All (λ input. input < length nodes → other ≤ get_or last input 0) node.inputs

  earlier_or_here : (other place : ℕ) → other < place + 1 → (other < place) ⊎ (other ≡ place)
  earlier_or_here other place lt = grind arith

  -- one node more
  pub taken_more : (old new : List ℕ) (place : ℕ) (here : Node) → place < length nodes → here ≡ get_or nodes place here → length old ≡ length nodes
      → TakenBefore old place → ((other : ℕ) → get_or old other 0 ≤ get_or new other 0)
      → All (λ input. input < length old → place ≤ get_or new input 0) here.inputs → TakenBefore new (place + 1)
  taken_more old new place here within here-is long before raised marked other node lt is k d low inside = elim (earlier_or_here other place lt) [
    | inl less ↦
        let had : other ≤ get_or old (get_or node.inputs k d) 0 = before other node less is k d low inside in
        let more : get_or old (get_or node.inputs k d) 0 ≤ get_or new (get_or node.inputs k d) 0 = raised (get_or node.inputs k d) in
        omega (arith, had, more)
    | inr same ↦
        let one : here ≡ node = here-is ∙ get_or_default nodes place here node within ∙ ap (λ (k : ℕ). get_or nodes k node) (sym same) ∙ sym is in
        let there : All (λ input. input < length old → place ≤ get_or new input 0) node.inputs =
        subst (λ (n : Node). All (λ input. input < length old → place ≤ get_or new input 0) n.inputs) one marked in
        let le : place ≤ get_or new (get_or node.inputs k d) 0 = there k d low (omega (arith, inside, long)) in
        omega (arith, le, same)
  ]

  -- a node takes rows that are kept for it
  pub taken_here : (last : List ℕ) (k : ℕ) (node : Node) → AreLast nodes last → k < length nodes → node ≡ slice_index_or nodes k node → IsGoodNode (take k nodes) node
      → All (λ input. length (take k nodes) ≤ get_or last input 0) node.inputs
  taken_here last k node are lt is sound i d low =
      let long : length (take k nodes) ≡ k = length-take-le k nodes (omega (arith, lt)) in
      let within : get_or node.inputs i d < length (take k nodes) =
      gives_within (take k nodes) (get_or node.inputs i d) (sound.rows i d low) in
      let le : k ≤ get_or last (get_or node.inputs i d) 0 = are.taken k node lt is i d low (omega (arith, within, long, lt)) in
      omega (arith, le, long)
