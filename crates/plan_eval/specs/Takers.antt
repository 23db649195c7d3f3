-- Which node takes the rows of another last.
use Rattle.std.specs.Prelude.{◌≡◌, ℕ, ◌≤◌, ◌<◌, List, length, get_or, All}
use Rattle.plan_model.specs.declared.node.Node.{Node}

-- no node behind the last taker of an input takes it
pub record AreLast (nodes : List Node) (last : List ℕ) : Type 0 where
  pub long : length last ≡ length nodes
  pub taken : (place : ℕ) (node : Node) → place < length nodes → node ≡ get_or nodes place node
      → All (λ input. input < length nodes → place ≤ get_or last input 0) node.inputs
