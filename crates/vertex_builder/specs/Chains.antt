-- The chains of a plan, and how they part its nodes.
use Rattle.std.specs.Prelude.{◌≡◌, ℕ, zero, suc, ◌+◌, ◌<◌, ◌≤◌, ◌⊎◌, nat_eq, Bool, IsTrue, List, [], ◌∷◌, length, get_or, slice_get, Option, Some}
use Rattle.std.specs.List.{list_any, IsDistinct}
use Rattle.std.specs.Option.{option_map_or}
use Rattle.plan_model.specs.Operators.{may_rebalance}
use Rattle.plan_model.specs.declared.node.Node.{Node}
use Rattle.plan_model.specs.declared.side.Side.{Side}
use Rattle.vertex_builder.specs.Edges.{build_side, chained_after, is_head, is_join, probe_place}
use Rattle.vertex_builder.specs.declared.widening.Widening.{Widening}

-- the node stands in a set
abbrev pub is_among : List ℕ → ℕ → Bool
is_among set node = list_any (nat_eq node) set

-- the chain of a head: behind each node the one that is chained after it, and behind the last none
pub record IsChain (nodes : List Node) (widened : List Widening) (head : ℕ)
    (chain : List ℕ) : Type 0 where
  pub first : slice_get chain 0 ≡ Some head
  pub next : (k : ℕ) → k < length chain
      → slice_get chain (k + 1) ≡ chained_after nodes widened (get_or chain k 0)

-- no head has two chains
abbrev pub OneChain : Type 0
OneChain = (nodes : List Node) (widened : List Widening) (head : ℕ) (a b : List ℕ)
    → IsChain nodes widened head a → IsChain nodes widened head b → a ≡ b

-- a node that works on one row at a time, and takes the rows of the one before alone
pub record TakesRows (it : Node) (before : ℕ) : Type 0 where
  pub row : IsTrue (may_rebalance it.op)
  pub input : it.inputs ≡ before ∷ []

-- a widened join that takes the one before as its probe side
pub record TakesProbe (it : Node) (side : Option Side) (before : ℕ) : Type 0 where
  pub build : Side
  pub is : side ≡ Some build
  pub join : IsTrue (is_join it.op)
  pub two : length it.inputs ≡ 2
  pub input : get_or it.inputs (probe_place build) 0 ≡ before

-- a node that is chained after another works row by row on that one's rows, or is a widened join of
-- them
pub record TakesAfter (nodes : List Node) (widened : List Widening) (before node : ℕ) : Type 0 where
  pub it : Node
  pub at : slice_get nodes node ≡ Some it
  pub takes : TakesRows it before ⊎ TakesProbe it (build_side nodes widened node) before

-- ---- the chain, computed

-- a node, and at most this many that are chained one after the other behind it
abbrev pub chain_from : ℕ → List Node → List Widening → ℕ → List ℕ
chain_from zero nodes widened node = node ∷ []
chain_from (suc more) nodes widened node =
    node ∷ option_map_or (chain_from more nodes widened) (chained_after nodes widened node) []

-- the chain of a head: no chain has more nodes than the plan
abbrev pub chain_of : List Node → List Widening → ℕ → List ℕ
chain_of nodes widened head = chain_from (length nodes) nodes widened head

-- ---- how chains part a plan

-- a head, which is no later than the node, has it in its chain
pub record HasHead (nodes : List Node) (widened : List Widening) (node : ℕ) : Type 0 where
  pub head : ℕ
  pub before : head ≤ node
  pub is : IsTrue (is_head nodes widened head)
  pub inside : IsTrue (is_among (chain_of nodes widened head) node)

-- each node of the plan stands in the chain of one head, once; nothing else stands in these chains
pub record ChainsPart (nodes : List Node) (widened : List Widening) : Type 0 where
  pub chains : (head : ℕ) → IsChain nodes widened head (chain_of nodes widened head)
  pub each : (node : ℕ) → node < length nodes → HasHead nodes widened node
  pub one : (node a b : ℕ) → IsTrue (is_head nodes widened a) → IsTrue (is_head nodes widened b)
      → IsTrue (is_among (chain_of nodes widened a) node)
      → IsTrue (is_among (chain_of nodes widened b) node)
      → a ≡ b
  pub once : (head : ℕ) → IsDistinct nat_eq (chain_of nodes widened head)
  pub inside : (head node : ℕ) → head < length nodes
      → IsTrue (is_among (chain_of nodes widened head) node) → node < length nodes
