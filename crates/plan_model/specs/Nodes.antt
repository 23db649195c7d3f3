-- The nodes of a plan, as operators on the inputs that stand before them.
use Rattle.std.specs.Prelude.{◌≡◌, ◌≤◌, ◌<◌, ℕ, Bool, false, not, ◌||◌, List, length, map, slice_get, All, IsTrue}
use Rattle.std.specs.Option.{option_map_or}
use Rattle.row_core.specs.Bags.{SameBag}
use Rattle.row_core.specs.Values.{width_limit}
use Rattle.plan_model.specs.Checks.{takes, gives_rows, has_keys, columns_fit, widths_agree}
use Rattle.plan_model.specs.Operators.{is_sink, may_rebalance}
use Rattle.plan_model.specs.Plans.{Bag}
use Rattle.plan_model.specs.Widths.{width_of, widths_of, input_widths}
use Rattle.plan_model.specs.declared.node.Node.{Node}
use Rattle.plan_model.specs.declared.op.Op.{Op}

-- the widths of a node's inputs, which stand among the nodes before it
abbrev pub widths_into : List Node → Node → List ℕ
widths_into before node = input_widths (widths_of before) node.inputs

-- a node that nothing is wrong with, behind these nodes
pub record IsGoodNode (before : List Node) (node : Node) : Type 0 where
  pub number : IsTrue (takes node.op (length node.inputs))
  pub earlier : All (λ input. input < length before) node.inputs
  pub rows : All (λ input. IsTrue (gives_rows before input)) node.inputs
  pub keys : IsTrue (has_keys node.op)
  pub ship : IsTrue (not node.rebalance || may_rebalance node.op)
  pub columns : IsTrue (columns_fit node.op (widths_into before node))
  pub agree : IsTrue (widths_agree node.op (widths_into before node))
  pub narrow : width_of node.op (widths_into before node) ≤ width_limit

-- each row has the bag's width
abbrev pub HasItsWidth : Bag → Type 0
HasItsWidth bag = All (λ row. length row ≡ bag.width) bag.rows

-- the same rows equally often, of one width
pub record Alike (bag other : Bag) : Type 0 where
  pub width : bag.width ≡ other.width
  pub rows : SameBag bag.rows other.rows

abbrev pub bag_widths : List Bag → List ℕ
bag_widths bags = map (λ bag. bag.width) bags

-- an operator that nothing is wrong with, on these inputs
pub record IsGood (op : Op) (inputs : List Bag) : Type 0 where
  pub number : IsTrue (takes op (length inputs))
  pub columns : IsTrue (columns_fit op (bag_widths inputs))
  pub agree : IsTrue (widths_agree op (bag_widths inputs))
  pub narrow : All (λ width. width ≤ width_limit) (bag_widths inputs)
  pub wide : width_of op (bag_widths inputs) ≤ width_limit
  pub fit : All HasItsWidth inputs

-- a sink stands at this place
abbrev pub sink_at : List Node → ℕ → Bool
sink_at nodes place = option_map_or (λ node. is_sink node.op) (slice_get nodes place) false
