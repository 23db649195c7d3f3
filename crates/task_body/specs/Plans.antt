-- What a task keeps of its plan, and the batches that its operators pass on.
use Rattle.std.specs.Prelude.{ℕ, ◌≤◌, List, All}
use Rattle.row_core.specs.Values.{width_limit}
use Rattle.operator_laws.specs.Texts.{ConstantsFit, ValuesFit}
use Rattle.plan_model.specs.Nodes.{HasItsWidth}
use Rattle.plan_model.specs.Plans.{Bag}
use Rattle.plan_model.specs.declared.node.Node.{Node}
use Rattle.vertex_laws.specs.VertexRows.{op_at}

-- what the operators of a chain project as it is can be encoded
abbrev pub ConstantsFitAt : List Node → List ℕ → Type 0
ConstantsFitAt nodes chain = All (λ node. ConstantsFit (op_at nodes node)) chain

-- rows of one width that can be encoded
pub record IsEncodable (bag : Bag) : Type 0 where
  pub narrow : bag.width ≤ width_limit
  pub wide : HasItsWidth bag
  pub fit : ValuesFit bag.rows
