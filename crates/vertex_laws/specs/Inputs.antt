-- Where the rows of a vertex's inputs stand, and which rows they are.
use Rattle.std.specs.Prelude.{◌≡◌, ◌%◌, ℕ, ⊤, List}
use Rattle.std.specs.List.{AllZip}
use Rattle.std.specs.Option.{unwrap_or}
use Rattle.row_core.specs.Bags.{SameBag}
use Rattle.bag_laws.specs.Rows.{OneRow as Row}
use Rattle.plan_model.specs.Operators.{key_of}
use Rattle.plan_model.specs.Plans.{bag_at, bags_of}
use Rattle.plan_model.specs.declared.node.Node.{Node}
use Rattle.plan_model.specs.declared.ship.Ship.{Ship}
use Rattle.plan_model.specs.declared.ship.Ship.TheVariants.{Hash}
use Rattle.rect_cover.specs.Cells.{Input}
use Rattle.rect_cover.specs.Heads.{StandsAt}
use Rattle.vertex_builder.specs.declared.vertex.Vertex.{Vertex}
use Rattle.vertex_builder.specs.declared.vertex_input.VertexInput.{VertexInput}

-- this many columns, and each row in the column of its key's hash modulo their number
pub record IsHashed (hash : Row → ℕ) (count : ℕ) (columns : List ℕ) (input : Input) : Type 0 where
  pub cells : input.grid.cells ≡ count
  pub stands : StandsAt (λ row. hash (key_of columns row) % count) input

-- where the ship of an input wants its rows; any function of keys may be the hash
abbrev pub IsShipped : (Row → ℕ) → ℕ → Ship → Input → Type 0
IsShipped hash count (Hash columns) input = IsHashed hash count columns input
IsShipped hash count _ input = ⊤

-- the rows of each input stand where its ship wants them
abbrev pub AreShipped : (Row → ℕ) → ℕ → Vertex → List Input → Type 0
AreShipped hash max_parallelism vertex inputs =
    AllZip (λ at input. IsShipped hash max_parallelism at.ship input) vertex.inputs inputs

-- the rows of an input are those of the node that it comes from, or of the source whose files it has
pub record HoldsBag (files : List ℕ → List (List ℕ)) (nodes : List Node)
    (at : VertexInput) (rows : List Row) : Type 0 where
  pub same : SameBag rows (bag_at (bags_of files nodes) (unwrap_or at.from at.into)).rows

-- the inputs of a vertex hold the plan's rows
abbrev pub HoldBags : (List ℕ → List (List ℕ)) → List Node → Vertex → List (List Row) → Type 0
HoldBags files nodes vertex inputs = AllZip (HoldsBag files nodes) vertex.inputs inputs
