-- The rows of each node of a plan, and the text that a job commits.
use Rattle.std.specs.Prelude.{ℕ, ◌+◌, List, [], ◌∷◌, ◌++◌, length, map, get_or, codes}
use Rattle.std.specs.List.{flat_map}
use Rattle.row_core.specs.declared.value.Value.{Value}
use Rattle.row_core.specs.Bags.{one_of_each}
use Rattle.plan_model.specs.Tables.{table_rows}
use Rattle.plan_model.specs.Sinks.{sorted_lines}
use Rattle.plan_model.specs.Operators.{filtered, projected, exploded, aggregated}
use Rattle.plan_model.specs.Joins.{joined}
use Rattle.plan_model.specs.declared.join_kind.JoinKind.{JoinKind}
use Rattle.plan_model.specs.declared.join_kind.JoinKind.TheVariants as kind
use Rattle.plan_model.specs.declared.node.Node.{Node}
use Rattle.plan_model.specs.declared.op.Op.{Op}
use Rattle.plan_model.specs.declared.op.Op.TheVariants.{Source, Filter, Project, Explode, Union, Aggregate, Distinct, Join, Sink}

-- the rows of a node, and how many values each has
pub record Bag : Type 0 where
  pub width : ℕ
  pub rows : List (List Value)

abbrev pub empty_bag : Bag
empty_bag = record { width = 0; rows = [] }

-- the bag at a place
abbrev pub bag_at : List Bag → ℕ → Bag
bag_at bags place = get_or bags place empty_bag

-- a join shows the columns of both sides, but for semi and anti
abbrev pub join_width : JoinKind → ℕ → ℕ → ℕ
join_width kind.Inner left right = left + right
join_width kind.Left left right = left + right
join_width kind.Right left right = left + right
join_width kind.Full left right = left + right
join_width kind.Semi left right = left
join_width kind.Anti left right = left

-- what an operator gives on the bags of its inputs; `files` are those of a table
abbrev pub bag_of : (List ℕ → List (List ℕ)) → Op → List Bag → Bag
bag_of files (Source table columns) inputs = record { width = length columns; rows = flat_map (table_rows (map (λ c. c.kind) columns)) (files table) }
bag_of files (Filter test) inputs = record { width = (bag_at inputs 0).width; rows = filtered test (bag_at inputs 0).rows }
bag_of files (Project exprs) inputs = record { width = length exprs; rows = projected exprs (bag_at inputs 0).rows }
bag_of files (Explode column separator) inputs = record { width = (bag_at inputs 0).width; rows = exploded column separator (bag_at inputs 0).rows }
bag_of files Union inputs = record { width = (bag_at inputs 0).width; rows = flat_map (λ bag. bag.rows) inputs }
bag_of files (Aggregate keys aggs) inputs = record { width = length keys + length aggs; rows = aggregated keys aggs (bag_at inputs 0).rows }
bag_of files Distinct inputs = record { width = (bag_at inputs 0).width; rows = one_of_each (bag_at inputs 0).rows }
bag_of files (Join kind keys) inputs =
    let left = bag_at inputs 0 in let right = bag_at inputs 1 in
    record { width = join_width kind left.width right.width; rows = joined keys left.width right.width left.rows right.rows kind }
bag_of files (Sink name) inputs = bag_at inputs 0

-- the bags of these nodes, behind those of the nodes before them
abbrev pub bags_from : (List ℕ → List (List ℕ)) → List Bag → List Node → List Bag
bags_from files bags [] = bags
bags_from files bags (node ∷ nodes) = bags_from files (bags ++ bag_of files node.op (map (bag_at bags) node.inputs) ∷ []) nodes

-- one bag for each node, in their order
abbrev pub bags_of : (List ℕ → List (List ℕ)) → List Node → List Bag
bags_of files nodes = bags_from files [] nodes

-- the text of a node, if it is a sink: its name, then its lines
abbrev pub sink_section : Op → Bag → List ℕ
sink_section (Sink name) bag = codes "sink " ++ name ++ (10 ∷ sorted_lines bag.rows)
sink_section _ bag = []

abbrev pub sink_sections : List Node → List Bag → List ℕ
sink_sections [] bags = []
sink_sections (node ∷ nodes) [] = []
sink_sections (node ∷ nodes) (bag ∷ bags) = sink_section node.op bag ++ sink_sections nodes bags

-- the text that is committed
abbrev pub committed_text : (List ℕ → List (List ℕ)) → List Node → List ℕ
committed_text files nodes = sink_sections nodes (bags_of files nodes)
