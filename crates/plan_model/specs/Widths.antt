-- How many values the rows of each node have.
use Rattle.std.specs.Prelude.{ℕ, ◌+◌, List, [], ◌∷◌, ◌++◌, length, map, get_or}
use Rattle.plan_model.specs.Plans.{join_width}
use Rattle.plan_model.specs.declared.node.Node.{Node}
use Rattle.plan_model.specs.declared.op.Op.{Op}
use Rattle.plan_model.specs.declared.op.Op.TheVariants.{Source, Filter, Project, Explode, Union, Aggregate, Distinct, Join, Sink}

-- the width of an operator's rows, from those of its inputs
abbrev pub width_of : Op → List ℕ → ℕ
width_of (Source table columns) widths = length columns
width_of (Filter test) widths = get_or widths 0 0
width_of (Project exprs) widths = length exprs
width_of (Explode column separator) widths = get_or widths 0 0
width_of Union widths = get_or widths 0 0
width_of (Aggregate keys aggs) widths = length keys + length aggs
width_of Distinct widths = get_or widths 0 0
width_of (Join kind keys) widths = join_width kind (get_or widths 0 0) (get_or widths 1 0)
width_of (Sink name) widths = get_or widths 0 0

-- the widths of these inputs
abbrev pub input_widths : List ℕ → List ℕ → List ℕ
input_widths widths inputs = map (λ input. get_or widths input 0) inputs

-- the widths of these nodes, behind those of the nodes before them
abbrev pub widths_from : List ℕ → List Node → List ℕ
widths_from widths [] = widths
widths_from widths (node ∷ nodes) = widths_from (widths ++ width_of node.op (input_widths widths node.inputs) ∷ []) nodes

-- the width of each node, in their order
abbrev pub widths_of : List Node → List ℕ
widths_of nodes = widths_from [] nodes
