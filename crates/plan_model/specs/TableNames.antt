-- The tables of a plan, by their numbers.
use Rattle.std.specs.Prelude.{ℕ, not, List, [], ◌∷◌, filter}
use Rattle.std.specs.List.{flat_map}
use Rattle.std.specs.Str.{bytes_eq}
use Rattle.plan_model.specs.declared.node.Node.{Node}
use Rattle.plan_model.specs.declared.op.Op.{Op}
use Rattle.plan_model.specs.declared.op.Op.TheVariants.{Source}

-- the table that a source reads
abbrev pub source_table : Op → List (List ℕ)
source_table (Source table columns) = table ∷ []
source_table _ = []

-- one of each name, where it first stands
abbrev pub each_once : List (List ℕ) → List (List ℕ)
each_once [] = []
each_once (name ∷ names) = name ∷ filter (λ other. not (bytes_eq name other)) (each_once names)

-- the tables of a plan, in the order of their first sources
abbrev pub tables_of : List Node → List (List ℕ)
tables_of nodes = each_once (flat_map (λ node. source_table node.op) nodes)
