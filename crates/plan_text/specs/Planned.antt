-- The text of a plan's vertices: a line each, in the order made.
use Rattle.std.specs.Prelude.{ℕ, List}
use Rattle.plan_model.specs.declared.node.Node.{Node}
use Rattle.plan_text.specs.Lines.{vertex_lines}
use Rattle.plan_text.specs.Making.{vertices_made}

-- the text of a plan; no line shows how many cells an output has
abbrev pub plan_text : List Node → List ℕ
plan_text nodes = vertex_lines 0 (vertices_made nodes)
