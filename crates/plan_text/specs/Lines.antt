-- The words that a vertex is shown in.
use Rattle.std.specs.Prelude.{ℕ, ◌+◌, List, [], ◌∷◌, ◌++◌, map, codes}
use Rattle.std.specs.Fmt.{decimal}
use Rattle.std.specs.Option.{option_map_or}
use Rattle.plan_model.specs.declared.ship.Ship.{Ship}
use Rattle.plan_model.specs.declared.ship.Ship.TheVariants.{Forward, Hash, Rebalance, Broadcast}
use Rattle.vertex_builder.specs.declared.vertex.Vertex.{Vertex}
use Rattle.vertex_builder.specs.declared.vertex_input.VertexInput.{VertexInput}
use Rattle.vertex_builder.specs.declared.vertex_output.VertexOutput.{VertexOutput}

-- ---- bytes

abbrev pub line_feed : ℕ
line_feed = 10

abbrev pub comma : ℕ
comma = 44

abbrev pub colon : ℕ
colon = 58

-- ---- parts of a line

abbrev pub ship_word : Ship → List ℕ
ship_word Forward = codes "forward"
ship_word (Hash columns) = codes "hash"
ship_word Rebalance = codes "rebalance"
ship_word Broadcast = codes "broadcast"

-- the node at the other end of an edge, and how rows go along it: `3:hash`
abbrev pub end_text : ℕ → Ship → List ℕ
end_text node ship = decimal node ++ colon ∷ ship_word ship

-- these texts, with a comma between each and the next
abbrev pub with_commas : List (List ℕ) → List ℕ
with_commas [] = []
with_commas (text ∷ []) = text
with_commas (text ∷ next ∷ texts) = text ++ comma ∷ with_commas (next ∷ texts)

-- an input by the node that it comes from, or a source's files
abbrev pub input_text : VertexInput → List ℕ
input_text input = option_map_or (λ from. end_text from input.ship) input.from (codes "files")

-- an output by the node that it goes into, or a sink's text
abbrev pub output_text : VertexOutput → List ℕ
output_text output = option_map_or (λ into. end_text into output.ship) output.into (codes "sink")

-- ---- lines

-- the line of a vertex: its number, its nodes, and what comes in and goes out
abbrev pub vertex_line : ℕ → Vertex → List ℕ
vertex_line number vertex =
    codes "vertex " ++ decimal number
    ++ codes " nodes=" ++ with_commas (map decimal vertex.nodes)
    ++ codes " in=" ++ with_commas (map input_text vertex.inputs)
    ++ codes " out=" ++ with_commas (map output_text vertex.outputs)
    ++ line_feed ∷ []

-- a line for each vertex, the first of which has this number
abbrev pub vertex_lines : ℕ → List Vertex → List ℕ
vertex_lines number [] = []
vertex_lines number (vertex ∷ vertices) =
    vertex_line number vertex ++ vertex_lines (number + 1) vertices
