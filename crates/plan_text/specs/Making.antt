-- The order in which the vertices of a plan are made, if they complete one at a time in that order,
-- where these joins are widened.
use Rattle.std.specs.Prelude.{ℕ, zero, suc, List, [], ◌++◌, length, map, take}
use Rattle.std.specs.List.{flat_map}
use Rattle.vertex_builder.specs.declared.widening.Widening.{Widening}
use Rattle.plan_model.specs.declared.node.Node.{Node}
use Rattle.plan_model.specs.Settings.{default_values}
use Rattle.vertex_builder.specs.Chains.{chain_of}
use Rattle.vertex_builder.specs.Vertices.{makeable_heads, vertex_of}
use Rattle.vertex_builder.specs.declared.vertex.Vertex.{Vertex}

-- the nodes of the vertices of these heads
abbrev pub nodes_of_vertices : List Node → List Widening → List ℕ → List ℕ
nodes_of_vertices nodes widened heads = flat_map (chain_of nodes widened) heads

-- the heads made once this many vertices are complete, which complete in the order made: at first
-- those that can be made at once, and with each completed vertex those that can be made then
abbrev pub heads_made : List Node → List Widening → ℕ → List ℕ
heads_made nodes widened zero = makeable_heads nodes widened [] []
heads_made nodes widened (suc complete) = let made = heads_made nodes widened complete in
    let done = nodes_of_vertices nodes widened (take (suc complete) made) in
    made ++ makeable_heads nodes widened made done

-- all heads, in the order made: a plan has no more vertices than nodes
abbrev pub making_order : List Node → List Widening → List ℕ
making_order nodes widened = heads_made nodes widened (length nodes)

-- the vertices in the order made where no join is widened; only the cells of their outputs go by a
-- setting
abbrev pub vertices_made : List Node → List Vertex
vertices_made nodes =
    map (vertex_of nodes [] default_values.max_parallelism) (making_order nodes [])
