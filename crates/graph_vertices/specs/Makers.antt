-- The vertex of each node, in a list by nodes.
use Rattle.std.specs.Prelude.{◌≡◌, ℕ, nat_lt, Bool, List, length, get_or, Option, Some, None, if◌then◌else◌}
use Rattle.graph_model.specs.declared.made_vertex.MadeVertex.{MadeVertex}
use Rattle.graph_model.specs.States.{maker}

-- the vertex that has the node, if one has
abbrev pub maker_if : List MadeVertex → ℕ → Option ℕ
maker_if vertices node =
    if nat_lt (maker vertices node) (length vertices) then Some (maker vertices node) else None

abbrev pub AreMakers : List MadeVertex → List (Option ℕ) → Type 0
AreMakers vertices makers = (node : ℕ) → get_or makers node None ≡ maker_if vertices node

-- this vertex, where it has the node and no earlier one has
abbrev pub noted : Option ℕ → Bool → ℕ → Option ℕ
noted (Some earlier) has vertex = Some earlier
noted None has vertex = if has then Some vertex else None
