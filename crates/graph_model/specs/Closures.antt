-- Which finished subtasks run again where parts are gone: the least set with two rules.
use Rattle.std.specs.Prelude.{◌≡◌, ◌⊎◌, ℕ, ◌<◌, IsTrue, IsFalse, List, Some, None, All, Any, AllPairs, Contains}
use Rattle.estate.specs.declared.part_name.PartName.{PartName}
use Rattle.vertex_builder.specs.declared.vertex_output.VertexOutput.{VertexOutput}
use Rattle.graph_model.specs.declared.made_vertex.MadeVertex.{MadeVertex}
use Rattle.graph_model.specs.declared.sub.Sub.{Sub}
use Rattle.graph_model.specs.States.{vertex_at, winner_name, is_finished, is_decided, maker}
use Rattle.graph_model.specs.Reads.{reads_from}

-- an output is a sink's, or its consumer is in no decided vertex
abbrev pub IsAwaited : List MadeVertex → VertexOutput → Type 0
IsAwaited vertices output =
    (output.into ≡ None)
    ⊎ ((node : ℕ) × (output.into ≡ Some node)
    × IsFalse (is_decided (vertex_at vertices (maker vertices node))))

-- a finished subtask whose part is gone
pub record IsGone (vertices : List MadeVertex) (gone : List PartName) (sub : Sub) : Type 0 where
  pub name : PartName
  pub won : winner_name vertices sub ≡ Some name
  pub lost : Contains gone name

-- its part is still wanted: by a sink or a vertex to come, or by a reader that is unfinished or in
-- the set
abbrev pub IsWanted : List MadeVertex → List Sub → Sub → Type 0
IsWanted vertices set sub =
    Any (IsAwaited vertices) (vertex_at vertices sub.vertex).vertex.outputs
    ⊎ ((reader : Sub) × Contains (reads_from vertices reader) sub
    × (IsFalse (is_finished vertices reader) ⊎ Contains set reader))

-- it runs again where the producer does
abbrev pub ReadsLoosely : List MadeVertex → Sub → Sub → Type 0
ReadsLoosely vertices reader producer = Contains (reads_from vertices reader) producer

-- finished readers of a member are members
abbrev pub HasReaders : List MadeVertex → List Sub → Type 0
HasReaders vertices set = (reader producer : Sub) → IsTrue (is_finished vertices reader)
    → ReadsLoosely vertices reader producer → Contains set producer → Contains set reader

-- a set that the two rules don't lead out of
pub record IsClosed (vertices : List MadeVertex) (gone : List PartName)
    (set : List Sub) : Type 0 where
  pub lost : (sub : Sub) → IsGone vertices gone sub → IsWanted vertices set sub → Contains set sub
  pub readers : HasReaders vertices set

-- by vertex, and then by subtask
abbrev pub IsBefore : Sub → Sub → Type 0
IsBefore a b = (a.vertex < b.vertex) ⊎ ((a.vertex ≡ b.vertex) × (a.subtask < b.subtask))

-- the least closed set, in ascending order and each once
pub record IsClosure (vertices : List MadeVertex) (gone : List PartName)
    (set : List Sub) : Type 0 where
  pub ascending : AllPairs IsBefore set
  pub finished : All (λ sub. IsTrue (is_finished vertices sub)) set
  pub closed : IsClosed vertices gone set
  pub least : (other : List Sub) → IsClosed vertices gone other
      → All (λ sub. Contains other sub) set
