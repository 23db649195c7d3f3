-- What a graph keeps.
use Rattle.std.specs.Prelude.{◌≡◌, ℕ, ◌<◌, ◌^◌, Bool, not, List, [], length, All, count_by}
use Rattle.std.specs.List.{range_with_len}
use Rattle.plan_model.specs.Checks.{plan_faults}
use Rattle.graph_model.specs.declared.made_vertex.MadeVertex.{MadeVertex}
use Rattle.graph_model.specs.States.{Given, State, vertex_at, maker, is_decided}
use Rattle.graph_model.specs.Valid.{IsValid}
use Rattle.event_graph.specs.Numbers.{IsNumbering, Numbering}

-- the node is in no decided vertex
abbrev pub is_undecided : List MadeVertex → ℕ → Bool
is_undecided vertices node = not (is_decided (vertex_at vertices (maker vertices node)))

-- how many nodes of the plan are in no decided vertex
abbrev pub undecided_nodes : Given → List MadeVertex → ℕ
undecided_nodes given vertices =
    count_by (is_undecided vertices) (range_with_len 0 (length given.nodes))

-- the plan has no fault, each table's files have u32 numbers, the state is valid, its subtasks are
-- numbered, and the nodes in no decided vertex are counted
pub record IsKept (given : Given) (state : State) (numbering : Numbering)
    (undecided : ℕ) : Type 0 where
  pub faultless : plan_faults given.nodes ≡ []
  pub few : All (λ sizes. length sizes < 2 ^ 32) given.files
  pub valid : IsValid given state
  pub numbered : IsNumbering state.vertices numbering
  pub undecided_is : undecided ≡ undecided_nodes given state.vertices
