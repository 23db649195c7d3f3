-- The state that events lead to: what was made, what was decided, and which attempts have won.
use Rattle.std.specs.Prelude.{ℕ, ◌&&◌, nat_lt, Bool, List, [], ◌∷◌, map, length, get_or, set, Option, None, if◌then◌else◌}
use Rattle.std.specs.List.{list_all, flat_map, position_or_len}
use Rattle.std.specs.Option.{is_some, option_map}
use Rattle.plan_model.specs.declared.node.Node.{Node}
use Rattle.plan_model.specs.declared.setting_values.SettingValues.{SettingValues}
use Rattle.rect_cover.specs.Cells.{Reads}
use Rattle.vertex_builder.specs.Chains.{is_among}
use Rattle.vertex_builder.specs.declared.widening.Widening.{Widening}
use Rattle.graph_model.specs.declared.sub.Sub.{Sub}
use Rattle.estate.specs.declared.part_name.PartName.{PartName}
use Rattle.graph_model.specs.declared.win.Win.{Win}
use Rattle.graph_model.specs.declared.subtask_state.SubtaskState.{SubtaskState}
use Rattle.graph_model.specs.declared.made_vertex.MadeVertex.{MadeVertex}

-- a job's plan and settings, and the sizes of each table's files
pub record Given : Type 0 where
  pub nodes : List Node
  pub settings : SettingValues
  pub files : List (List ℕ)

-- the last epoch, the vertices that were made, the joins that were widened, the parts of all
-- attempts that won, the number of troubles, and how the job ended: failed or not
pub record State : Type 0 where
  pub epoch : ℕ
  pub vertices : List MadeVertex
  pub widened : List Widening
  pub dones : List PartName
  pub troubles : ℕ
  pub ended : Option Bool

-- a job that is started, of which nothing is made
abbrev pub started : State
started = record {
  epoch = 0;
  vertices = [];
  widened = [];
  dones = [];
  troubles = 0;
  ended = None;
}

-- ---- looking up

abbrev pub no_subtask : SubtaskState
no_subtask = record { reads = []; winner = None }

abbrev pub no_vertex : MadeVertex
no_vertex = record { vertex = record { nodes = []; inputs = []; outputs = [] }; subtasks = [] }

-- the vertex of this number; one past the last has no nodes and no subtasks
abbrev pub vertex_at : List MadeVertex → ℕ → MadeVertex
vertex_at vertices v = get_or vertices v no_vertex

abbrev pub subtasks_at : List MadeVertex → ℕ → List SubtaskState
subtasks_at vertices v = (vertex_at vertices v).subtasks

abbrev pub subtask_at : List MadeVertex → Sub → SubtaskState
subtask_at vertices sub = get_or (subtasks_at vertices sub.vertex) sub.subtask no_subtask

-- the attempt that won for a subtask
abbrev pub winner_at : List MadeVertex → Sub → Option Win
winner_at vertices sub = (subtask_at vertices sub).winner

-- the name of its part
abbrev pub winner_name : List MadeVertex → Sub → Option PartName
winner_name vertices sub = option_map (λ win. win.name) (winner_at vertices sub)

abbrev pub is_finished : List MadeVertex → Sub → Bool
is_finished vertices sub = is_some (winner_at vertices sub)

-- the subtask of a part
abbrev pub sub_of : PartName → Sub
sub_of name = record { vertex = name.vertex; subtask = name.subtask }

-- the number of the vertex that has the node; the number of vertices where none has
abbrev pub maker : List MadeVertex → ℕ → ℕ
maker vertices node = position_or_len (λ made. is_among made.vertex.nodes node) vertices

-- a vertex has no subtasks until it is decided
abbrev pub is_decided : MadeVertex → Bool
is_decided made = nat_lt 0 (length made.subtasks)

abbrev pub are_won : List SubtaskState → Bool
are_won subtasks = list_all (λ subtask. is_some subtask.winner) subtasks

-- decided, and each subtask has a winner
abbrev pub is_complete : MadeVertex → Bool
is_complete made = is_decided made && are_won made.subtasks

-- the nodes that are made
abbrev pub made_nodes : List MadeVertex → List ℕ
made_nodes vertices = flat_map (λ made. made.vertex.nodes) vertices

-- the nodes of complete vertices
abbrev pub complete_nodes : List MadeVertex → List ℕ
complete_nodes vertices =
    flat_map (λ made. if is_complete made then made.vertex.nodes else []) vertices

-- ---- changing

abbrev pub won_at : List SubtaskState → ℕ → Option Win → List SubtaskState
won_at subtasks k winner =
    set subtasks k (record (get_or subtasks k no_subtask) { winner = winner })

abbrev pub with_winner : MadeVertex → ℕ → Option Win → MadeVertex
with_winner made k winner = record made { subtasks = won_at made.subtasks k winner }

-- the subtask has this winner, or none
abbrev pub put_winner : List MadeVertex → Sub → Option Win → List MadeVertex
put_winner vertices sub winner =
    set vertices sub.vertex (with_winner (vertex_at vertices sub.vertex) sub.subtask winner)

-- without the winners of these subtasks
abbrev pub without_winners : List MadeVertex → List Sub → List MadeVertex
without_winners vertices [] = vertices
without_winners vertices (sub ∷ subs) = without_winners (put_winner vertices sub None) subs

-- a subtask that reads these rects, and has no winner yet
abbrev pub unwon : Reads → SubtaskState
unwon reads = record { reads = reads; winner = None }

-- the vertex is decided
abbrev pub put_decision : List MadeVertex → ℕ → List Reads → List MadeVertex
put_decision vertices v decision =
    set vertices v (record (vertex_at vertices v) { subtasks = map unwon decision })
