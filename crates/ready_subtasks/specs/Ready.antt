-- Which subtasks are ready for an attempt.
use Rattle.std.specs.Prelude.{ℕ, ◌&&◌, not, Bool, List, length, map, filter}
use Rattle.std.specs.List.{list_all, list_any, flat_map, range_with_len}
use Rattle.std.specs.Option.{is_none}
use Rattle.attempt_names.specs.Attempts.{Attempts, is_of}
use Rattle.graph_model.specs.declared.made_vertex.MadeVertex.{MadeVertex}
use Rattle.graph_model.specs.declared.sub.Sub.{Sub}
use Rattle.graph_model.specs.Reads.{reads_from}
use Rattle.graph_model.specs.States.{subtasks_at, winner_at, is_finished}

abbrev pub sub_in : ℕ → ℕ → Sub
sub_in v k = record { vertex = v; subtask = k }

-- so many subtasks of a vertex
abbrev pub own_subs : ℕ → ℕ → List Sub
own_subs v count = map (sub_in v) (range_with_len 0 count)

-- the subtasks of a vertex, if it is decided
abbrev pub subs_of : List MadeVertex → ℕ → List Sub
subs_of vertices v = own_subs v (length (subtasks_at vertices v))

-- all subtasks, by vertex and then by number
abbrev pub all_subs : List MadeVertex → List Sub
all_subs vertices = flat_map (subs_of vertices) (range_with_len 0 (length vertices))

-- an attempt of the subtask runs
abbrev pub is_running : Attempts → Sub → Bool
is_running attempts sub = list_any (is_of sub.vertex sub.subtask) attempts.running

-- it has no winner, what it reads from has winners, and no attempt of it runs
abbrev pub is_ready : List MadeVertex → Attempts → Sub → Bool
is_ready vertices attempts sub =
    is_none (winner_at vertices sub)
    && list_all (is_finished vertices) (reads_from vertices sub)
    && not (is_running attempts sub)

-- the ready ones, in order
abbrev pub ready_subs : List MadeVertex → Attempts → List Sub
ready_subs vertices attempts = filter (is_ready vertices attempts) (all_subs vertices)
