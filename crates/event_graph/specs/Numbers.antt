-- The numbers of subtasks: those of a vertex follow one another, from its place on.
use Rattle.std.specs.Prelude.{◌≡◌, ℕ, suc, ◌+◌, ◌<◌, ◌≤◌, List, [], ◌∷◌, ◌++◌, Bool, length, map, get_or, All}
use Rattle.std.specs.Option.{option_map_or}
use Rattle.rect_cover.specs.Cells.{Reads, rects_of}
use Rattle.rect_cover.specs.declared.rect.Rect.{Rect}
use Rattle.vertex_builder.specs.declared.vertex_input.VertexInput.{VertexInput}
use Rattle.std.specs.List.{list_all, range_with_len}
use Rattle.graph_model.specs.declared.made_vertex.MadeVertex.{MadeVertex}
use Rattle.graph_model.specs.declared.sub.Sub.{Sub}
use Rattle.graph_model.specs.Indexes.{sub_at}
use Rattle.graph_model.specs.Reads.{reads_from, touched}
use Rattle.graph_model.specs.States.{subtasks_at, is_finished, maker}
use Rattle.reader_index.specs.Tasks.{Tasks, is_done, reads_of}

-- the first number of each vertex's subtasks, the subtask of each number, and who reads from whom
pub record Numbering : Type 0 where
  pub places : List ℕ
  pub subs : List Sub
  pub tasks : Tasks

abbrev pub number_of : Numbering → Sub → ℕ
number_of numbering sub = get_or numbering.places sub.vertex 0 + sub.subtask

-- the subtasks that a numbered one reads from
abbrev pub subs_read : Numbering → ℕ → List Sub
subs_read numbering n =
    map (λ read. sub_at numbering.subs read.producer) (reads_of numbering.tasks n)

-- the subtask's number is its own
pub record IsNumbered (numbering : Numbering) (sub : Sub) : Type 0 where
  pub within : number_of numbering sub < length numbering.subs
  pub is : sub_at numbering.subs (number_of numbering sub) ≡ sub

-- the number is a decided subtask's: its task is done where it has won, and reads what it reads
pub record HasNumber (vertices : List MadeVertex) (numbering : Numbering) (n : ℕ) : Type 0 where
  pub decided : (sub_at numbering.subs n).subtask
      < length (subtasks_at vertices (sub_at numbering.subs n).vertex)
  pub is : number_of numbering (sub_at numbering.subs n) ≡ n
  pub done : is_done numbering.tasks.done n ≡ is_finished vertices (sub_at numbering.subs n)
  pub reads : subs_read numbering n ≡ reads_from vertices (sub_at numbering.subs n)

-- the subtasks of the decided vertices are numbered, with what they read and whether they have won
pub record IsNumbering (vertices : List MadeVertex) (numbering : Numbering) : Type 0 where
  pub readers : All (λ read. read.reader < length numbering.tasks.done) numbering.tasks.reads
  pub producers : All (λ read. read.producer < length numbering.tasks.done) numbering.tasks.reads
  pub places_len : length vertices ≤ length numbering.places
  pub subs_len : length numbering.subs ≡ length numbering.tasks.done
  pub numbered : (sub : Sub) → sub.subtask < length (subtasks_at vertices sub.vertex)
      → IsNumbered numbering sub
  pub numbers : (n : ℕ) → n < length numbering.subs → HasNumber vertices numbering n

-- the subtasks of a vertex
abbrev pub own_subs : ℕ → ℕ → List Sub
own_subs v count = map (λ k. record { vertex = v; subtask = k }) (range_with_len 0 count)

-- ---- what a decision reads, by numbers

-- the numbers of the producers that the rects touch, of the vertex that has the node
abbrev pub node_numbers : Numbering → List MadeVertex → List Rect → ℕ → List ℕ
node_numbers numbering vertices rects node =
    let producer = maker vertices node in
    map (λ p. get_or numbering.places producer 0 + p)
    (touched rects (length (subtasks_at vertices producer)))

abbrev pub input_numbers : Numbering → List MadeVertex → VertexInput → List Rect → List ℕ
input_numbers numbering vertices input rects =
    option_map_or (node_numbers numbering vertices rects) input.from []

-- by input, which are numbered from first on
abbrev pub inputs_numbers : Numbering → List MadeVertex → List VertexInput → ℕ → Reads → List ℕ
inputs_numbers numbering vertices [] first reads = []
inputs_numbers numbering vertices (input ∷ inputs) first reads =
    input_numbers numbering vertices input (rects_of reads first)
    ++ inputs_numbers numbering vertices inputs (suc first) reads

-- ---- what is fed

-- what a subtask reads from has winners
abbrev pub is_fed : List MadeVertex → Sub → Bool
is_fed vertices sub = list_all (is_finished vertices) (reads_from vertices sub)
