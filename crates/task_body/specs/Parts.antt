-- What a task gives: the bytes of its outputs' cells.
use Rattle.std.specs.Prelude.{◌≡◌, ℕ, List, length, map}
use Rattle.std.specs.Coded.{×_prop, Σ_prop, Π_prop, Coded-set, coded_list, coded_ℕ}
use Rattle.bag_laws.specs.Rows.{OneRow as Row}
use Rattle.part_store.specs.Cells.{cell_in}
use Rattle.row_view.specs.Encoded.{Spells}
use Rattle.task_parts.specs.Tasks.{TaskMay}
use Rattle.task_body.specs.Once.{may_once, spelled_once}
use Rattle.task_body.specs.TaskRows.{task_rows, task_width}
use Rattle.task_body.specs.declared.task.Task.{Task}

-- each cell spells rows of this width; one that the edges lack has none
abbrev pub SpellRows : ℕ → List (List (List ℕ)) → Type 0
SpellRows width edges =
    (e c : ℕ) → (rows : List Row) × Spells width (cell_in edges e c) rows

-- the rows that they spell are some that the task may give
abbrev pub AreGiven : (task : Task) (edges : List (List (List ℕ))) → SpellRows (task_width task) edges
    → Type 0
AreGiven task edges spelled =
    TaskMay task.name.attempt task.vertex.outputs (task_rows task) (λ e c. (spelled e c).0)

-- the outputs have their cells, which spell rows that the task may give
abbrev pub Gives : Task → List (List (List ℕ)) → Type 0
Gives task edges =
    (map length edges ≡ map (λ output. output.cells) task.vertex.outputs)
    × ((spelled : SpellRows (task_width task) edges) × AreGiven task edges spelled)

pub gives_once : (task : Task) (edges : List (List (List ℕ))) → IsProp (Gives task edges)
gives_once task edges =
    ×_prop
    (Coded-set (coded_list coded_ℕ) (map length edges) (map (λ output. output.cells) task.vertex.outputs))
    (Σ_prop
    (Π_prop (λ e. Π_prop (λ c. spelled_once (task_width task) (cell_in edges e c))))
    (λ spelled. may_once task.name.attempt task.vertex.outputs (task_rows task) (λ e c. (spelled e c).0)))
