-- Subtasks by their numbers: their places in a list.
use Rattle.std.specs.Prelude.{ℕ, List, get_or}
use Rattle.graph_model.specs.declared.sub.Sub.{Sub}

abbrev pub no_sub : Sub
no_sub = record { vertex = 0; subtask = 0 }

-- the subtask of this number
abbrev pub sub_at : List Sub → ℕ → Sub
sub_at subs n = get_or subs n no_sub
