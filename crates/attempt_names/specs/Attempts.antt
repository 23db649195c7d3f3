-- The names of attempts.
use Rattle.std.specs.Prelude.{ℕ, Bool, List, [], ◌==◌, ◌&&◌, count_by}
use Rattle.estate.specs.declared.part_name.PartName.{PartName}

-- all names that were given, in order, and those whose attempts still run
pub record Attempts : Type 0 where
  pub given : List PartName
  pub running : List PartName

-- no name was given
abbrev pub no_attempts : Attempts
no_attempts = record { given = []; running = [] }

-- whether the attempt is one of this subtask
abbrev pub is_of : ℕ → ℕ → PartName → Bool
is_of vertex subtask name = name.vertex == vertex && name.subtask == subtask

-- how many of the names are a subtask's in an epoch
abbrev pub tries : List PartName → ℕ → ℕ → ℕ → ℕ
tries names vertex subtask epoch =
    count_by (λ name. is_of vertex subtask name && name.epoch == epoch) names

-- the name of a subtask's next attempt in an epoch
abbrev pub next_name : List PartName → ℕ → ℕ → ℕ → PartName
next_name names vertex subtask epoch = record {
  vertex = vertex;
  subtask = subtask;
  epoch = epoch;
  attempt = tries names vertex subtask epoch;
}
