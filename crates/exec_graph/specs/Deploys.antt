-- What a deploy gives, and what a dropped attempt leaves.
use Rattle.std.specs.Prelude.{◌≡◌, ℕ, List, [], ◌∷◌, ◌++◌, filter, not}
use Rattle.std.specs.List.{AllZip}
use Rattle.attempt_names.specs.Attempts.{Attempts, next_name}
use Rattle.estate.specs.Parts.{is_same_name}
use Rattle.estate.specs.declared.part_name.PartName.{PartName}
use Rattle.graph_model.specs.declared.made_vertex.MadeVertex.{MadeVertex}
use Rattle.graph_model.specs.declared.sub.Sub.{Sub}
use Rattle.graph_model.specs.Legal.{IsNamed}
use Rattle.graph_model.specs.Reads.{read_edges}

-- the subtask's next name of the epoch, whose attempt runs from then on, and the names of the
-- winners' parts that it reads
pub record IsDeploy (vertices : List MadeVertex) (old new : Attempts) (sub : Sub) (epoch : ℕ)
    (name : PartName) (inputs : List PartName) : Type 0 where
  pub next : name ≡ next_name old.given sub.vertex sub.subtask epoch
  pub named : AllZip (IsNamed vertices) (read_edges vertices sub) inputs
  pub given : new.given ≡ old.given ++ name ∷ []
  pub running : new.running ≡ old.running ++ name ∷ []

-- the attempt runs no more
abbrev pub without_name : Attempts → PartName → Attempts
without_name attempts name = record attempts {
  running = filter (λ other. not (is_same_name other name)) attempts.running;
}
