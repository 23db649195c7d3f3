-- Which work of earlier runs is kept.
use Rattle.std.specs.Prelude.{◌≢◌, ⊤, IsTrue, List, [], ◌∷◌, Contains}
use Rattle.estate.specs.declared.part_name.PartName.{PartName}
use Rattle.graph_model.specs.Closures.{IsClosure}
use Rattle.graph_model.specs.States.{is_finished, sub_of}
use Rattle.graph_model.specs.declared.event.Event.{Event}
use Rattle.graph_model.specs.declared.sub.Sub.{Sub}
use Rattle.job_soundness.specs.Jobs.{Job}
use Rattle.job_soundness.specs.Starts.{state_of}
use Rattle.core_model.specs.declared.step.Step.{Step}
use Rattle.core_model.specs.declared.step.Step.TheVariants.{Deploy, Reset}
use Rattle.core_model.specs.Moves.{AreGone}

-- finished, and not among those that run again where what is not held is gone
pub record IsKept (job : Job) (events : List Event) (held : List PartName) (sub : Sub)
    : Type 0 where
  pub finished : IsTrue (is_finished (state_of job events).vertices sub)
  pub apart : (gone : List PartName) (set : List Sub)
      → AreGone (state_of job events).vertices held gone
      → IsClosure (state_of job events).vertices gone set → Contains set sub → ⊥

-- the step resets the subtask
abbrev pub IsResetBy : Step → Sub → Type 0
IsResetBy (Reset gone subs) sub = Contains subs sub
IsResetBy _ sub = ⊥

-- and deploys none of its attempts
abbrev pub DeploysOthers : Step → Sub → Type 0
DeploysOthers (Deploy name worker) sub = sub_of name ≢ sub
DeploysOthers _ sub = ⊤

-- as long as no reset has the subtask, none of its attempts is deployed
abbrev pub KeepsWork : Sub → List Step → Type 0
KeepsWork sub [] = ⊤
KeepsWork sub (step ∷ steps) =
    DeploysOthers step sub × ((IsResetBy step sub → ⊥) → KeepsWork sub steps)
