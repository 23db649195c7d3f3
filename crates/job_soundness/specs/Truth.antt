-- Which parts that were done are true, by what the shelf was ever given.
use Rattle.std.specs.Prelude.{◌≡◌, ℕ, ⊤, List, [], ◌∷◌, length, map, All, Contains}
use Rattle.estate.specs.Holding.{StoredPart}
use Rattle.estate.specs.Parts.{cell_of, edges_of}
use Rattle.estate.specs.declared.part_name.PartName.{PartName}
use Rattle.graph_model.specs.declared.event.Event.{Event}
use Rattle.graph_model.specs.declared.event.Event.TheVariants.{Done}
use Rattle.graph_model.specs.Legal.{after}
use Rattle.graph_model.specs.Reading.{Parts}
use Rattle.graph_model.specs.States.{State}
use Rattle.plan_composition.specs.Tasks.{Stored, IsTruePart}
use Rattle.job_soundness.specs.Decoded.{AreRows, rows_in}
use Rattle.job_soundness.specs.Jobs.{Files, Job}

-- a part of this name was put
abbrev pub WasPut : List StoredPart → PartName → Type 0
WasPut ever name = (part : StoredPart) × Contains ever part × (part.name ≡ name)

-- the rows that the cells of parts have
abbrev pub part_rows : List StoredPart → Parts
part_rows ever name edge cell = rows_in (cell_of name edge cell ever)

abbrev pub stored_in : Files → List StoredPart → Stored
stored_in files ever = record { files = files; parts = part_rows ever }

-- the part and those that it read were put; its cells have these sizes and are rows, such as its
-- task may give of what it read
pub record IsDoneTruly (job : Job) (files : Files) (ever : List StoredPart) (state : State)
    (name : PartName) (inputs : List PartName) (sizes : List (List ℕ)) : Type 0 where
  pub put : WasPut ever name
  pub read : All (WasPut ever) inputs
  pub sized : sizes ≡ map (λ cells. map length cells) (edges_of name ever)
  pub rows : (edge cell : ℕ) → AreRows (cell_of name edge cell ever)
  pub may : IsTruePart job.given (stored_in files ever) state.vertices state.widened name inputs

abbrev pub IsTrueEvent : Job → Files → List StoredPart → State → Event → Type 0
IsTrueEvent job files ever state (Done name inputs sizes) =
    IsDoneTruly job files ever state name inputs sizes
IsTrueEvent job files ever state _ = ⊤

-- each part that was done is such a one, by the state that it came to
abbrev pub AreTrue : Job → Files → List StoredPart → State → List Event → Type 0
AreTrue job files ever state [] = ⊤
AreTrue job files ever state (event ∷ events) =
    IsTrueEvent job files ever state event
    × AreTrue job files ever (after job.given state event) events
