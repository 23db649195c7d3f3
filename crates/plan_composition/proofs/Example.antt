-- Of the job of a source and a sink over one file of 29 bytes, the part with the file's rows is true: such executions are.
use Rattle.std.proofs.Common.{◌≡◌, ℕ, zero, suc, ◌<◌, List, [], ◌∷◌, ◌++◌, length, get_or, refl, sym, ◌∙◌, ap, subst, arith, false}
use Rattle.std.proofs.lemmas.List.{append-nil}
use Rattle.row_core.specs.Bags.{SameBag}
use Rattle.bag_laws.specs.Rows.{OneRow as Row}
use Rattle.bag_laws.proofs.Laws.{same_refl}
use Rattle.estate.specs.declared.part_name.PartName.{PartName}
use Rattle.plan_model.specs.Settings.{default_values}
use Rattle.plan_model.specs.Tables.{table_rows}
use Rattle.plan_model.specs.declared.node.Node.{Node}
use Rattle.plan_model.specs.declared.op.Op.TheVariants.{Source, Sink}
use Rattle.rect_cover.specs.Cells.{Reads}
use Rattle.task_parts.specs.Tasks.{IsCut}
use Rattle.vertex_builder.specs.Vertices.{text_output}
use Rattle.graph_model.specs.declared.event.Event.{Event}
use Rattle.graph_model.specs.declared.event.Event.TheVariants.{Opened, Made, Decided, Done, Ended}
use Rattle.graph_model.specs.States.{Given}
use Rattle.graph_model.proofs.Laws.{finishes}
use Rattle.plan_composition.specs.Results.{IsRun}
use Rattle.plan_composition.specs.Tasks.{Stored}

abbrev nodes : List Node
nodes = record { op = Source (1 ∷ []) []; inputs = []; rebalance = false } ∷ record { op = Sink (2 ∷ []); inputs = 0 ∷ []; rebalance = false } ∷ []

abbrev given : Given
given = record { nodes = nodes; settings = default_values; files = (29 ∷ []) ∷ [] }

abbrev decision : List Reads
decision = ((record { p0 = 0; p1 = 1; s0 = 0; s1 = 1 } ∷ []) ∷ []) ∷ []

abbrev name : PartName
name = record { vertex = 0; subtask = 0; epoch = 1; attempt = 0 }

abbrev events : List Event
events = Opened 1 ∷ Made 0 (0 ∷ 1 ∷ []) ∷ Decided 0 decision ∷ Done name [] ((29 ∷ []) ∷ []) ∷ Ended false ∷ []

module _ (bytes : List ℕ) (long : length bytes ≡ 29) where
  abbrev rows : List Row
  rows = table_rows [] bytes

  abbrev stored : Stored
  stored = record { files = λ table. bytes ∷ []; parts = λ part e c. rows }

  -- what the chain gives of the one file
  given_rows : (rows ++ []) ++ [] ≡ rows
  given_rows = append-nil (rows ++ []) ∙ append-nil rows

  cut : (e : ℕ) → e < 1 → IsCut 0 text_output ((rows ++ []) ++ []) (stored.parts name e)
  cut e lt = record { sum = subst (SameBag rows) (sym given_rows) (same_refl rows); goes = refl }

  pub runs : IsRun given stored events
  runs = record {
    accepted = refl;
    sizes = ap (λ (n : ℕ). (n ∷ []) ∷ []) (sym long);
    legal = finishes;
    true_parts = (tt, (tt, (tt, (record { each = at }, (tt, tt)))));
  }
    where
      at : (e : ℕ) → e < 1 → IsCut 0 (get_or (text_output ∷ []) e text_output) ((rows ++ []) ++ []) (stored.parts name e)
      at zero lt = cut 0 lt
      at (suc e) lt = absurd (omega (arith, lt))
