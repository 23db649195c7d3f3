-- A job of a source, a filter and a sink, over one file, has a fold that ends finished.
use Rattle.std.proofs.Common.{◌≡◌, ℕ, zero, suc, ◌+◌, ◌<◌, ◌≤◌, List, [], ◌∷◌, get_or, slice_get, refl, sym, subst, arith, false, None, Some}
use Rattle.std.specs.Prelude.{drop}
use Rattle.std.specs.List.{AllZip, sum_by}
use Rattle.rect_cover.specs.declared.shape_kind.ShapeKind.TheVariants.{RowWise}
use Rattle.vertex_builder.specs.declared.vertex_input.VertexInput.{VertexInput}
use Rattle.std.proofs.lemmas.List.Elements.{All-nil, All-cons}
use Rattle.estate.specs.declared.part_name.PartName.{PartName}
use Rattle.plan_model.specs.Settings.{default_values}
use Rattle.plan_model.specs.declared.node.Node.{Node}
use Rattle.plan_model.specs.declared.op.Op.TheVariants.{Source, Sink}
use Rattle.rect_cover.specs.Cells.{Reads, rects_of, times}
use Rattle.rect_cover.specs.Covers.{LiesIn, IsInput, HasWhole, EachOnce, IsCover}
use Rattle.rect_cover.specs.declared.grid.Grid.{Grid}
use Rattle.rect_cover.specs.declared.rect.Rect.{Rect}
use Rattle.vertex_builder.specs.Chains.{IsChain}
use Rattle.vertex_builder.specs.Edges.{chained_after}
use Rattle.graph_model.proofs.Items.{none_is_some, some_is}
use Rattle.graph_model.specs.declared.event.Event.TheVariants.{Opened, Made, Decided, Done, Ended}
use Rattle.graph_model.specs.Folds.{HasFold}
use Rattle.graph_model.specs.Legal.{IsDecidable, IsFilled, IsOpen, IsDone, after}
use Rattle.graph_model.specs.States.{Given, State, started, vertex_at}

abbrev nodes : List Node
nodes = record { op = Source (1 ∷ []) []; inputs = []; rebalance = false } ∷ record { op = Sink (2 ∷ []); inputs = 0 ∷ []; rebalance = false } ∷ []

abbrev given : Given
given = record { nodes = nodes; settings = default_values; files = (29 ∷ []) ∷ [] }

abbrev rect : Rect
rect = record { p0 = 0; p1 = 1; s0 = 0; s1 = 1 }

abbrev decision : List Reads
decision = ((rect ∷ []) ∷ []) ∷ []

abbrev name : PartName
name = record { vertex = 0; subtask = 0; epoch = 1; attempt = 0 }

abbrev grid : Grid
grid = record { producers = 1; cells = 1; sizes = [] }

abbrev opened : State
opened = after given started (Opened 1)

abbrev made : State
made = after given opened (Made 0 (0 ∷ 1 ∷ []))

abbrev decided : State
decided = after given made (Decided 0 decision)

abbrev won : State
won = after given decided (Done name [] ((29 ∷ []) ∷ []))

open_here : (state : State) → state.ended ≡ None → state.troubles ≡ 0 → IsOpen given state
open_here state e t = record { ended = e; troubles = subst (λ (n : ℕ). n ≤ 3) (sym t) (omega arith) }

chain : IsChain nodes [] 0 (0 ∷ 1 ∷ [])
chain = record { first = refl; next = next }
  where
    next : (k : ℕ) → k < 2 → slice_get (0 ∷ 1 ∷ []) (k + 1) ≡ chained_after nodes [] (get_or (0 ∷ 1 ∷ []) k 0)
    next zero lt = refl
    next (suc zero) lt = refl
    next (suc (suc k)) lt = absurd (omega (arith, lt))

at_zero : (P : ℕ → ℕ → Type 0) → P 0 0 → (p s : ℕ) → p < 1 → s < 1 → P p s
at_zero P h p s lt less =
    let a : 0 ≡ p = omega (arith, lt) in
    let b : 0 ≡ s = omega (arith, less) in
    subst (λ (n : ℕ). P n s) a (subst (λ (n : ℕ). P 0 n) b h)

input : IsInput grid (rect ∷ [])
input = record {
  lie = All-cons (LiesIn grid) rect [] (record { producers = omega arith; last_producer = omega arith; cells = omega arith; last_cell = omega arith }) (All-nil (LiesIn grid));
  single = at_zero (λ p s. times (rect ∷ []) p s ≤ 1) (omega arith);
}

cover : IsCover (record { kind = RowWise; heads = grid ∷ []; wide = [] }) decision
cover = record {
  some = omega arith;
  few = omega arith;
  formed = λ k d lt. at k d lt;
  wide = λ k d lt. at_wide k d lt;
  demand = record { each = λ i g is. once i g is };
}
  where
    at : (k : ℕ) (d : Reads) → k < 1 → AllZip IsInput (grid ∷ []) (get_or decision k d)
    at zero d lt = (input, tt)
    at (suc k) d lt = absurd (omega (arith, lt))

    at_wide : (k : ℕ) (d : Reads) → k < 1 → AllZip HasWhole [] (drop 1 (get_or decision k d))
    at_wide zero d lt = tt
    at_wide (suc k) d lt = absurd (omega (arith, lt))

    once : (i : ℕ) (g : Grid) → slice_get (grid ∷ []) i ≡ Some g → EachOnce g i decision
    once zero g is = subst (λ (x : Grid). EachOnce x 0 decision) (some_is grid g is) (record { once = at_zero (λ p s. sum_by (λ subtask. times (rects_of subtask 0) p s) decision ≡ 1) refl })
    once (suc i) g is = absurd (none_is_some g is)

done : IsDone given won
done zero lt = refl
done (suc zero) lt = refl
done (suc (suc node)) lt = absurd (omega (arith, lt))

pub finishes : HasFold given started (Opened 1 ∷ Made 0 (0 ∷ 1 ∷ []) ∷ Decided 0 decision ∷ Done name [] ((29 ∷ []) ∷ []) ∷ Ended false ∷ [])
finishes = (
  (open_here started refl refl, omega arith),
  (
    record { running = open_here opened refl refl; next = refl; makeable = refl; chain = chain },
    (
      record { decidable = decidable; cover = cover },
      (
        record { running = open_here decided refl refl; epoch = refl; opened = omega arith; unfinished = record { decided = omega arith; unwon = refl }; named = tt; formed = refl },
        ((open_here won refl refl, done), tt),
      ),
    ),
  ),
)
  where
    inputs : (k : ℕ) (d : VertexInput) → k < 1 → IsFilled made.vertices (get_or (vertex_at made.vertices 0).vertex.inputs k d)
    inputs zero d lt = tt
    inputs (suc k) d lt = absurd (omega (arith, lt))

    decidable : IsDecidable given made 0
    decidable = record { running = open_here made refl refl; made = omega arith; undecided = refl; inputs = λ k d lt. inputs k d lt }
