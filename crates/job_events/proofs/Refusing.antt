-- Why a graph does not take an event: its calls' refusals, and attempts that do not win.
use Rattle.std.specs.Prelude.{IfErr, OnErr}
use Rattle.std.specs.List.{AllZip}
use Rattle.std.specs.Option.{option_map}
use Rattle.std.proofs.Common.{◌≡◌, ◌≢◌, ℕ, zero, suc, ◌<◌, List, [], ◌∷◌, length, get_or, Option, Some, None, Result, Ok, Err, refl, sym, ap, ◌∙◌, arith}
use Rattle.estate.specs.declared.part_name.PartName.{PartName}
use Rattle.event_graph.specs.Graphs.{JobState, Refuses}
use Rattle.event_graph.specs.declared.graph_error.GraphError.{GraphError}
use Rattle.event_graph.specs.declared.graph_error.GraphError.TheVariants.{NotCover, Illegal, NoMemory}
use Rattle.graph_model.proofs.Laws.{none_is_some, some_is}
use Rattle.graph_model.specs.declared.event.Event.{Event}
use Rattle.graph_model.specs.declared.event.Event.TheVariants.{Decided}
use Rattle.graph_model.specs.declared.made_vertex.MadeVertex.{MadeVertex}
use Rattle.graph_model.specs.declared.sub.Sub.{Sub}
use Rattle.graph_model.specs.declared.win.Win.{Win}
use Rattle.graph_model.specs.Legal.{IsDecidable, IsLegal, IsNamed, MayWin}
use Rattle.graph_model.specs.Reads.{ReadEdge, read_edges, shape_at}
use Rattle.graph_model.specs.States.{Given, State, sub_of, vertex_at, winner_at, winner_name}
use Rattle.graph_model.specs.Valid.{IsValid}
use Rattle.graph_vertices.specs.Winning.{IsFirstStale}
use Rattle.rect_cover.specs.Cells.{Reads}
use Rattle.rect_cover.specs.Covers.{IsCover}
use Rattle.job_events.specs.Applied.{IsIllegal, IsUncovered, IsWhyNot}

-- ---- the refusals of the graph's calls

pub only_illegal : {T : Type 0} (old new : JobState) (event : Event) → ((IsLegal old.given old.state event → ⊥) → IsIllegal old event) → (answer : Result T GraphError)
    → IfErr answer (λ error. (error ≡ Illegal) × Refuses old event new) → IfErr answer (IsWhyNot old event)
only_illegal old new event plain (Ok x) refused = tt
only_illegal old new event plain (Err NotCover) refused = absurd (let same : NotCover ≡ Illegal = refused.0 in cc)
only_illegal old new event plain (Err Illegal) refused = plain refused.1.illegal
only_illegal old new event plain (Err NoMemory) refused = tt

pub refused_same : {T : Type 0} (old new : JobState) (event : Event) (answer : Result T GraphError)
    → IfErr answer (λ error. (error ≡ Illegal) × Refuses old event new) → OnErr answer (new ≡ old)
refused_same old new event (Ok x) refused = tt
refused_same old new event (Err error) refused = refused.1.same

pub no_cover : {T : Type 0} (old new : JobState) (event : Event) → ((IsLegal old.given old.state event → ⊥) → IsIllegal old event) → (answer : Result T GraphError)
    → IfErr answer (λ error. error ≡ Illegal → Refuses old event new) → IfErr answer (λ error. error ≢ NotCover) → IfErr answer (IsWhyNot old event)
no_cover old new event plain (Ok x) illegal never = tt
no_cover old new event plain (Err NotCover) illegal never = absurd (never refl)
no_cover old new event plain (Err Illegal) illegal never = plain (illegal refl).illegal
no_cover old new event plain (Err NoMemory) illegal never = tt

pub undecided : {T : Type 0} (job : JobState) (vertex : ℕ) (decision : List Reads) (answer : Result T GraphError)
    → IfErr answer (λ error. error ≡ Illegal → IsDecidable job.given job.state vertex → ⊥)
    → IfErr answer (λ error. error ≡ NotCover → IsDecidable job.given job.state vertex × (IsCover (shape_at job.given job.state.vertices (vertex_at job.state.vertices vertex).vertex) decision → ⊥))
    → IfErr answer (IsWhyNot job (Decided vertex decision))
undecided job vertex decision (Ok x) illegal uncovered = tt
undecided job vertex decision (Err NotCover) illegal uncovered = uncovered refl
undecided job vertex decision (Err Illegal) illegal uncovered = illegal refl
undecided job vertex decision (Err NoMemory) illegal uncovered = tt

not_legal : (job : JobState) (event : Event) → IsIllegal job event → IsLegal job.given job.state event → ⊥
not_legal job (Decided vertex decision) illegal legal = illegal legal.decidable
not_legal job event illegal legal = illegal legal

not_covered : (job : JobState) (event : Event) → IsUncovered job event → IsLegal job.given job.state event → ⊥
not_covered job (Decided vertex decision) why legal = why.1 legal.cover
not_covered job event why legal = why

-- an error but want of memory says that the event is not legal
pub why_not : (job : JobState) (event : Event) (error : GraphError) → error ≢ NoMemory → IsWhyNot job event error → IsLegal job.given job.state event → ⊥
why_not job event NotCover other why legal = not_covered job event why legal
why_not job event Illegal other why legal = not_legal job event why legal
why_not job event NoMemory other why legal = other refl

-- ---- attempts that do not win

pub double : (given : Given) (state : State) (name winner : PartName) (inputs : List PartName) (sizes : List (List ℕ)) → winner_name state.vertices (sub_of name) ≡ Some winner → MayWin given state name inputs sizes → ⊥
double given state name winner inputs sizes won may =
    none_is_some winner (sym (ap (option_map (λ (win : Win). win.name)) may.unfinished.unwon) ∙ won)

-- a winner's part is its subtask's own
own_part : (given : Given) (state : State) (sub : Sub) (name : PartName) → IsValid given state → winner_name state.vertices sub ≡ Some name → sub_of name ≡ sub
own_part given state sub name valid won = at (winner_at state.vertices sub) refl won
  where
    at : (won : Option Win) → winner_at state.vertices sub ≡ won → option_map (λ (win : Win). win.name) won ≡ Some name → sub_of name ≡ sub
    at None is named = absurd (none_is_some name named)
    at (Some win) is named = ap sub_of (sym (some_is win.name name named)) ∙ (valid.winners sub win is).own

-- what is named at a place is a winner's part
named_at : (vertices : List MadeVertex) (edges : List ReadEdge) (names : List PartName) (at : ℕ) (name : PartName) → AllZip (IsNamed vertices) edges names → at < length names
    → (sub : Sub) × (winner_name vertices sub ≡ Some (get_or names at name))
named_at vertices [] [] at name all lt = absurd (omega arith)
named_at vertices [] (other ∷ names) at name all lt = absurd all
named_at vertices (edge ∷ edges) [] at name all lt = absurd all
named_at vertices (edge ∷ edges) (other ∷ names) zero name all lt = (edge.sub, all.0)
named_at vertices (edge ∷ edges) (other ∷ names) (suc at) name all lt = named_at vertices edges names at name all.1 (omega arith)

pub stale : (given : Given) (state : State) (name input : PartName) (inputs : List PartName) (sizes : List (List ℕ)) → IsValid given state → IsFirstStale state.vertices inputs input → MayWin given state name inputs sizes → ⊥
stale given state name input inputs sizes valid first may =
    let found = named_at state.vertices (read_edges state.vertices (sub_of name)) inputs first.at input may.named first.within in
    let won : winner_name state.vertices found.0 ≡ Some input = found.1 ∙ ap Some first.is in
    let own : sub_of input ≡ found.0 = own_part given state found.0 input valid won in
    first.stale (ap (winner_name state.vertices) own ∙ won)
