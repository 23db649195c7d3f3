-- What a graph keeps where winners come and go.
use Rattle.std.proofs.Common.{◌≡◌, ℕ, ◌<◌, ◌^◌, true, List, [], ◌∷◌, ◌++◌, length, Option, Some, refl, sym, ◌∙◌, subst, arith, All}
use Rattle.std.specs.Option.{is_some}
use Rattle.estate.specs.declared.part_name.PartName.{PartName}
use Rattle.plan_model.specs.Checks.{plan_faults}
use Rattle.plan_model.specs.declared.side.Side.{Side}
use Rattle.vertex_builder.specs.declared.widening.Widening.{Widening}
use Rattle.graph_model.specs.declared.event.Event.TheVariants.{Done, Reset, Widened}
use Rattle.graph_model.specs.Legal.{MayReset, MayWiden, MayWin, after}
use Rattle.reader_index.specs.Tasks.{no_tasks}
use Rattle.graph_model.specs.declared.made_vertex.MadeVertex.{MadeVertex}
use Rattle.graph_model.specs.declared.sub.Sub.{Sub}
use Rattle.graph_model.specs.declared.win.Win.{Win}
use Rattle.graph_model.specs.States.{Given, State, started, sub_of, subtasks_at, put_winner, without_winners}
use Rattle.graph_model.specs.Valid.{IsValid}
use Rattle.graph_model.proofs.Laws.{KeepsReads, put-keeps, valid_after, valid_started, without-keeps}
use Rattle.event_graph.specs.Kept.{IsKept}
use Rattle.event_graph.specs.Numbers.{IsNumbering, Numbering}
use Rattle.event_graph.proofs.Numbering.{numbering_put, put_done}
use Rattle.event_graph.proofs.Undecided.{none_undecided, undecided_kept}

-- a subtask has this winner, or none
pub kept_put : (given : Given) (state next : State) (numbering : Numbering) (undecided : ℕ) (sub : Sub) (winner : Option Win) → IsKept given state numbering undecided
    → sub.subtask < length (subtasks_at state.vertices sub.vertex) → next.vertices ≡ put_winner state.vertices sub winner → IsValid given next
    → IsKept given next (put_done numbering sub (is_some winner)) undecided
kept_put given state next numbering undecided sub winner kept has is valid =
    let vs = state.vertices in
    let keeps : KeepsReads vs next.vertices = subst (λ (us : List MadeVertex). KeepsReads vs us) (sym is) (put-keeps vs sub winner) in
    record {
      faultless = kept.faultless;
      few = kept.few;
      valid = valid;
      numbered = subst (λ (us : List MadeVertex). IsNumbering us (put_done numbering sub (is_some winner))) (sym is) (numbering_put vs numbering sub winner kept.numbered has);
      undecided_is = kept.undecided_is ∙ undecided_kept given vs next.vertices keeps;
    }

-- an attempt wins
pub kept_won : (given : Given) (state : State) (numbering : Numbering) (undecided : ℕ) (name : PartName) (inputs : List PartName) (sizes : List (List ℕ)) → IsKept given state numbering undecided
    → MayWin given state name inputs sizes → IsKept given (after given state (Done name inputs sizes)) (put_done numbering (sub_of name) true) undecided
kept_won given state numbering undecided name inputs sizes kept may =
    let win : Win = record { name = name; inputs = inputs; sizes = sizes } in
    kept_put given state (after given state (Done name inputs sizes)) numbering undecided (sub_of name) (Some win) kept may.unfinished.decided refl
    (valid_after given state (Done name inputs sizes) kept.faultless kept.valid may)

-- by what the state is then
pub kept_won_as : (given : Given) (state : State) (numbering next : Numbering) (undecided : ℕ) (name : PartName) (inputs : List PartName) (sizes : List (List ℕ)) (vertices : List MadeVertex) (dones : List PartName)
    → IsKept given state numbering undecided → MayWin given state name inputs sizes
    → vertices ≡ put_winner state.vertices (sub_of name) (Some (record { name = name; inputs = inputs; sizes = sizes })) → dones ≡ state.dones ++ name ∷ [] → next ≡ put_done numbering (sub_of name) true
    → IsKept given (record state { vertices = vertices; dones = dones }) next undecided
kept_won_as given state numbering next undecided name inputs sizes vertices dones kept may is noted numbered =
    let won = kept_won given state numbering undecided name inputs sizes kept may in
    let now = put_done numbering (sub_of name) true in
    subst (λ (vs : List MadeVertex). IsKept given (record state { vertices = vs; dones = dones }) next undecided) (sym is)
    (subst (λ (names : List PartName). IsKept given (record state { vertices = put_winner state.vertices (sub_of name) (Some (record { name = name; inputs = inputs; sizes = sizes })); dones = names }) next undecided) (sym noted)
    (subst (λ (n : Numbering). IsKept given (after given state (Done name inputs sizes)) n undecided) (sym numbered) won))

-- nothing is made yet
pub kept_started : (given : Given) → plan_faults given.nodes ≡ [] → All (λ sizes. length sizes < 2 ^ 32) given.files
    → IsKept given started (record { places = []; subs = []; tasks = no_tasks }) (length given.nodes)
kept_started given good few = record {
  faultless = good;
  few = few;
  valid = valid_started given;
  numbered = record {
    readers = λ k d lt. absurd (omega (arith, lt));
    producers = λ k d lt. absurd (omega (arith, lt));
    places_len = omega arith;
    subs_len = refl;
    numbered = λ sub lt. absurd (omega (arith, lt));
    numbers = λ n lt. absurd (omega (arith, lt));
  };
  undecided_is = sym (none_undecided given);
}

-- a join is widened
pub kept_widened : (given : Given) (state : State) (numbering : Numbering) (undecided : ℕ) (node : ℕ) (side : Side) → IsKept given state numbering undecided → MayWiden given state node side
    → IsKept given (after given state (Widened node side)) numbering undecided
kept_widened given state numbering undecided node side kept may = record {
  faultless = kept.faultless;
  few = kept.few;
  valid = valid_after given state (Widened node side) kept.faultless kept.valid may;
  numbered = kept.numbered;
  undecided_is = kept.undecided_is;
}

-- subtasks lose their winners
pub kept_reset : (given : Given) (state : State) (numbering next : Numbering) (undecided : ℕ) (gone : List PartName) (subs : List Sub) → IsKept given state numbering undecided → MayReset given state gone subs
    → IsNumbering (without_winners state.vertices subs) next → IsKept given (after given state (Reset gone subs)) next undecided
kept_reset given state numbering next undecided gone subs kept may numbered =
    let later = after given state (Reset gone subs) in
    record {
      faultless = kept.faultless;
      few = kept.few;
      valid = valid_after given state (Reset gone subs) kept.faultless kept.valid may;
      numbered = numbered;
      undecided_is = kept.undecided_is ∙ undecided_kept given state.vertices later.vertices (without-keeps state.vertices subs);
    }

-- by what the state is then
pub kept_started_as : (given : Given) (numbering : Numbering) (undecided : ℕ) (vertices : List MadeVertex) (widened : List Widening) (dones : List PartName)
    → plan_faults given.nodes ≡ [] → All (λ sizes. length sizes < 2 ^ 32) given.files → undecided ≡ length given.nodes
    → vertices ≡ [] → widened ≡ [] → dones ≡ [] → numbering.places ≡ [] → numbering.subs ≡ [] → numbering.tasks ≡ no_tasks
    → IsKept given (record started { vertices = vertices; widened = widened; dones = dones }) numbering undecided
kept_started_as given numbering undecided vertices widened dones good few count none_made none_widened none_done none_placed none_numbered none_read =
    let made = sym none_made in
    let wide = sym none_widened in
    let done = sym none_done in
    let places = sym none_placed in
    let subs = sym none_numbered in
    let tasks = sym none_read in
    let state : started ≡ record started { vertices = vertices; widened = widened; dones = dones } = (λ i. record started { vertices = made i; widened = wide i; dones = done i }) in
    let first : Numbering = record { places = []; subs = []; tasks = no_tasks } in
    let numbers : first ≡ numbering = (λ i. record { places = places i; subs = subs i; tasks = tasks i }) in
    subst (λ (s : State). IsKept given s numbering undecided) state
    (subst (λ (n : Numbering). IsKept given started n undecided) numbers
    (subst (λ (n : ℕ). IsKept given started first n) (sym count) (kept_started given good few)))
