-- Lists of legal events.
use Rattle.std.proofs.Common.{◌≡◌, ℕ, Bool, true, false, None, refl, List, [], ◌∷◌, ◌++◌, arith, ◌+◌, Some, subst, sym, ◌∙◌}
use Rattle.std.specs.Prelude.{IsTrue, if◌then◌else◌}
use Rattle.std.specs.List.{AllZip}
use Rattle.plan_model.specs.declared.side.Side.{Side}
use Rattle.vertex_builder.specs.Edges.{build_side, is_join_at}
use Rattle.vertex_laws.specs.VertexRows.{may_repeat, op_at}
use Rattle.std.proofs.lemmas.List.Elements.{All-nil}
use Rattle.row_core.specs.Bags.{SameBag}
use Rattle.bag_laws.specs.Rows.{OneRow}
use Rattle.estate.specs.declared.part_name.PartName.{PartName}
use Rattle.plan_model.specs.Checks.{plan_faults}
use Rattle.graph_model.specs.declared.event.Event.{Event}
use Rattle.graph_model.specs.declared.event.Event.TheVariants.{Opened, Started, Made, Widened, Decided, Done, Reset, Trouble, Ended}
use Rattle.graph_model.specs.declared.made_vertex.MadeVertex.{MadeVertex}
use Rattle.graph_model.specs.Folds.{HasFold, fold_from}
use Rattle.graph_model.specs.Legal.{IsLegal, IsNamed, after}
use Rattle.graph_model.specs.Reading.{HasWinnersRows, Parts, ReadLaw, output_of}
use Rattle.graph_model.specs.Reads.{ReadEdge, read_edges}
use Rattle.graph_model.specs.States.{Given, State, started}
use Rattle.graph_model.specs.Valid.{IsOfSubtask, IsValid, ValidLaw}
use Rattle.graph_model.proofs.Deciding.{valid_decided}
use Rattle.graph_model.proofs.Items.{none_is_some, some_is}
use Rattle.graph_model.proofs.Making.{valid_made}
use Rattle.graph_model.proofs.Steps.{valid_opened, valid_same, valid_won, valid_reset}
use Rattle.graph_model.proofs.Widening.{valid_widened}

pub prefix_legal : (given : Given) (state : State) (events more : List Event) → HasFold given state (events ++ more) → HasFold given state events
prefix_legal given state [] more legal = tt
prefix_legal given state (event ∷ events) more (here, rest) = (here, prefix_legal given (after given state event) events more rest)

-- ---- validity

pub valid_after : (given : Given) (state : State) (event : Event) → plan_faults given.nodes ≡ [] → IsValid given state → IsLegal given state event → IsValid given (after given state event)
valid_after given state (Opened epoch) good valid (running, later) = valid_opened given state epoch valid later
valid_after given state (Started job files) good valid legal = absurd legal
valid_after given state (Made vertex nodes) good valid legal = valid_made given state vertex nodes good valid legal
valid_after given state (Widened node side) good valid legal = valid_widened given state node side valid legal
valid_after given state (Decided vertex decision) good valid legal = valid_decided given state vertex decision valid legal
valid_after given state (Done name inputs sizes) good valid legal = valid_won given state name inputs sizes valid legal
valid_after given state (Reset gone subs) good valid legal = valid_reset given state subs valid legal.closure.closed.readers
valid_after given state (Trouble cause) good valid legal = valid_same given state (state.troubles + 1) state.ended valid
valid_after given state (Ended failed) good valid legal = valid_same given state state.troubles (Some failed) valid

nothing_widened : (given : Given) (node : ℕ) (side : Side) → build_side given.nodes [] node ≡ Some side → IsTrue (may_repeat (op_at given.nodes node) side)
nothing_widened given node side is = either (is_join_at given.nodes node) is
  where
    either : (b : Bool) → (if b then None else None) ≡ Some side → IsTrue (may_repeat (op_at given.nodes node) side)
    either true e = absurd (none_is_some side e)
    either false e = absurd (none_is_some side e)

pub valid_started : (given : Given) → IsValid given started
valid_started given = record {
  made = λ v lt. absurd (omega (arith, lt));
  before = λ v lt. absurd (omega (arith, lt));
  apart = λ u v lt less. absurd (omega (arith, less));
  joins = record { each = nothing_widened given };
  decided = λ v lt. absurd (omega (arith, lt));
  winners = λ sub win is. absurd (none_is_some win is);
  done = All-nil (IsOfSubtask []);
}

pub valid_from : (given : Given) (state : State) (events : List Event) → plan_faults given.nodes ≡ [] → IsValid given state → HasFold given state events → IsValid given (fold_from given state events)
valid_from given state [] good valid legal = valid
valid_from given state (event ∷ events) good valid (here, rest) = valid_from given (after given state event) events good (valid_after given state event good valid here) rest

pub valid_law : ValidLaw
valid_law given events good legal = valid_from given started events good (valid_started given) legal

-- ---- what was read

same_rows : (parts : Parts) (vs : List MadeVertex) (edge : ReadEdge) (name : PartName) → IsNamed vs edge name → HasWinnersRows parts vs edge name
same_rows parts vs edge name named winner is cell =
    let rows : PartName → List OneRow = λ n. parts n (output_of vs edge) cell in
    subst (λ (n : PartName). SameBag (rows name) (rows n)) (some_is name winner (sym named ∙ is)) (record { counts = λ row. refl })

all_same : (parts : Parts) (vs : List MadeVertex) (edges : List ReadEdge) (names : List PartName) → AllZip (IsNamed vs) edges names → AllZip (HasWinnersRows parts vs) edges names
all_same parts vs [] [] h = tt
all_same parts vs [] (name ∷ names) h = absurd h
all_same parts vs (edge ∷ edges) [] h = absurd h
all_same parts vs (edge ∷ edges) (name ∷ names) (here, rest) = (same_rows parts vs edge name here, all_same parts vs edges names rest)

pub read_law : ReadLaw
read_law given events parts good legal sub win is =
    let state = fold_from given started events in
    all_same parts state.vertices (read_edges state.vertices sub) win.inputs ((valid_law given events good legal).winners sub win is).named
