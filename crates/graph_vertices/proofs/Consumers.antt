-- Widenings that a node has, and its consumers, counted.
use Rattle.std.proofs.Common.{◌≡◌, ℕ, ◌+◌, ◌==◌, Bool, true, false, not, ◌||◌, cond, List, [], ◌∷◌, length, Some, None, refl, sym, ◌∙◌, ap}
use Rattle.std.specs.Prelude.{◌↔◌, IsTrue, count_by}
use Rattle.std.specs.List.{find, list_any, sum_by}
use Rattle.std.specs.Option.{option_map}
use Rattle.std.proofs.lemmas.Bool.{false≢true}
use Rattle.std.proofs.lemmas.List.Sums.{length-filter, sum_by-append, sum_by-cons}
use Rattle.plan_model.specs.declared.node.Node.{Node}
use Rattle.vertex_builder.specs.Edges.{consumer_edges, edges_from, edges_into, widening_of}
use Rattle.vertex_builder.specs.declared.edge.Edge.{Edge}
use Rattle.vertex_builder.specs.declared.widening.Widening.{Widening}
use Rattle.graph_model.proofs.Laws.{none_is_some}

abbrev is_of : ℕ → Widening → Bool
is_of node widening = widening.node == node

none_found : (ws : List Widening) (node : ℕ) → list_any (is_of node) ws ≡ false → widening_of ws node ≡ None
none_found [] node e = refl
none_found (w ∷ ws) node e = by (is_of node w) refl e (none_found ws node)
  where
    by : (b : Bool) → is_of node w ≡ b → list_any (is_of node) (w ∷ ws) ≡ false → (list_any (is_of node) ws ≡ false → widening_of ws node ≡ None) → widening_of (w ∷ ws) node ≡ None
    by true is e rest = absurd (false≢true (sym e ∙ ap (λ (b : Bool). b || list_any (is_of node) ws) is))
    by false is e rest =
        ap (λ (b : Bool). option_map (λ (v : Widening). v.side) (cond b (Some w) (find (is_of node) ws))) is
        ∙ rest (ap (λ (b : Bool). b || list_any (is_of node) ws) (sym is) ∙ e)

found : (ws : List Widening) (node : ℕ) → list_any (is_of node) ws ≡ true → widening_of ws node ≡ None → ⊥
found [] node e none = false≢true e
found (w ∷ ws) node e none = by (is_of node w) refl (found ws node)
  where
    by : (b : Bool) → is_of node w ≡ b → (list_any (is_of node) ws ≡ true → widening_of ws node ≡ None → ⊥) → ⊥
    by true is rest = none_is_some w.side (sym none ∙ ap (λ (b : Bool). option_map (λ (v : Widening). v.side) (cond b (Some w) (find (is_of node) ws))) is)
    by false is rest =
        rest (ap (λ (b : Bool). b || list_any (is_of node) ws) (sym is) ∙ e)
        (ap (λ (b : Bool). option_map (λ (v : Widening). v.side) (cond b (Some w) (find (is_of node) ws))) (sym is) ∙ none)

pub fresh_is : (ws : List Widening) (node : ℕ) (has : Bool) → has ≡ list_any (is_of node) ws → IsTrue (not has) ↔ (widening_of ws node ≡ None)
fresh_is ws node true is = (λ e. absurd (false≢true e), λ none. absurd (found ws node (sym is) none))
fresh_is ws node false is = (λ e. none_found ws node (sym is), λ none. refl)

-- ---- consumers

abbrev goes_from : ℕ → Edge → Bool
goes_from node edge = edge.from == node

abbrev pub times : ℕ → Node → ℕ
times node consumer = count_by (λ input. input == node) consumer.inputs

into_count : (node into place : ℕ) (inputs : List ℕ) → count_by (goes_from node) (edges_into into place inputs) ≡ count_by (λ input. input == node) inputs
into_count node into place [] = refl
into_count node into place (input ∷ inputs) =
    let edge : Edge = record { from = input; into = into; place = place } in
    sum_by-cons (λ (e : Edge). cond (goes_from node e) 1 0) edge (edges_into into (place + 1) inputs)
    ∙ ap (λ (n : ℕ). cond (input == node) 1 0 + n) (into_count node into (place + 1) inputs)
    ∙ sym (sum_by-cons (λ (i : ℕ). cond (i == node) 1 0) input inputs)

from_count : (node place : ℕ) (nodes : List Node) → count_by (goes_from node) (edges_from place nodes) ≡ sum_by (times node) nodes
from_count node place [] = refl
from_count node place (consumer ∷ nodes) =
    sum_by-append (λ (e : Edge). cond (goes_from node e) 1 0) (edges_into place 0 consumer.inputs) (edges_from (place + 1) nodes)
    ∙ ap (λ (n : ℕ). n + count_by (goes_from node) (edges_from (place + 1) nodes)) (into_count node place 0 consumer.inputs)
    ∙ ap (λ (n : ℕ). times node consumer + n) (from_count node (place + 1) nodes)
    ∙ sym (sum_by-cons (times node) consumer nodes)

pub consumers_count : (nodes : List Node) (node : ℕ) → length (consumer_edges nodes node) ≡ sum_by (times node) nodes
consumers_count nodes node = length-filter (goes_from node) (edges_from 0 nodes) ∙ from_count node 0 nodes
