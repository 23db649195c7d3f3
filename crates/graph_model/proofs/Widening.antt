-- A join that is widened leads from a valid state to a valid one.
use Rattle.std.proofs.Common.{◌≡◌, ℕ, ◌<◌, Bool, List, [], ◌∷◌, ◌++◌, length, Option, Some, None, sym, ◌∙◌, ap, subst, true, false, ⊎_elim}
use Rattle.std.specs.Prelude.{IsTrue, if◌then◌else◌}
use Rattle.std.proofs.lemmas.Bool.{cases_eq}
use Rattle.plan_model.specs.declared.side.Side.{Side}
use Rattle.vertex_builder.specs.Edges.{build_side, is_join_at, widening_of}
use Rattle.vertex_builder.specs.declared.widening.Widening.{Widening}
use Rattle.vertex_builder.proofs.Laws.{vertices_stay, widening_new, widening_other}
use Rattle.vertex_laws.specs.VertexRows.{may_repeat, op_at}
use Rattle.graph_model.specs.declared.made_vertex.MadeVertex.{MadeVertex}
use Rattle.graph_model.specs.Legal.{MayWiden, probe_node}
use Rattle.graph_model.specs.States.{Given, State, vertex_at}
use Rattle.graph_model.specs.Valid.{IsMade, IsValid}
use Rattle.graph_model.proofs.Apart.{among_made}
use Rattle.graph_model.proofs.Items.{none_is_some, some_is}

either_side : (P : Side → Type 0) (b : Bool) (side s : Side) → (if b then Some side else None) ≡ Some s → P side → P s
either_side P true side s is h = subst P (some_is side s is) h
either_side P false side s is h = absurd (none_is_some s is)

module _ (given : Given) (state : State) (node : ℕ) (side : Side) (valid : IsValid given state) (may : MayWiden given state node side) where
  abbrev vs : List MadeVertex
  vs = state.vertices

  abbrev old : List Widening
  old = state.widened

  abbrev more : Widening
  more = record { node = node; side = side }

  abbrev new : List Widening
  new = old ++ more ∷ []

  still_made : (v : ℕ) → v < length vs → IsMade given new (vertex_at vs v).vertex
  still_made v lt =
      let h = valid.made v lt in
      let vertex = (vertex_at vs v).vertex in
      let stays = vertices_stay given.nodes old more given.settings.max_parallelism vertex h.is
      (record { join = among_made vs v node lt may.unmade; probe = among_made vs v (probe_node given node side) lt may.probe }) in
      record { is = stays.still; head = stays.head ∙ h.head; within = h.within }

  still_joins : (n : ℕ) (s : Side) → build_side given.nodes new n ≡ Some s → IsTrue (may_repeat (op_at given.nodes n) s)
  still_joins n s is =
      let of : Option Side → Option Side = λ o. if is_join_at given.nodes n then o else None in
      ⊎_elim
      (λ (same : node ≡ n).
      let wide : widening_of new n ≡ Some side = ap (widening_of new) (sym same) ∙ widening_new old more may.fresh in
      either_side (λ x. IsTrue (may_repeat (op_at given.nodes n) x)) (is_join_at given.nodes n) side s (sym (ap of wide) ∙ is)
      (subst (λ (m : ℕ). IsTrue (may_repeat (op_at given.nodes m) side)) same may.repeats))
      (λ (ne : node ≡ n → ⊥). valid.joins.each n s (sym (ap of (widening_other old more n ne)) ∙ is))
      (cases_eq node n)

  pub valid_widened : IsValid given (record state { widened = new })
  valid_widened = record {
    made = still_made;
    before = valid.before;
    apart = valid.apart;
    joins = record { each = still_joins };
    decided = valid.decided;
    winners = valid.winners;
    done = valid.done;
  }
