-- A part is lost when a job is complete: its subtask is reset, and deployed again under a new name.
use Rattle.std.proofs.Common.{◌≡◌, ℕ, zero, suc, true, List, [], ◌∷◌, Some, IsTrue, refl, sym, ap, subst, arith, inl, Contains}
use Rattle.std.proofs.lemmas.List.Elements.{All-nil, All-cons}
use Rattle.estate.specs.Parts.{is_same_name}
use Rattle.estate.specs.declared.part_name.PartName.{PartName}
use Rattle.graph_model.specs.Closures.{IsClosed, IsClosure, IsGone}
use Rattle.graph_model.specs.States.{is_finished, winner_name}
use Rattle.graph_model.specs.declared.cause.Cause.TheVariants.{Lost}
use Rattle.graph_model.specs.declared.event.Event.{Event}
use Rattle.graph_model.specs.declared.event.Event.TheVariants as event
use Rattle.graph_model.specs.declared.made_vertex.MadeVertex.{MadeVertex}
use Rattle.graph_model.specs.declared.sub.Sub.{Sub}
use Rattle.vertex_builder.specs.Vertices.{text_output}
use Rattle.graph_model.proofs.Laws.{in_one, some_is}
use Rattle.core_model.specs.Cores.{CoreState, core_state, with_events, with_running}
use Rattle.core_model.specs.Moves.{AreGone, Deploys, Resets, with_deployed}
use Rattle.core_model.specs.Slowness.{is_present}
use Rattle.core_model.proofs.Trace.{at, flushed, job, legal, name, slot}

abbrev sub : Sub
sub = record { vertex = 0; subtask = 0 }

abbrev vertices : List MadeVertex
vertices = (core_state job flushed).vertices

none_in : {A : Type 0} (x : A) → Contains {X = A} [] x → ⊥
none_in x (k, lt, is) = absurd (omega (arith, lt))

-- the one winner
only_winner : (other : Sub) (part : PartName) → winner_name vertices other ≡ Some part → (other ≡ sub) × (part ≡ name)
only_winner other part is = by other.vertex other.subtask is
  where
    by : (v k : ℕ) → winner_name vertices (record { vertex = v; subtask = k }) ≡ Some part → (record { vertex = v; subtask = k } ≡ sub) × (part ≡ name)
    by zero zero is = (refl, sym (some_is name part is))
    by zero (suc k) is = absurd (cc is)
    by (suc v) k is = absurd (cc is)

has_sub : Contains (sub ∷ []) sub
has_sub = (0, omega arith, refl)

is_gone : IsGone vertices (name ∷ []) sub
is_gone = record { name = name; won = refl; lost = (0, omega arith, refl) }

finished_only : (other : Sub) → IsTrue (is_finished vertices other) → other ≡ sub
finished_only other is = by other.vertex other.subtask is
  where
    by : (v k : ℕ) → IsTrue (is_finished vertices (record { vertex = v; subtask = k })) → record { vertex = v; subtask = k } ≡ sub
    by zero zero is = refl
    by zero (suc k) is = absurd (cc is)
    by (suc v) k is = absurd (cc is)

closed : IsClosed vertices (name ∷ []) (sub ∷ [])
closed = record {
  lost = λ other gone wanted. subst (Contains (sub ∷ [])) (sym (only_winner other gone.name gone.won).0) has_sub;
  readers = λ reader producer finished reads has. subst (Contains (sub ∷ [])) (sym (finished_only reader finished)) has_sub;
}

closure : IsClosure vertices (name ∷ []) (sub ∷ [])
closure = record {
  ascending = λ i j d lt less. absurd (omega (arith, lt, less));
  finished = All-cons (λ (s : Sub). IsTrue (is_finished vertices s)) sub [] refl (All-nil (λ (s : Sub). IsTrue (is_finished vertices s)));
  closed = closed;
  least = λ other shut. All-cons (Contains other) sub [] (shut.lost sub is_gone (inl (0, text_output, omega arith, refl, inl refl))) (All-nil (Contains other));
}

-- nothing is held
same_is : (a b : PartName) → is_same_name a b ≡ true → a ≡ b
same_is a b is = grind arith

present_only : (v k e n : ℕ) → IsTrue (is_present vertices (record { vertex = v; subtask = k; epoch = e; attempt = n })) → Contains (name ∷ []) (record { vertex = v; subtask = k; epoch = e; attempt = n })
present_only zero zero e n is = subst (Contains (name ∷ [])) (same_is name (record { vertex = 0; subtask = 0; epoch = e; attempt = n }) is) (0, omega arith, refl)
present_only zero (suc k) e n is = absurd (cc is)
present_only (suc v) k e n is = absurd (cc is)

gone : AreGone vertices [] (name ∷ [])
gone = record {
  ascending = λ i j d lt less. absurd (omega (arith, lt, less));
  are = λ part. (
    λ has. (subst (λ (n : PartName). IsTrue (is_present vertices n)) (sym (in_one name part has)) refl, λ held. none_in part held),
    λ present. present_only part.vertex part.subtask part.epoch part.attempt present.0,
  );
}

-- ---- the steps

abbrev trouble : Event
trouble = event.Trouble (Lost name)

abbrev reset : CoreState
reset = with_running (with_events flushed (trouble ∷ event.Reset (name ∷ []) (sub ∷ []) ∷ [])) []

resets : Resets job (name ∷ []) (sub ∷ []) (at flushed (name ∷ [])) (at reset [])
resets = record {
  name = name;
  misses = record { gone = λ told has. none_in name has; legal = record { running = legal.1.1.1.1.0.0; stands = refl } };
  fresh = refl;
  are = λ told. gone;
  legal = record { running = record { ended = refl; troubles = omega arith }; some = omega arith; closure = closure };
  named = flushed;
  gave = ([], omega arith, refl);
  is = refl;
}

abbrev again : PartName
again = record { vertex = 0; subtask = 0; epoch = 1; attempt = 1 }

other_name : again ≡ name → ⊥
other_name same = let number : 1 ≡ 0 = ap (λ (n : PartName). n.attempt) same in absurd (omega (arith, number))

deploys_again : Deploys job again 0 (at reset []) (at (with_deployed reset again [] slot) [])
deploys_again = record {
  running = record { ended = refl; troubles = omega arith };
  unfinished = record { decided = omega arith; unwon = refl };
  epoch = refl;
  fresh = λ has. other_name (in_one name again has);
  inputs = [];
  named = tt;
  held = λ told. All-nil (Contains []);
  slot = slot;
  free = refl;
  is = refl;
}
