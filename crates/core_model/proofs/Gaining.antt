-- Which events each step adds.
use Rattle.std.proofs.Common.{◌≡◌, List, [], ◌∷◌, ◌++◌, sym, ◌∙◌, ap, append-nil, Contains, inl, inr, ⊎_elim}
use Rattle.std.specs.Prelude.{◌⊎◌}
use Rattle.estate.specs.declared.part_name.PartName.{PartName}
use Rattle.graph_model.specs.Folds.{HasFold}
use Rattle.graph_model.specs.declared.cause.Cause.TheVariants.{Gate, Lost}
use Rattle.graph_model.specs.declared.event.Event.{Event}
use Rattle.graph_model.specs.declared.event.Event.TheVariants as event
use Rattle.graph_model.specs.declared.sub.Sub.{Sub}
use Rattle.job_soundness.specs.Jobs.{Job}
use Rattle.core_model.specs.declared.arrival.Arrival.{Arrival}
use Rattle.core_model.specs.declared.arrival.Arrival.TheVariants.{Win, Stale, Double, Fault, Lost as Late, NoMemory}
use Rattle.core_model.specs.declared.step.Step.{Step}
use Rattle.core_model.specs.declared.step.Step.TheVariants.{Tick, Arrive, Make, Widen, Decide, Deploy, Reset, Spent, Flush, Commit, End}
use Rattle.core_model.specs.Arrivals.{ArrivesBy}
use Rattle.core_model.specs.Cores.{CoreState, Deployment, MayGiveName, Moment, core_state}
use Rattle.core_model.specs.KeptWork.{IsResetBy}
use Rattle.core_model.specs.Moves.{Moves}

-- the event takes the subtask's winner away
abbrev pub Frees : Sub → Event → Type 0
Frees sub (event.Reset gone subs) = Contains subs sub
Frees sub _ = ⊥

abbrev pub FreesOne : Sub → List Event → Type 0
FreesOne sub [] = ⊥
FreesOne sub (first ∷ events) = Frees sub first ⊎ FreesOne sub events

-- legal events join, which free only what the step resets
pub record Gains (job : Job) (step : Step) (old new : CoreState) : Type 0 where
  pub more : List Event
  pub is : new.events ≡ old.events ++ more
  pub legal : HasFold job.given (core_state job old) more
  pub frees : (sub : Sub) → FreesOne sub more → IsResetBy step sub

-- none joins
none_more : (job : Job) (step : Step) (old new : CoreState) → new.events ≡ old.events → Gains job step old new
none_more job step old new is = record { more = []; is = is ∙ sym (append-nil old.events); legal = tt; frees = λ sub free. absurd free }

by_arrival : (job : Job) (name : PartName) (kind : Arrival) (attempt : Deployment) (old new : CoreState) → ArrivesBy job attempt kind old new → Gains job (Arrive name kind) old new
by_arrival job name Win attempt old new by = record {
  more = event.Done attempt.name attempt.inputs by.sizes ∷ [];
  is = ap (λ (c : CoreState). c.events) by.is;
  legal = (by.legal, tt);
  frees = λ sub free. ⊎_elim (λ none. absurd none) (λ none. absurd none) free;
}
by_arrival job name (Stale input) attempt old new by = none_more job (Arrive name (Stale input)) old new (ap (λ (c : CoreState). c.events) by.1)
by_arrival job name (Double winner) attempt old new by = none_more job (Arrive name (Double winner)) old new (ap (λ (c : CoreState). c.events) by.1)
by_arrival job name (Fault code) attempt old new (inl fails) = record {
  more = event.Trouble (Gate attempt.name code) ∷ [];
  is = ap (λ (c : CoreState). c.events) fails.is;
  legal = (fails.legal, tt);
  frees = λ sub free. ⊎_elim (λ none. absurd none) (λ none. absurd none) free;
}
by_arrival job name (Fault code) attempt old new (inr late) = none_more job (Arrive name (Fault code)) old new (ap (λ (c : CoreState). c.events) late.1)
by_arrival job name (Late winner) attempt old new by = none_more job (Arrive name (Late winner)) old new (ap (λ (c : CoreState). c.events) by.1)
by_arrival job name NoMemory attempt old new by = none_more job (Arrive name NoMemory) old new (ap (λ (c : CoreState). c.events) by)

-- a name that was given leaves the events
same_events : (old named : CoreState) → MayGiveName old named → named.events ≡ old.events
same_events old named (given, few, is) = ap (λ (c : CoreState). c.events) is

pub gains : (job : Job) (step : Step) (old new : Moment) → Moves job step old new → Gains job step old.core new.core
gains job (Tick now) old new moves = none_more job (Tick now) old.core new.core (ap (λ (c : CoreState). c.events) moves.is)
gains job (Arrive name kind) old new moves = by_arrival job name kind moves.attempt old.core new.core moves.by
gains job (Make vertex) old new moves = record {
  more = event.Made vertex moves.0 ∷ [];
  is = ap (λ (c : CoreState). c.events) (moves.1).1;
  legal = ((moves.1).0, tt);
  frees = λ sub free. ⊎_elim (λ none. absurd none) (λ none. absurd none) free;
}
gains job (Widen node side) old new moves = record {
  more = event.Widened node side ∷ [];
  is = ap (λ (c : CoreState). c.events) moves.1;
  legal = (moves.0, tt);
  frees = λ sub free. ⊎_elim (λ none. absurd none) (λ none. absurd none) free;
}
gains job (Decide vertex) old new moves = record {
  more = event.Decided vertex moves.0 ∷ [];
  is = ap (λ (c : CoreState). c.events) (moves.1).1;
  legal = ((moves.1).0, tt);
  frees = λ sub free. ⊎_elim (λ none. absurd none) (λ none. absurd none) free;
}
gains job (Deploy name worker) old new moves = none_more job (Deploy name worker) old.core new.core (ap (λ (c : CoreState). c.events) moves.is)
gains job (Reset gone subs) old new moves = record {
  more = event.Trouble (Lost moves.name) ∷ event.Reset gone subs ∷ [];
  is = ap (λ (c : CoreState). c.events) moves.is ∙ ap (λ (l : List Event). l ++ event.Trouble (Lost moves.name) ∷ event.Reset gone subs ∷ []) (same_events old.core moves.named moves.gave);
  legal = ((moves.misses).legal, (moves.legal, tt));
  frees = λ sub free. ⊎_elim (λ none. absurd none) (λ rest. ⊎_elim (λ has. has) (λ none. absurd none) rest) free;
}
gains job (Spent name) old new moves = record {
  more = event.Trouble (Lost name) ∷ [];
  is = ap (λ (c : CoreState). c.events) moves.is ∙ ap (λ (l : List Event). l ++ event.Trouble (Lost name) ∷ []) (same_events old.core moves.named moves.gave);
  legal = ((moves.misses).legal, tt);
  frees = λ sub free. ⊎_elim (λ none. absurd none) (λ none. absurd none) free;
}
gains job (Flush count) old new moves = none_more job (Flush count) old.core new.core (ap (λ (c : CoreState). c.events) moves.is)
gains job (Commit fresh) old new moves = none_more job (Commit fresh) old.core new.core (ap (λ (c : CoreState). c.events) moves.is)
gains job (End failed) old new moves = record {
  more = event.Ended failed ∷ [];
  is = ap (λ (c : CoreState). c.events) moves.is;
  legal = (moves.legal, tt);
  frees = λ sub free. ⊎_elim (λ none. absurd none) (λ none. absurd none) free;
}
