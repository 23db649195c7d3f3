-- What opens a further epoch.
use Rattle.std.proofs.Common.{◌≡◌, ◌≢◌, ℕ, List, [], ◌∷◌, IsTrue, refl, sym, ap, subst, ◌∙◌, arith, inl, inr}
use Rattle.estate.specs.Parts.{AnswersNames}
use Rattle.estate.specs.World.{World}
use Rattle.estate.specs.declared.part_name.PartName.{PartName}
use Rattle.event_codec.specs.Spelling.{AreShort}
use Rattle.event_graph.specs.Graphs.{JobState, Takes}
use Rattle.exec_graph.specs.Graphs.{GraphState}
use Rattle.graph_model.specs.Closures.{IsClosure}
use Rattle.graph_model.specs.Folds.{fold_from}
use Rattle.graph_model.specs.Legal.{after}
use Rattle.graph_model.specs.States.{State}
use Rattle.graph_model.specs.declared.event.Event.{Event}
use Rattle.graph_model.specs.declared.event.Event.TheVariants.{Opened, Reset}
use Rattle.graph_model.specs.declared.made_vertex.MadeVertex.{MadeVertex}
use Rattle.graph_model.specs.declared.sub.Sub.{Sub}
use Rattle.core_model.specs.Moves.{AreGone}
use Rattle.recover_core.specs.declared.recover_error.RecoverError.{RecoverError}
use Rattle.recover_core.specs.declared.recover_error.RecoverError.TheVariants.{LogTooLarge, NoMemory}
use Rattle.recover_core.specs.Causes.{IsTooLong, IsUnopened}
use Rattle.recover_core.proofs.Lengths.{opened_length}
use Rattle.recover_core.specs.Opening.{OpensNext, ResetsNone, ResetsSome, WouldOpen}

module _ (old mid new : GraphState) (epoch : ℕ) (names : List PartName) (world : World) (events : List Event) (answers : IsTrue world.told → AnswersNames world.holding.held names)
    (opened : Takes old.job (Opened epoch) mid.job) where
  vertices_same : mid.job.state.vertices ≡ old.job.state.vertices
  vertices_same = ap (λ (j : JobState). j.state.vertices) opened.next

  pub opens_none : mid.attempts ≡ old.attempts → ResetsNone mid new names → events ≡ Opened epoch ∷ [] → OpensNext old epoch world events new
  opens_none given none is = record {
    would = record {
      held = names;
      answers = answers;
      reset = [];
      lost = λ told. record {
        gone = none.gone;
        are = λ _. subst (λ (v : List MadeVertex). AreGone v names none.gone) vertices_same none.are;
        subs = [];
        closure = subst (λ (v : List MadeVertex). IsClosure v none.gone []) vertices_same none.closure;
        is = inl (refl, refl);
      };
      is = is;
    };
    given = ap (λ (g : GraphState). g.job.given) none.same ∙ ap (λ (j : JobState). j.given) opened.next;
    state = ap (λ (g : GraphState). g.job.state) none.same ∙ ap (λ (j : JobState). j.state) opened.next ∙ sym (ap (fold_from old.job.given old.job.state) is);
    attempts = ap (λ (g : GraphState). g.attempts) none.same ∙ given;
    short = subst AreShort (sym is) (tt, tt);
  }

  pub would_reset : (gone : List PartName) (subs : List Sub) → AreGone mid.job.state.vertices names gone → IsClosure mid.job.state.vertices gone subs → subs ≢ [] → events ≡ Opened epoch ∷ Reset gone subs ∷ [] → WouldOpen old epoch world events
  would_reset gone subs are closure some is = record {
    held = names;
    answers = answers;
    reset = Reset gone subs ∷ [];
    lost = λ told. record {
      gone = gone;
      are = λ _. subst (λ (v : List MadeVertex). AreGone v names gone) vertices_same are;
      subs = subs;
      closure = subst (λ (v : List MadeVertex). IsClosure v gone subs) vertices_same closure;
      is = inr (some, refl);
    };
    is = is;
  }

  pub opens_some : mid.attempts ≡ old.attempts → (event : Event) → ResetsSome mid new names event → events ≡ Opened epoch ∷ event ∷ [] → OpensNext old epoch world events new
  opens_some given event some is_event =
      let is : events ≡ Opened epoch ∷ Reset some.gone some.subs ∷ [] = is_event ∙ ap (λ (e : Event). Opened epoch ∷ e ∷ []) some.is in
      let state_at : JobState → State = λ j. after j.given j.state event in record {
        would = would_reset some.gone some.subs some.are some.closure some.some is;
        given = ap (λ (j : JobState). j.given) some.takes.next ∙ ap (λ (j : JobState). j.given) opened.next;
        state = ap (λ (j : JobState). j.state) some.takes.next ∙ ap state_at opened.next ∙ sym (ap (fold_from old.job.given old.job.state) is_event);
        attempts = some.attempts ∙ given;
        short = subst AreShort (sym is_event) (tt, (some.short, tt));
      }

-- ---- a block that is too long

pub unopened : (old mid : GraphState) (epoch end : ℕ) (names : List PartName) (a b : World) (error : RecoverError) → (IsTrue b.told → AnswersNames b.holding.held names) → Takes old.job (Opened epoch) mid.job → IsTooLong mid names end error → IsUnopened old epoch end a b error
unopened old mid epoch end names a b (LogTooLarge asked) answers opened long =
    let more : List Event = Opened epoch ∷ Reset long.gone long.subs ∷ [] in (
      more,
      would_reset old mid mid epoch names b more answers opened long.gone long.subs long.are long.closure long.some refl,
      record {
        is = long.is ∙ omega (arith, opened_length epoch (Reset long.gone long.subs));
        above = long.above;
      },
    )
unopened old mid epoch end names a b NoMemory answers opened long = tt
unopened old mid epoch end names a b error answers opened long = absurd long
