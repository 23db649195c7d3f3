use Rattle.std.proofs.Common.{◌≡◌, Option, Some, None, refl, sym, ◌∙◌, ap}
use Rattle.std.specs.Option.{option_map}
use Rattle.std.proofs.lemmas.Bool.{false≢true}
use Rattle.graph_model.specs.declared.win.Win.{Win}
use Rattle.graph_model.specs.States.{winner_at, winner_name}
use Rattle.graph_model.proofs.Laws.{none_is_some}
use Rattle.event_graph.proofs.event_graph.is_unfinished.Goals as goal

-- no winner's name, no winner
none_named : (o : Option Win) → option_map (λ (win : Win). win.name) o ≡ None → o ≡ None
none_named None e = refl
none_named (Some win) e = absurd (none_is_some win.name (sym e))

pub returns-then-not-has : goal.returns-then-not-has
returns-then-not-has c = (λ e. absurd (false≢true e), λ u. absurd (false≢true (sym c.if-not-has.true ∙ c.has.ensures.1 u.decided)))

pub returns-in-Some : goal.returns-in-Some
returns-in-Some c = (
  λ e. absurd (false≢true e),
  λ u.
      let none : winner_name c.args.vertices.now c.args.sub ≡ None = ap (λ (o : Option Win). option_map (λ (win : Win). win.name) o) u.unwon in
      let some = sym c.in-Some.is ∙ c.winner.ensures ∙ none in
      cc,
)

pub returns-in-None : goal.returns-in-None
returns-in-None c = (
  λ _. record {
    decided = c.has.ensures.0 c.if-not-has.false;
    unwon = none_named (winner_at c.args.vertices.now c.args.sub) (sym c.winner.ensures ∙ c.in-None.is);
  },
  λ _. refl,
)
