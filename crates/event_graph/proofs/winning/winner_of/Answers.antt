use Rattle.std.proofs.Common.{◌≡◌, true, Option, Some, None, sym, ◌∙◌}
use Rattle.std.specs.Option.{is_some, option_map}
use Rattle.std.proofs.lemmas.Bool.{false≢true}
use Rattle.graph_model.specs.declared.win.Win.{Win}
use Rattle.graph_model.specs.States.{winner_at}
use Rattle.graph_model.proofs.Laws.{none_is_some}
use Rattle.event_graph.proofs.winning.winner_of.Goals as goal

some_name : (o : Option Win) → is_some o ≡ true → option_map (λ (win : Win). win.name) o ≡ None → ⊥
some_name None e none = false≢true e
some_name (Some win) e none = none_is_some win.name (sym none)

pub unreachable-requires : goal.unreachable-requires
unreachable-requires c = absurd (some_name (winner_at c.args.vertices.now c.args.sub) c.requires (sym c.winner.ensures ∙ c.in-None.is))
