-- What the closure of lost parts asks of the winners.
use Rattle.std.proofs.Common.{◌≡◌, Option, Some, None, refl, sym, ◌∙◌, ap}
use Rattle.std.specs.Option.{option_map}
use Rattle.graph_model.specs.declared.win.Win.{Win}
use Rattle.graph_model.specs.States.{Given, State, sub_of, winner_at}
use Rattle.graph_model.specs.Valid.{IsValid}
use Rattle.graph_model.proofs.Laws.{none_is_some, some_is}
use Rattle.region_closure.specs.Closing.{OwnParts}

pub own_parts : (given : Given) (state : State) → IsValid given state → OwnParts state.vertices
own_parts given state valid sub name is = by (winner_at state.vertices sub) refl is
  where
    by : (o : Option Win) → winner_at state.vertices sub ≡ o → option_map (λ (win : Win). win.name) o ≡ Some name → sub_of name ≡ sub
    by None at none = absurd (none_is_some name none)
    by (Some win) at some = ap sub_of (sym (some_is win.name name some)) ∙ (valid.winners sub win at).own
