-- Whether each event of a list is legal after those before it, and the state after them.
use Rattle.std.specs.Prelude.{⊤, List, [], ◌∷◌, ◌++◌}
use Rattle.graph_model.specs.declared.event.Event.{Event}
use Rattle.graph_model.specs.Legal.{IsLegal, after}
use Rattle.graph_model.specs.States.{Given, State}

-- the state that events lead to
abbrev pub fold_from : Given → State → List Event → State
fold_from given state [] = state
fold_from given state (event ∷ events) = fold_from given (after given state event) events

-- each event is legal after those before it
abbrev pub HasFold : Given → State → List Event → Type 0
HasFold given state [] = ⊤
HasFold given state (event ∷ events) =
    IsLegal given state event × HasFold given (after given state event) events

-- each list with which a list that has a fold begins has one
abbrev pub PrefixLaw : Type 0
PrefixLaw = (given : Given) (state : State) (events more : List Event)
    → HasFold given state (events ++ more) → HasFold given state events
