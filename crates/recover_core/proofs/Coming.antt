-- How far events come, one after another.
use Rattle.std.proofs.Common.{◌≡◌, ℕ, ◌+◌, ◌<◌, List, length, get_or, take, ap, sym, subst, ◌∙◌}
use Rattle.std.proofs.lemmas.List.{take_more}
use Rattle.graph_model.specs.declared.event.Event.{Event}
use Rattle.graph_model.specs.Folds.{fold_from}
use Rattle.graph_model.specs.Legal.{after}
use Rattle.graph_model.specs.States.{Given, State, started}
use Rattle.job_soundness.proofs.Laws.{fold_more}
use Rattle.recover_core.specs.Standing.{IsStanding}
use Rattle.recover_core.specs.declared.standing.Standing.{Standing}

-- of the first so many events
abbrev pub ComesTo : List Event → ℕ → Standing → Type 0
ComesTo events count standing = (given : Given) → IsStanding (fold_from given started (take count events)) standing

pub comes_on : (events : List Event) (count : ℕ) (event : Event) (old new : Standing) → count < length events → event ≡ get_or events count event → ComesTo events count old
    → ((given : Given) (state : State) → IsStanding state old → IsStanding (after given state event) new) → ComesTo events (count + 1) new
comes_on events count event old new lt is before step given =
    let state = fold_from given started (take count events) in
    let taken = take_more events count event lt in
    let P : Event → Type 0 = λ e. IsStanding (after given state e) new in
    let next : IsStanding (after given state (get_or events count event)) new = subst P is (step given state (before given)) in
    subst (λ (s : State). IsStanding s new) (sym (ap (fold_from given started) taken ∙ fold_more given started (take count events) (get_or events count event))) next
