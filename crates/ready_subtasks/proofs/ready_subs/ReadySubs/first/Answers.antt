use Rattle.std.proofs.Common.{◌≡◌, ◌∷◌, List, Bool, [], Option, Some, None, subst}
use Rattle.std.specs.Prelude.{IfNone}
use Rattle.graph_model.specs.declared.sub.Sub.{Sub}
use Rattle.ready_subtasks.specs.Marks.{marked_subs, sub_of_pair}
use Rattle.ready_subtasks.proofs.Marking.{first_begins, none_marked}
use Rattle.ready_subtasks.proofs.ready_subs.ReadySubs.first.Goals as goal

if_none : {X P : Type 0} (found : Option X) → P → IfNone found P
if_none (Some x) p = tt
if_none None p = p

pub returns-in_err-pair-clause-none : goal.returns-in_err-pair-clause-none
returns-in_err-pair-clause-none c =
    if_none c.from_residual.result (subst (λ (l : List (List Bool)). marked_subs l ≡ []) c.self.view_is (none_marked c.self.inside.pairs c.in_err-pair.ensures.none))

pub returns-clause-some : goal.returns-clause-some
returns-clause-some c =
    let pair = c.in_ok-pair.pair in
    subst (λ (l : List (List Bool)). (rest : List Sub) × (marked_subs l ≡ sub_of_pair pair ∷ rest)) c.self.view_is
    (first_begins c.self.inside.pairs pair c.in_ok-pair.ensures.some)
