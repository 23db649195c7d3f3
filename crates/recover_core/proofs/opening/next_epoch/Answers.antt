use Rattle.std.proofs.Common.{List, IsTrue, [], ◌∷◌, ◌++◌, ap, subst, ◌∙◌}
use Rattle.std.proofs.lemmas.Result.{err_from_is_err_and}
use Rattle.graph_model.specs.declared.event.Event.{Event}
use Rattle.graph_model.specs.declared.event.Event.TheVariants.{Opened}
use Rattle.recover_core.proofs.Opens.{opens_none, opens_some, unopened}
use Rattle.recover_core.proofs.opening.next_epoch.Goals as goal

pub returns-in_err-reset_lost-clause-cause : goal.returns-in_err-reset_lost-clause-cause
returns-in_err-reset_lost-clause-cause g c =
    let a = g.E.Estate.world c.args.estate.now in
    let b = g.E.Estate.world c.shelf_names.new.self in
    let p = err_from_is_err_and c.from_residual-in_err-reset_lost.result c.from_residual-in_err-reset_lost.ensures.1 in
    rw (p.1, p.2)
    (unopened c.args.graph c.opened.new.self c.args.epoch c.args.end c.in-Ok.names a b c.in_err-reset_lost.field-0.0
    (λ told. c.in-Ok.ensures.names (subst (λ t. IsTrue t) c.in-Ok.ensures.leads.time.told told)) c.in-Ok-opened.ensures.ok c.in_err-reset_lost.ensures.cause)

pub returns-in-None-clause-opens : goal.returns-in-None-clause-opens
returns-in-None-clause-opens g c =
    let b = g.E.Estate.world c.shelf_names.new.self in
    let none = rw c.in-None.is at c.in_ok-reset_lost.ensures.reset in
    let is = c.from_vec.ensures ∙ c.in_ok-push.ensures.items ∙ ap (λ (l : List Event). l ++ Opened c.args.epoch ∷ []) c.new-events.ensures.items in
    opens_none c.args.graph c.opened.new.self c.reset_lost.new.graph c.args.epoch c.in-Ok.names b c.from_vec.result
    (λ told. c.in-Ok.ensures.names (subst (λ t. IsTrue t) c.in-Ok.ensures.leads.time.told told)) c.in-Ok-opened.ensures.ok c.in-Ok-opened.ensures.attempts none is

pub returns-clause-opens : goal.returns-clause-opens
returns-clause-opens g c =
    let b = g.E.Estate.world c.shelf_names.new.self in
    let some = rw c.in-Some.is at c.in_ok-reset_lost.ensures.reset in
    let first = c.in_ok-push.ensures.items ∙ ap (λ (l : List Event). l ++ Opened c.args.epoch ∷ []) c.new-events.ensures.items in
    let is = c.from_vec-in-Some.ensures ∙ c.in_ok-push-in-Some.ensures.items ∙ ap (λ (l : List Event). l ++ c.in-Some.reset ∷ []) first in
    opens_some c.args.graph c.opened.new.self c.reset_lost.new.graph c.args.epoch c.in-Ok.names b c.from_vec-in-Some.result
    (λ told. c.in-Ok.ensures.names (subst (λ t. IsTrue t) c.in-Ok.ensures.leads.time.told told)) c.in-Ok-opened.ensures.ok c.in-Ok-opened.ensures.attempts c.in-Some.reset some is
