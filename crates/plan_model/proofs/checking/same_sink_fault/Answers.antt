use Rattle.std.proofs.Common.{sym, ◌∙◌, ap, Some, List, ℕ, not, slice_get}
use Rattle.std.specs.List.{list_any, list_all}
use Rattle.std.specs.Str.{bytes_eq}
use Rattle.plan_model.specs.Checks.{same_sink_kinds, unless, sink_name}
use Rattle.plan_model.specs.declared.plan_kind.PlanKind.TheVariants.{SameSink}
use Rattle.plan_model.proofs.Told.{told-here}
use Rattle.plan_model.proofs.checking.same_sink_fault.Goals as goal

pub returns-in-Some : goal.returns-in-Some
returns-in-Some c =
    let here = ap (λ (names : List (List ℕ)). slice_get (unless (list_all (λ name. not (list_any (bytes_eq name) names)) (sink_name c.index-nodes-place.result.op)) SameSink) 0) c.loop-place.invariant.names in
    ap Some c.fault_at.ensures
    ∙ sym (told-here same_sink_kinds c.args.nodes.now c.loop-place.place c.index-nodes-place.result c.in-Some.kind c.loop-place-test.true c.index-nodes-place.is
    (sym here ∙ sym c.in_ok-kind.ensures.kind ∙ c.in-Some.is))
    ∙ c.loop-place.invariant.from_here
