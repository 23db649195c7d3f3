use Rattle.std.proofs.Common.{sym, ◌∙◌, ap, subst, ℕ, ◌≤◌, All, List, [], ◌∷◌, ◌++◌, Some, zero, suc, arith}
use Rattle.std.proofs.lemmas.List.Elements.{All-append}
use Rattle.plan_model.specs.Widths.{width_of, input_widths}
use Rattle.plan_model.specs.Checks.{node_kinds}
use Rattle.plan_model.proofs.Told.{told-here, told-next}
use Rattle.plan_model.proofs.NodeWidths.{widths_of-next}
use Rattle.plan_model.proofs.checking.node_fault.Goals as goal

one : (width : ℕ) → width ≤ 256 → All (λ w. w ≤ 256) (width ∷ [])
one width le zero d lt = le
one width le (suc k) d lt = omega (arith, lt)

pub returns-in-Err : goal.returns-in-Err
returns-in-Err c =
    ap Some c.fault_at.ensures
    ∙ sym (told-here node_kinds c.args.nodes.now c.loop-place.place c.index-nodes-place.result c.in-Err.kind c.loop-place-test.true c.index-nodes-place.is c.in-Err.ensures.first)
    ∙ c.loop-place.invariant.from_here

pub loop-place-preserved : goal.loop-place-preserved
loop-place-preserved c = record {
  from_here = told-next node_kinds c.args.nodes.now c.loop-place.place c.index-nodes-place.result c.loop-place-test.true c.index-nodes-place.is c.in-Ok.ensures.faultless
      ∙ c.loop-place.invariant.from_here;
  widths = c.in_ok-push-in-Ok.ensures.items
      ∙ ap (λ (width : ℕ). c.loop-place.widths.items ++ width ∷ []) (c.in-Ok.ensures.width ∙ ap (width_of c.index-nodes-place.result.op) (c.as_slice-in-loop-place.ensures.value ∙ c.in_ok-inputs.ensures.widths ∙ ap (λ (widths : List ℕ). input_widths widths c.index-nodes-place.result.inputs) c.as_slice.ensures.value))
      ∙ ap (λ (widths : List ℕ). widths ++ width_of c.index-nodes-place.result.op (input_widths widths c.index-nodes-place.result.inputs) ∷ []) c.loop-place.invariant.widths
      ∙ sym (widths_of-next c.args.nodes.now c.loop-place.place c.index-nodes-place.result c.loop-place-test.true c.index-nodes-place.is);
  narrow = subst (λ (widths : List ℕ). All (λ width. width ≤ 256) widths) (sym c.in_ok-push-in-Ok.ensures.items)
      (All-append (λ width. width ≤ 256) c.loop-place.widths.items (c.in-Ok.width ∷ []) c.loop-place.invariant.narrow (one c.in-Ok.width c.in-Ok.ensures.narrow));
}
