use Rattle.std.proofs.Common.{◌≡◌, ◌+◌, ◌++◌, ℕ, [], ◌∷◌, List, take, sym, ◌∙◌, ap, subst}
use Rattle.std.specs.List.{AllZip}
use Rattle.std.proofs.lemmas.List.{take_more}
use Rattle.vertex_builder.specs.declared.vertex_output.VertexOutput.{VertexOutput}
use Rattle.row_cells.specs.Cutting.{IsCutInto}
use Rattle.task_body.proofs.Parts.{cut_push}
use Rattle.task_body.proofs.outputs.cut_each.Goals as goal

pub loop-output-preserved : goal.loop-output-preserved
loop-output-preserved c =
    let outputs = c.args.outputs.now in
    let rows = c.args.rows.now in
    let k = c.loop-output.output-index in
    let output = c.output-item.result in
    let edge = c.in_ok-edge.edge in
    let more : take k outputs ++ output ∷ [] ≡ take (k + 1) outputs = sym (take_more outputs k output c.loop-output-test.true ∙ ap (λ (o : VertexOutput). take k outputs ++ o ∷ []) (sym c.output-item.is)) in
    let edges : c.loop-output.edges ++ edge ∷ [] ≡ c.push.new.self = sym c.in_ok-push.ensures.ok in
    subst (λ (l : List VertexOutput). AllZip (λ output cells. IsCutInto c.args.width c.args.attempt output rows cells) l c.push.new.self) more
    (subst (λ (l : List (List (List ℕ))). AllZip (λ output cells. IsCutInto c.args.width c.args.attempt output rows cells) (take k outputs ++ output ∷ []) l) edges
    (cut_push c.args.width c.args.attempt rows (take k outputs) c.loop-output.edges output edge c.loop-output.invariant c.in_ok-edge.ensures))
