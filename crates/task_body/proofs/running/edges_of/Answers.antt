use Rattle.std.proofs.Common.{◌≡◌, ℕ, List, All, sym, ◌∙◌, ap, subst}
use Rattle.std.specs.List.{AllByRecursion, AllZip}
use Rattle.row_view.specs.Encoded.{RowOf}
use Rattle.task_body.proofs.Inputs.{rows_of_width}
use Rattle.std.proofs.lemmas.Result.{IfOk-weaker}
use Rattle.estate.specs.declared.part_name.PartName.{PartName}
use Rattle.row_core.specs.Bags.{SameBag}
use Rattle.plan_model.specs.Plans.{Bag}
use Rattle.vertex_builder.specs.declared.vertex.Vertex.{Vertex}
use Rattle.vertex_builder.specs.declared.vertex_output.VertexOutput.{VertexOutput}
use Rattle.row_cells.specs.Cutting.{IsCutInto}
use Rattle.task_body.specs.Outputs.{TakesRows}
use Rattle.task_body.specs.Parts.{Gives}
use Rattle.task_body.specs.TaskRows.{task_rows, task_width}
use Rattle.task_body.proofs.Parts.{gives, task_takes}
use Rattle.task_body.proofs.running.edges_of.Goals as goal

pub cut_each-requires-clause-take : goal.cut_each-requires-clause-take
cut_each-requires-clause-take c =
    let task = c.args.task.now in
    let width : c.batch.inside.width ≡ task_width task = ap (λ (bag : Bag). bag.width) c.batch.view_is ∙ c.in_ok-batch.ensures.width in
    let outputs : c.as_slice-outputs.result.now ≡ task.vertex.outputs = c.as_slice-outputs.ensures ∙ ap (λ (v : Vertex). v.outputs) c.vertex.ensures in
    subst (λ (l : List VertexOutput). All (TakesRows c.batch.inside.width) l) (sym outputs) (subst (λ (n : ℕ). All (TakesRows n) task.vertex.outputs) (sym width) (task_takes task))

pub cut_each-requires-clause-rows : goal.cut_each-requires-clause-rows
cut_each-requires-clause-rows c = subst (λ (bag : Bag). AllByRecursion (RowOf bag.width) bag.rows) (sym c.batch.view_is) (rows_of_width c.in_ok-batch.batch c.in_ok-batch.ensures.fit)

pub returns : goal.returns
returns c =
    let task = c.args.task.now in
    let width : c.batch.inside.width ≡ task_width task = ap (λ (bag : Bag). bag.width) c.batch.view_is ∙ c.in_ok-batch.ensures.width in
    let outputs : c.as_slice-outputs.result.now ≡ task.vertex.outputs = c.as_slice-outputs.ensures ∙ ap (λ (v : Vertex). v.outputs) c.vertex.ensures in
    let attempt : c.name-attempt.result.attempt ≡ task.name.attempt = ap (λ (name : PartName). name.attempt) c.name-attempt.ensures in
    let same = subst (λ (bag : Bag). SameBag bag.rows (task_rows task)) (sym c.batch.view_is) c.in_ok-batch.ensures.rows in
    IfOk-weaker c.cut_each.result (λ edges. AllZip (λ output cells. IsCutInto c.batch.inside.width c.name-attempt.result.attempt output c.batch.inside.rows cells) c.as_slice-outputs.result.now edges) (λ edges. Gives task edges)
    (λ edges cut. gives task c.batch.inside.width c.name-attempt.result.attempt c.batch.inside.rows edges width attempt same
    (subst (λ (l : List VertexOutput). AllZip (λ output cells. IsCutInto c.batch.inside.width c.name-attempt.result.attempt output c.batch.inside.rows cells) l edges) outputs cut)) c.cut_each.ensures
