use Rattle.std.proofs.Common.{◌≡◌, ◌++◌, List, ◌∙◌, subst}
use Rattle.std.specs.List.{flat_map}
use Rattle.std.proofs.lemmas.List.{take-append-drop}
use Rattle.std.proofs.lemmas.Result.{on_ok_weaker}
use Rattle.row_collector.proofs.Laws.{both_collected}
use Rattle.row_core.specs.Bags.{SameBag}
use Rattle.task_body.specs.Cells.{cell_rows}
use Rattle.task_body.specs.declared.task_cell.TaskCell.{TaskCell}
use Rattle.task_body.proofs.Inputs.{turned}
use Rattle.task_body.proofs.reading.push_input.Goals as goal

pub returns-clause-takes : goal.returns-clause-takes
returns-clause-takes g c =
    let read = flat_map (cell_rows c.args.op.now) in
    let before = c.split_at.result.0.now in
    let after = c.split_at.result.1.now in
    let all : before ++ after ≡ c.args.input.now.cells.items =
    (λ i. c.split_at.ensures.front i ++ c.split_at.ensures.back i) ∙ take-append-drop c.first_cell.result c.as_slice-cells.result.now ∙ c.as_slice-cells.ensures.value in
    let same = subst (λ (l : List TaskCell). SameBag (read after ++ read before) (read l)) all (turned c.args.op.now before after) in
    on_ok_weaker c.push_cells-2.result
    (λ taken. (
      read after ++ read before,
      (same, both_collected g.C.Collector.holds c.args.out.now c.push_cells.new.out c.push_cells-2.new.out (read after) (read before) c.in_ok-push_cells.ensures.takes taken),
    ))
    c.push_cells-2.ensures.takes
