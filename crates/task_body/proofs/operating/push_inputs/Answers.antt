use Rattle.std.proofs.Common.{◌++◌, take, sym, ◌∙◌, subst}
use Rattle.std.specs.List.{flat_map}
use Rattle.bag_laws.proofs.Laws.{SameBag-append}
use Rattle.row_collector.proofs.Laws.{both_collected}
use Rattle.row_core.specs.Bags.{SameBag}
use Rattle.task_body.specs.Inputs.{input_rows}
use Rattle.task_body.proofs.Inputs.{flat_more}
use Rattle.task_body.proofs.operating.push_inputs.Goals as goal

pub loop-input-preserved : goal.loop-input-preserved
loop-input-preserved g c =
    let rows = input_rows c.args.op.now in
    let inputs = c.args.inputs.now in
    let k = c.loop-input.input-index in
    let input = c.input-item.result in
    let (read, (same, taken)) = c.loop-input.invariant.takes in
    let (more, (also, took)) = c.in_ok-push_input.ensures.takes in
    record {
      width = c.in_ok-push_input.ensures.width ∙ c.loop-input.invariant.width;
      kept = c.in_ok-push_input.ensures.kept ∙ c.loop-input.invariant.kept;
      takes = (
        read ++ more,
        (
          subst (SameBag (read ++ more)) (sym (flat_more rows inputs k input c.loop-input-test.true c.input-item.is))
              (SameBag-append read more (flat_map rows (take k inputs)) (rows input) same also),
          both_collected g.C.Collector.holds c.args.out.now c.loop-input.out c.push_input.new.out read more taken took,
        ),
      );
    }
