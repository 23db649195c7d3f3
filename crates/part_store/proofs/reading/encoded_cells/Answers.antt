use Rattle.std.proofs.Common.{◌≤◌, arith}
use Rattle.estate.proofs.Laws.{leads_stays}
use Rattle.part_store.proofs.Reached.{one_more, finishes}
use Rattle.part_store.proofs.reading.encoded_cells.Goals as goal

pub loop-cell-preserved : goal.loop-cell-preserved
loop-cell-preserved g c =
    let law = g.met.E.Estate.lawful in
    rw c.in_ok-push.ensures.ok (one_more c.args.name c.args.edge c.args.s0 c.args.s1 c.loop-cell.cell c.args.width _ _ _ c.loop-cell.cells c.in_ok-encoded_cell.field-0 (law c.args.estate.now) (law c.loop-cell.estate) (law c.encoded_cell.new.estate)
    c.loop-cell-test.true c.loop-cell.invariant c.in_ok-encoded_cell.ensures.adds c.in_ok-encoded_cell.ensures.answer c.in_ok-encoded_cell.ensures.form c.in_ok-encoded_cell.ensures.steady)

pub returns-in_err-push-clause-adds : goal.returns-in_err-push-clause-adds
returns-in_err-push-clause-adds g c =
    let law = g.met.E.Estate.lawful in
    leads_stays _ _ _ (law c.args.estate.now) (law c.loop-cell.estate) (law c.encoded_cell.new.estate) c.loop-cell.invariant.adds c.encoded_cell.ensures.adds

pub returns-in_err-encoded_cell-clause-adds : goal.returns-in_err-encoded_cell-clause-adds
returns-in_err-encoded_cell-clause-adds g c =
    let law = g.met.E.Estate.lawful in
    leads_stays _ _ _ (law c.args.estate.now) (law c.loop-cell.estate) (law c.encoded_cell.new.estate) c.loop-cell.invariant.adds c.encoded_cell.ensures.adds

pub returns-clause-answer : goal.returns-clause-answer
returns-clause-answer g c =
    let over : c.args.s1 ≤ c.loop-cell.cell = omega (arith, c.loop-cell-test.false) in
    (finishes c.args.name c.args.edge c.args.s0 c.args.s1 c.loop-cell.cell c.args.width _ _ c.loop-cell.cells over c.loop-cell.invariant).0

pub returns-clause-form : goal.returns-clause-form
returns-clause-form g c =
    let over : c.args.s1 ≤ c.loop-cell.cell = omega (arith, c.loop-cell-test.false) in
    (finishes c.args.name c.args.edge c.args.s0 c.args.s1 c.loop-cell.cell c.args.width _ _ c.loop-cell.cells over c.loop-cell.invariant).1
