use Rattle.std.proofs.Common.{◌≡◌, ℕ, length, sym, ap, subst, ◌∙◌}
use Rattle.std.proofs.lemmas.List.{length-map}
use Rattle.csv.specs.Records.{fields_of}
use Rattle.plan_model.specs.Tables.{row_of}
use Rattle.row_core.specs.Encoding.{RowFits}
use Rattle.row_steps.specs.Chained.{ops_of, StepsFit}
use Rattle.row_view.specs.Views.{seen, row_seen}
use Rattle.csv_tables.proofs.Fitting.{row_wide, row_fits}
use Rattle.csv_tables.proofs.scan.scan_record.Goals as goal

pub push_row-requires-clause-row : goal.push_row-requires-clause-row
push_row-requires-clause-row g c =
    let is : row_seen c.as_slice.result.now ≡ row_of c.args.kinds.now (fields_of c.args.cells.now) = ap row_seen c.as_slice.ensures.value ∙ c.in_ok-row.ensures in
    subst RowFits (sym is) (row_fits c.args.kinds.now (fields_of c.args.cells.now) c.requires.width)

pub push_row-requires-clause-steps : goal.push_row-requires-clause-steps
push_row-requires-clause-steps g c =
    let is : row_seen c.as_slice.result.now ≡ row_of c.args.kinds.now (fields_of c.args.cells.now) = ap row_seen c.as_slice.ensures.value ∙ c.in_ok-row.ensures in
    let long : length c.as_slice.result.now ≡ length c.args.kinds.now = sym (length-map c.as_slice.result.now seen) ∙ ap length is ∙ row_wide c.args.kinds.now (fields_of c.args.cells.now) in
    subst (λ (n : ℕ). StepsFit n (ops_of c.args.steps.now) (g.C.Collector.width c.args.out.now)) (sym long) c.requires.steps
