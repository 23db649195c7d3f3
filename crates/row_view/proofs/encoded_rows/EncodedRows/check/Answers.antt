use Rattle.std.proofs.Common.{sym, ◌∙◌}
use Rattle.row_view.proofs.Fronts.{all_wide}
use Rattle.row_view.proofs.encoded_rows.EncodedRows.check.Goals as goal

pub returns-in-None : goal.returns-in-None
returns-in-None c =
    let found = c.in-None.ensures in
    all_wide c.args.width c.args.bytes c.result-1.given.0 found.0 (found.1.0, sym c.as_slice.ensures ∙ found.1.1)
