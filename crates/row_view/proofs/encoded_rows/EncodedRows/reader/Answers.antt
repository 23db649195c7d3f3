use Rattle.std.proofs.Common.{sym, ◌∙◌}
use Rattle.row_core.proofs.Laws.{rows_same}
use Rattle.row_view.proofs.encoded_rows.EncodedRows.reader.Goals as goal

pub returns : goal.returns
returns c =
    let spelled = c.self.inside.spelled in
    rows_same c.new.result spelled.0 c.new.ensures.fit spelled.1.0 (sym c.new.ensures.spelled ∙ c.as_slice.ensures ∙ spelled.1.1) ∙ c.self.view_is
