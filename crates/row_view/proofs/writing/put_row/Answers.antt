use Rattle.row_view.proofs.Places.{text_at}
use Rattle.row_view.proofs.writing.put_row.Goals as goal

pub put_value-requires : goal.put_value-requires
put_value-requires c = text_at c.args.row.now c.loop-value.value-index _ c.loop-value-test.true c.requires.texts
