use Rattle.std.proofs.Common.{◌≡◌, ◌∙◌, length}
use Rattle.estate.proofs.Laws.{keeps_contents_on}
use Rattle.batch_commands.specs.declared.listed_table.ListedTable.{ListedTable}
use Rattle.batch_commands.proofs.OwnTables.{all_rest, read_more, steady_ok}
use Rattle.batch_commands.proofs.tables.read_tables.Goals as goal

pub loop-table-preserved : goal.loop-table-preserved
loop-table-preserved g c =
    let contents = g.I.Inputs.contents in
    let from = contents c.args.inputs.now in
    let before = contents c.loop-table.inputs in
    let kept = c.loop-table.invariant.keeps in
    let next = (c.in-Some.ensures.steps).0 in
    record {
      keeps = keeps_contents_on from before (contents c.read_table.new.inputs) kept c.read_table.ensures.reads.keeps;
      steady = steady_ok c.read_table.result _ _ _ c.in_ok-read_table.was c.read_table.ensures.reads.steady ∙ c.loop-table.invariant.steady;
      right = λ told. all_rest (λ (table : ListedTable). table.files ≡ length (from.files table.table)) c.in-Some.table _ _ next (c.loop-table.invariant.right told);
      read = λ told. read_more from before kept told c.loop-table.rows.items c.push.new.self.items c.in_ok-read_table.field-0 c.in-Some.table _ _ _ next
          c.in_ok-push.ensures.items c.in_ok-read_table.ensures.files (c.loop-table.invariant.read told);
    }
