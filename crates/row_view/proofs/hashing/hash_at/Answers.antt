use Rattle.std.proofs.Common.{get_or, ap, ◌∙◌}
use Rattle.row_core.specs.Encoding.{value_bytes}
use Rattle.row_core.specs.Hashing.{hash_from}
use Rattle.row_core.proofs.Laws.{hash_from-nil, hash_key_more, key_text_fits}
use Rattle.row_view.specs.declared.value_ref.ValueRef.TheVariants.{Null}
use Rattle.row_view.specs.Views.{seen, row_seen}
use Rattle.row_view.proofs.Places.{seen_at}
use Rattle.row_view.proofs.hashing.hash_at.Goals as goal

pub loop-column-init : goal.loop-column-init
loop-column-init c = hash_from-nil _

pub hash_value-state-requires : goal.hash_value-state-requires
hash_value-state-requires c =
    let column = get_or c.args.columns.now c.loop-column.column-index 0 in
    let value = seen_at c.args.row.now column Null (c.requires.columns c.loop-column.column-index 0 c.loop-column-test.true) in
    key_text_fits (row_seen c.args.row.now) c.args.columns.now c.loop-column.column-index (seen (get_or c.args.row.now column Null)) c.requires.texts c.loop-column-test.true value

pub loop-column-preserved : goal.loop-column-preserved
loop-column-preserved c =
    let column = get_or c.args.columns.now c.loop-column.column-index 0 in
    let value = seen_at c.args.row.now column Null (c.requires.columns c.loop-column.column-index 0 c.loop-column-test.true) in
    c.hash_value-state.ensures ∙ ap (λ state. hash_from state (value_bytes (seen (get_or c.args.row.now column Null)))) c.loop-column.invariant
    ∙ hash_key_more (row_seen c.args.row.now) c.args.columns.now c.loop-column.column-index (seen (get_or c.args.row.now column Null)) c.loop-column-test.true value
