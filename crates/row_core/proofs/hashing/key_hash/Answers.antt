use Rattle.std.proofs.Common.{◌<◌, length, ap, ◌∙◌, arith}
use Rattle.row_core.specs.Encoding.{value_bytes}
use Rattle.row_core.specs.Hashing.{hash_from}
use Rattle.row_core.proofs.Hashes.{hash_from-nil, hash_key_more, key_text_fits, column_value}
use Rattle.row_core.proofs.hashing.key_hash.Goals as goal

pub loop-column-init : goal.loop-column-init
loop-column-init c = hash_from-nil _

pub hash_value-state-requires : goal.hash_value-state-requires
hash_value-state-requires c =
    let within : c.loop-column.column-index < length c.args.cols.now = omega (arith, c.loop-column-test.true, ap length c.as_slice-column-items.ensures) in
    let value = column_value c.as_slice.result.now c.args.row.now c.as_slice-column-items.result.now c.args.cols.now c.loop-column.column-index c.index-as_slice-column.result c.as_slice.ensures c.as_slice-column-items.ensures c.requires.columns within c.index-as_slice-column.is in
    key_text_fits c.args.row.now c.args.cols.now c.loop-column.column-index c.index-as_slice-column.result c.requires.texts within value

pub loop-column-preserved : goal.loop-column-preserved
loop-column-preserved c =
    let within : c.loop-column.column-index < length c.args.cols.now = omega (arith, c.loop-column-test.true, ap length c.as_slice-column-items.ensures) in
    let value = column_value c.as_slice.result.now c.args.row.now c.as_slice-column-items.result.now c.args.cols.now c.loop-column.column-index c.index-as_slice-column.result c.as_slice.ensures c.as_slice-column-items.ensures c.requires.columns within c.index-as_slice-column.is in
    c.hash_value-state.ensures ∙ ap (λ state. hash_from state (value_bytes c.index-as_slice-column.result)) c.loop-column.invariant ∙ hash_key_more c.args.row.now c.args.cols.now c.loop-column.column-index c.index-as_slice-column.result within value
