use Rattle.std.proofs.Common.{rules, FitsSigned, refl, length}
use Rattle.std.specs.Int.{w64}
use Rattle.row_core.proofs.Laws.{hash_int, hash_text}
use Rattle.row_view.proofs.hashing.hash_value.Goals as goal

pub returns-in-Int : goal.returns-in-Int
returns-in-Int c =
    let fits : FitsSigned w64 c.in-Int.number = search rules in
    rw c.in-Int.is (hash_int c.args.state c.hash_more-tagged.result c.hash_more-in-Int.result c.cast_unsigned.result c.in-Int.number c.to_be_bytes.result fits c.hash_more-tagged.ensures c.to_be_bytes.ensures c.cast_unsigned.ensures c.hash_more-in-Int.ensures)

pub returns-in-Text : goal.returns-in-Text
returns-in-Text c =
    rw c.in-Text.is (hash_text c.args.state c.hash_more-tagged-in-Text.result c.hash_more-measured.result c.hash_more-in-Text.result (length c.in-Text.text.now) c.to_be_bytes-in-Text.result c.in-Text.text.now c.in-Text.text.now c.hash_more-tagged-in-Text.ensures c.to_be_bytes-in-Text.ensures refl c.hash_more-measured.ensures refl c.hash_more-in-Text.ensures)
