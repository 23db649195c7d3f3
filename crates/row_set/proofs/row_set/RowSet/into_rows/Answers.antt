use Rattle.std.proofs.Common.{◌≡◌, ◌∙◌}
use Rattle.row_core.specs.Bags.{one_of_each}
use Rattle.row_core.specs.Encoding.{rows_bytes}
use Rattle.row_view.specs.Encoded.{RowOf, Spells}
use Rattle.row_set.proofs.Each.{each_fit, flat_of_map, spelled_once}
use Rattle.row_set.proofs.row_set.RowSet.into_rows.Goals as goal

pub unreachable-requires : goal.unreachable-requires
unreachable-requires c =
    let (rows, held) = c.requires in
    let each = one_of_each rows in
    let bytes : c.in_ok-bytes.bytes ≡ rows_bytes each = c.in_ok-bytes.ensures ∙ flat_of_map c.args.self.rows each held.kept in
    let spelled : Spells c.args.self.width c.in_ok-bytes.bytes each = (each_fit (RowOf c.args.self.width) rows held.wide, bytes) in
    c.rows_stop_once.ensures.rows c.args.self.width c.in_ok-bytes.bytes _ each c.in-Err.ensures spelled

pub returns : goal.returns
returns c = λ rows held.
    let each = one_of_each rows in
    let bytes : c.in_ok-bytes.bytes ≡ rows_bytes each = c.in_ok-bytes.ensures ∙ flat_of_map c.args.self.rows each held.kept in
    spelled_once c.args.self.width each c.in-Ok.rows c.in_ok-bytes.bytes (each_fit (RowOf c.args.self.width) rows held.wide) bytes c.in-Ok.ensures
