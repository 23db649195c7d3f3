use Rattle.std.proofs.Common.{◌≡◌, ◌++◌, List, ℕ, ap, ◌∙◌, arith}
use Rattle.std.specs.Str.{bytes_eq}
use Rattle.std.proofs.lemmas.List.{length-map}
use Rattle.indexmap.specs.IndexSet.{insert_key}
use Rattle.row_core.specs.Encoding.{row_bytes}
use Rattle.row_core.proofs.Laws.{values_texts_fit}
use Rattle.row_view.specs.Encoded.{RowOf}
use Rattle.row_view.specs.Views.{seen, row_seen}
use Rattle.row_view.proofs.Laws.{all_more}
use Rattle.row_set.proofs.Each.{kept_more}
use Rattle.row_set.proofs.row_set.RowSetCollector.collect.Goals as goal

pub put_row-requires-clause-width : goal.put_row-requires-clause-width
put_row-requires-clause-width c = omega (arith, length-map c.args.row.now seen, c.requires.fits.width)

pub put_row-requires-clause-texts : goal.put_row-requires-clause-texts
put_row-requires-clause-texts c = values_texts_fit (row_seen c.args.row.now) c.requires.fits.values

pub returns-clause-takes : goal.returns-clause-takes
returns-clause-takes c = λ rows had.
    let set = c.args.self.now in
    let row = row_seen c.args.row.now in
    let bytes : c.as_slice.result.now ≡ row_bytes row =
    c.as_slice.ensures ∙ c.in_ok-put_row.ensures ∙ ap (λ (l : List ℕ). l ++ row_bytes row) c.emptied-bytes.ensures in
    let put : c.insert.new.self ≡ insert_key bytes_eq set.rows (row_bytes row) = c.in_ok-insert.ensures.ok ∙ ap (insert_key bytes_eq set.rows) bytes in
    record {
      wide = all_more (RowOf set.width) rows row had.wide c.requires;
      kept = kept_more set.width rows row set.rows c.insert.new.self had.wide c.requires had.kept put;
    }
