use Rattle.std.proofs.Common.{◌≡◌, ◌++◌, ◌∷◌, [], false, List, ℕ, sym, ap, ◌∙◌}
use Rattle.std.specs.List.{list_any}
use Rattle.std.specs.Str.{bytes_eq}
use Rattle.std.proofs.lemmas.List.{append-nil}
use Rattle.indexmap.specs.IndexSet.{insert_key}
use Rattle.row_core.specs.Encoding.{row_bytes, rows_bytes, values_bytes}
use Rattle.row_core.specs.Hashing.{key_of}
use Rattle.row_groups.proofs.Laws.{held_new}
use Rattle.row_view.specs.Encoded.{RowOf}
use Rattle.row_view.specs.Views.{row_seen}
use Rattle.row_view.proofs.Laws.{all_more}
use Rattle.hash_join.proofs.build_rows.BuildRows.begin.Goals as goal

pub returns-clause-takes : goal.returns-clause-takes
returns-clause-takes c = λ rows had.
    let built = c.args.self.now in
    let row = row_seen c.args.row.now in
    let groups = built.groups.items in
    let key = values_bytes (key_of built.keys row) in
    let none : list_any (bytes_eq key) built.places ≡ false = ap (λ (bytes : List ℕ). list_any (bytes_eq bytes) built.places) (sym c.requires.key) ∙ c.requires.new in
    let more = c.in_ok-insert.ensures.ok ∙ ap (insert_key bytes_eq built.places) c.requires.key in
    let bytes : c.put_row.new.bytes ≡ rows_bytes (row ∷ []) = c.in_ok-put_row.ensures ∙ ap (λ (l : List ℕ). l ++ row_bytes row) c.new-bytes.ensures ∙ sym (append-nil (row_bytes row)) in
    let fresh = c.in_ok-push.ensures.items ∙ ap (λ (one : List ℕ). groups ++ one ∷ []) bytes in
    let both = held_new rows_bytes built.keys built.width rows row built.places groups had.wide c.requires.row had.keys had.told _ _ none more fresh in
    record {
      wide = all_more (RowOf built.width) rows row had.wide c.requires.row;
      keys = both.0;
      told = both.1;
    }
