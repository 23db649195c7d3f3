use Rattle.std.proofs.Common.{◌≡◌, ◌++◌, true, List, ℕ, [], set, Some, Option, sym, ap, ◌∙◌}
use Rattle.std.specs.Prelude.{is_some, position}
use Rattle.std.specs.List.{list_any}
use Rattle.std.specs.Str.{bytes_eq}
use Rattle.row_core.specs.Encoding.{row_bytes, rows_bytes, values_bytes}
use Rattle.row_core.specs.Hashing.{key_of}
use Rattle.row_groups.proofs.Laws.{held_there}
use Rattle.row_view.specs.Encoded.{RowOf}
use Rattle.row_view.specs.Views.{row_seen}
use Rattle.row_view.proofs.Laws.{all_more}
use Rattle.hash_join.proofs.Building.{bytes_more}
use Rattle.hash_join.proofs.build_rows.BuildRows.add.Goals as goal

pub returns-clause-takes : goal.returns-clause-takes
returns-clause-takes c = λ rows had.
    let built = c.args.self.now in
    let row = row_seen c.args.row.now in
    let groups = built.groups.items in
    let now = c.put_at.new.groups.items in
    let key = values_bytes (key_of built.keys row) in
    let place = c.in-Some.place in
    let at : position (bytes_eq key) built.places ≡ Some place =
    ap (λ (bytes : List ℕ). position (bytes_eq bytes) built.places) (sym c.requires.key) ∙ sym c.place_of.ensures.place ∙ c.in-Some.is in
    let found : list_any (bytes_eq key) built.places ≡ true =
    ap (λ (bytes : List ℕ). list_any (bytes_eq bytes) built.places) (sym c.requires.key) ∙ sym c.place_of.ensures.found ∙ ap (λ (place : Option ℕ). is_some place) c.in-Some.is in
    let both = held_there rows_bytes built.keys built.width rows row built.places groups had.wide c.requires.row had.keys had.told
    place [] now at found
    (λ some was. c.in_ok-put_at.ensures.put ∙ ap (λ (bytes : List ℕ). set groups place (bytes ++ row_bytes row)) was ∙ ap (set groups place) (sym (bytes_more some row))) in
    record {
      wide = all_more (RowOf built.width) rows row had.wide c.requires.row;
      keys = both.0;
      told = both.1;
    }
