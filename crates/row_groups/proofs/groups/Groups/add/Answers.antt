use Rattle.std.proofs.Common.{◌≡◌, true, List, ℕ, [], map, Some, Option, sym, ap, ◌∙◌, arith}
use Rattle.std.specs.Prelude.{is_some, position}
use Rattle.std.specs.List.{list_any}
use Rattle.std.specs.Str.{bytes_eq}
use Rattle.std.proofs.lemmas.List.Quantifiers.{position-Some}
use Rattle.row_core.specs.Encoding.{values_bytes}
use Rattle.row_core.specs.Hashing.{key_of}
use Rattle.row_view.specs.Encoded.{RowOf}
use Rattle.row_view.specs.Views.{row_seen}
use Rattle.row_view.proofs.Laws.{all_more}
use Rattle.row_groups.specs.Accumulators.{accumulator_of, states_of}
use Rattle.row_groups.proofs.Holding.{held_there}
use Rattle.row_groups.proofs.groups.Groups.add.Goals as goal

pub add_at-requires : goal.add_at-requires
add_at-requires c =
    let groups = c.args.self.now in
    let at = position-Some (bytes_eq c.args.key.now) groups.places c.in-Some.place [] (sym c.place_of.ensures.place ∙ c.in-Some.is) in
    omega (arith, at.0, groups.told)

pub returns-clause-takes : goal.returns-clause-takes
returns-clause-takes c = λ rows had.
    let groups = c.args.self.now in
    let row = row_seen c.args.row.now in
    let key = values_bytes (key_of groups.keys.now row) in
    let at : position (bytes_eq key) groups.places ≡ Some c.in-Some.place =
    ap (λ (bytes : List ℕ). position (bytes_eq bytes) groups.places) (sym c.requires.key) ∙ sym c.place_of.ensures.place ∙ c.in-Some.is in
    let found : list_any (bytes_eq key) groups.places ≡ true =
    ap (λ (bytes : List ℕ). list_any (bytes_eq bytes) groups.places) (sym c.requires.key) ∙ sym c.place_of.ensures.found ∙ ap (λ (place : Option ℕ). is_some place) c.in-Some.is in
    let both = held_there (λ some. map (accumulator_of some) groups.aggs.now) groups.keys.now groups.width rows row groups.places (states_of groups.states.items) had.wide c.requires.row had.keys had.told
    c.in-Some.place [] (states_of c.add_at.new.groups.items) at found c.in_ok-add_at.ensures.takes in
    record {
      wide = all_more (RowOf groups.width) rows row had.wide c.requires.row;
      keys = both.0;
      told = both.1;
    }
