use Rattle.std.proofs.Common.{◌≡◌, ◌<◌, ◌++◌, ℕ, [], length, get_or, set, IsTrue, sym, subst, ◌∙◌, arith}
use Rattle.std.proofs.lemmas.List.{length-map}
use Rattle.row_core.specs.Encoding.{row_bytes}
use Rattle.row_core.proofs.Laws.{values_texts_fit}
use Rattle.row_view.specs.Views.{seen, row_seen}
use Rattle.row_cells.specs.Cutting.{ships_to, place_of}
use Rattle.row_cells.proofs.Cuts.{cut_more, turn_more}
use Rattle.row_cells.proofs.output_cells.OutputCellsCollector.collect.Goals as goal

pub place_of-place-requires-clause-ships : goal.place_of-place-requires-clause-ships
place_of-place-requires-clause-ships c =
    let held = c.args.self.now in
    let long : length c.args.row.now ≡ held.width = sym (length-map c.args.row.now seen) ∙ c.requires.wide in
    subst (λ (n : ℕ). IsTrue (ships_to n held.output.now.cells held.output.now.ship)) (sym long) held.ships

pub place_of-place-requires-clause-texts : goal.place_of-place-requires-clause-texts
place_of-place-requires-clause-texts c = values_texts_fit (row_seen c.args.row.now) c.requires.fits.values

pub put_in-requires-clause-place : goal.put_in-requires-clause-place
put_in-requires-clause-place c = omega (arith, c.place_of-place.ensures.within, c.args.self.now.count)

pub put_in-requires-clause-width : goal.put_in-requires-clause-width
put_in-requires-clause-width c = omega (arith, length-map c.args.row.now seen, c.requires.fits.width)

pub put_in-requires-clause-texts : goal.put_in-requires-clause-texts
put_in-requires-clause-texts c = values_texts_fit (row_seen c.args.row.now) c.requires.fits.values

pub returns-clause-takes : goal.returns-clause-takes
returns-clause-takes c = λ rows had.
    let held = c.args.self.now in
    let row = row_seen c.args.row.now in
    let output = held.output.now in
    let bytes = held.cells.items in
    let now = c.put_in.new.cells.items in
    let place = place_of output.ship output.cells held.turn row in
    let is : c.place_of-place.result ≡ place = c.place_of-place.ensures.place in
    let put : now ≡ set bytes place (get_or bytes place [] ++ row_bytes row) =
    subst (λ (p : ℕ). now ≡ set bytes p (get_or bytes p [] ++ row_bytes row)) is c.in_ok-put_in.ensures.put in
    let within : place < output.cells = subst (λ (p : ℕ). p < output.cells) is c.place_of-place.ensures.within in
    record {
      cut = cut_more held.width held.attempt output rows row bytes now held.turn c.requires had.cut had.turn within put;
      turn = c.next_turn-turn.ensures.next ∙ turn_more held.attempt output.cells held.turn rows row had.turn;
    }
