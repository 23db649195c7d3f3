use Rattle.std.proofs.Common.{◌≡◌, ◌<◌, length, nat_lt, IsTrue, sym, subst}
use Rattle.std.specs.Prelude.{All}
use Rattle.std.specs.List.{list_all}
use Rattle.plan_model.specs.declared.ship.Ship.{Ship}
use Rattle.row_view.specs.Views.{row_seen}
use Rattle.row_cells.specs.Cutting.{ships_to}
use Rattle.row_cells.proofs.Places.{below}
use Rattle.row_cells.proofs.placing.place_of.Goals as goal

pub hash_at-requires-clause-columns : goal.hash_at-requires-clause-columns
hash_at-requires-clause-columns c =
    let columns : c.as_slice.result.now ≡ c.in-Hash.columns = cc (c.as_slice.ensures, c.in-Hash.columns-1-is) in
    let ships : IsTrue (list_all (λ column. nat_lt column (length c.args.row.now)) c.in-Hash.columns) =
    subst (λ (ship : Ship). IsTrue (ships_to (length c.args.row.now) c.args.cells ship)) c.in-Hash.is c.requires.ships in
    subst (All (λ column. column < length c.args.row.now)) (sym columns) (below (length c.args.row.now) c.in-Hash.columns ships)

pub hash_at-requires-clause-texts : goal.hash_at-requires-clause-texts
hash_at-requires-clause-texts c = c.texts_fit.ensures.key (row_seen c.args.row.now) c.as_slice.result.now c.requires.texts
