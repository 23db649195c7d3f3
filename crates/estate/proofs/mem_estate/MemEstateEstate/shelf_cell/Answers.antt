use Rattle.std.proofs.Common.{◌≡◌, List, MatchOption, Contains, sym, subst, arith}
use Rattle.estate.specs.declared.part_name.PartName.{PartName}
use Rattle.estate.specs.Holding.{StoredPart}
use Rattle.estate.specs.Parts.{cell_of}
use Rattle.estate.specs.Shelf.{held_in, ever_at}
use Rattle.estate.specs.Memory.{history_of, clock_of}
use Rattle.estate.proofs.Stepping.{held_after}
use Rattle.estate.proofs.Calling.{ever_kept}
use Rattle.estate.proofs.mem_estate.MemEstateEstate.shelf_cell.Goals as goal

pub returns-clause-cell : goal.returns-clause-cell
returns-clause-cell c = λ told.
    let old = c.args.self.now in
    let mid = c.enter_shelf.new.self in
    let e = c.in_ok-enter_shelf.ensures.entered in
    let name = c.args.name in
    let held = held_after (clock_of mid) mid.shelf.parts.items mid.ended.shelf in
    let ever = ever_kept (history_of old) (history_of mid) (clock_of old) (clock_of mid) old.ended mid.ended (omega (arith, e.clock)) e.enters.shelf in
    let found = c.in_ok-cell.ensures in
    subst (λ (l : List PartName). MatchOption c.in_ok-cell.field-0 (¬ (Contains l name)) (λ bytes. Contains l name × (bytes ≡ cell_of name c.args.edge c.args.cell (ever_at (clock_of old) old.shelf.parts.items)))) (sym held)
    (subst (λ (l : List StoredPart). MatchOption c.in_ok-cell.field-0 (¬ (Contains (held_in mid.shelf.parts.items) name)) (λ bytes. Contains (held_in mid.shelf.parts.items) name × (bytes ≡ cell_of name c.args.edge c.args.cell l))) ever found)
