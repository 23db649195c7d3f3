use Rattle.std.proofs.Common.{◌↔◌, List, Contains, sym, subst}
use Rattle.estate.specs.declared.part_name.PartName.{PartName}
use Rattle.estate.specs.Memory.{clock_of}
use Rattle.estate.proofs.Stepping.{held_after}
use Rattle.estate.proofs.mem_estate.MemEstateEstate.shelf_names.Goals as goal

pub returns-clause-names : goal.returns-clause-names
returns-clause-names c = λ told.
    let mid = c.enter_shelf.new.self in
    let held = held_after (clock_of mid) mid.shelf.parts.items mid.ended.shelf in
    (c.in_ok-names.ensures.ascending, λ name. subst (λ (l : List PartName). Contains c.in_ok-names.field-0 name ↔ Contains l name) (sym held) (c.in_ok-names.ensures.names name))
