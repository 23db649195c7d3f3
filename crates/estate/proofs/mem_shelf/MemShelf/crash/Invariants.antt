use Rattle.std.proofs.Common.{◌≡◌, nat_le, take, map}
use Rattle.std.specs.List.{filter}
use Rattle.estate.specs.Shelf.{recalled}
use Rattle.estate.proofs.mem_shelf.MemShelf.crash.Given as goal

abbrev pub invariant-loop-part : goal.invariant-loop-part
invariant-loop-part l = l.made.parts.items ≡ map (recalled l.moment) (filter (λ part. nat_le part.since l.moment) (take l.part-index l.self.parts.items))
