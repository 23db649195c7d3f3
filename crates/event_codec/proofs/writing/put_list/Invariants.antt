use Rattle.std.proofs.Common.{◌≡◌, ◌++◌, length, take}
use Rattle.std.specs.List.{flat_map, AllByRecursion}
use Rattle.event_codec.specs.Spelling.{word}
use Rattle.event_codec.proofs.writing.put_list.Given as goal

abbrev pub invariant-loop-item : goal.invariant-loop-item
invariant-loop-item g l = record {
  spelled : l.bytes ≡ l.fn.bytes ++ (word (length l.items) ++ flat_map g.T.Writable.spell (take l.item-index l.items));
  fits : AllByRecursion g.T.Writable.fits (take l.item-index l.items);
}
