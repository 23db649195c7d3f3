use Rattle.std.proofs.Common.{◌≡◌, ◌++◌, length, map, drop}
use Rattle.csv_tables.specs.Lines.{cut, total}
use Rattle.csv_tables.proofs.lines.slices.Given as goal

abbrev pub invariant-loop-size : goal.invariant-loop-size
invariant-loop-size l = record {
  cuts : map (λ line. line.now) l.lines.items ++ cut (drop l.size-index l.size-items) l.rest ≡ cut l.size-items l.text;
  fits : total (drop l.size-index l.size-items) ≡ length l.rest;
}
