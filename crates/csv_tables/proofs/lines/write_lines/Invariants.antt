use Rattle.std.proofs.Common.{◌≡◌, ◌++◌, length, map, take}
use Rattle.std.specs.List.{flat_map}
use Rattle.plan_model.specs.Sinks.{line_of}
use Rattle.csv_tables.specs.Writing.{IsBetweenLines, text_in}
use Rattle.csv_tables.proofs.lines.write_lines.Given as goal

abbrev pub invariant-loop-row : goal.invariant-loop-row
invariant-loop-row l = record {
  between : IsBetweenLines l.writer;
  text : text_in l.writer ≡ l.fn.text.items ++ flat_map (λ line. line) (map line_of (take l.row-index l.rows));
  lengths : l.lengths.items ≡ l.fn.lengths.items ++ map length (map line_of (take l.row-index l.rows));
  start : l.start ≡ length (text_in l.writer);
}
