-- The lines of a sink, over the writer of csv.
use Rattle.std.specs.Prelude.{ℕ, Bool, List, [], map}
use Rattle.std.specs.Ordering.{is_lt, nat_cmp}
use Rattle.std.specs.Cmp.Lexicographic.{slice_cmp}
use Rattle.std.specs.List.{flat_map}
use Rattle.std.specs.Fmt.{signed_decimal}
use Rattle.csv.specs.Writing.{default_writer, row_text}
use Rattle.row_core.specs.Bags.{ascending}
use Rattle.row_core.specs.declared.value.Value.{Value}
use Rattle.row_core.specs.declared.value.Value.TheVariants.{Null, Int, Text}

-- how a value is written: Null as nothing
abbrev pub cell_text : Value → List ℕ
cell_text Null = []
cell_text (Int n) = signed_decimal n
cell_text (Text t) = t

-- the line of a row, with its line feed
abbrev pub line_of : List Value → List ℕ
line_of row = row_text default_writer (map cell_text row)

-- the order of lines, byte by byte
abbrev pub line_less : List ℕ → List ℕ → Bool
line_less a b = is_lt (slice_cmp nat_cmp a b)

-- the text of a sink's rows: their lines in ascending order
abbrev pub sorted_lines : List (List Value) → List ℕ
sorted_lines rows = flat_map (λ line. line) (ascending line_less (map line_of rows))
