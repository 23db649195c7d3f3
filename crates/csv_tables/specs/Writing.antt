-- A writer of a sink's lines, as it goes from cell to cell and from line to line.
use Rattle.std.specs.Prelude.{◌≡◌, ◌==◌, ◌||◌, ◌&&◌, ℕ, ◌-◌, ◌^◌, ◌<◌, false, true, not, List, [], ◌∷◌, ◌++◌, length}
use Rattle.std.specs.Global.{Vec}
use Rattle.csv.specs.Writing.{default_writer, fields_written, has_written, is_blank, row_body, with_flexible, writer_pending, writer_setup, writer_under}
use Rattle.csv.specs.declared.writer.Writer.{Writer}
use Rattle.csv.specs.declared.writer.WriterBuilder.{WriterBuilder}

-- how lines are written, whatever their widths
abbrev pub any_width : WriterBuilder
any_width = with_flexible default_writer true

-- all that was written
abbrev pub text_in : Writer (Vec ℕ) → List ℕ
text_in writer = (writer_under writer).items ++ writer_pending writer

-- each line has its end, and none is left in the buffer
pub record IsBetweenLines (writer : Writer (Vec ℕ)) : Type 0 where
  pub setup : writer_setup writer ≡ any_width
  pub fields : fields_written writer ≡ 0
  pub wrote : has_written writer ≡ false
  pub flushed : writer_pending writer ≡ []

-- after this text these cells of a line were written
pub record HasCells (text : List ℕ) (cells : List (List ℕ)) (writer : Writer (Vec ℕ)) : Type 0 where
  pub setup : writer_setup writer ≡ any_width
  pub written : text_in writer ≡ text ++ row_body any_width cells
  pub fields : fields_written writer ≡ length cells
  pub blank : is_blank any_width cells
      ≡ (not (has_written writer) && ((length cells == 0) || (length cells == 1)))

-- to whatever cells were written this one was added
abbrev pub AddsCell : Writer (Vec ℕ) → Writer (Vec ℕ) → List ℕ → Type 0
AddsCell old new cell = (text : List ℕ) (cells : List (List ℕ)) → length cells < 2 ^ 64 - 1
    → HasCells text cells old → HasCells text (cells ++ cell ∷ []) new
