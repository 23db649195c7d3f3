-- Cells and lines, as a writer that allows any widths writes them.
use Rattle.std.proofs.Common.{◌≡◌, ◌==◌, ◌||◌, ◌&&◌, ℕ, ◌+◌, ◌-◌, ◌^◌, ◌<◌, min, Bool, true, false, not, List, [], ◌∷◌, ◌++◌, length, refl, sym, ◌∙◌, ap, append_assoc, arith, if◌then◌else◌}
use Rattle.std.proofs.lemmas.List.{append-nil, length-append}
use Rattle.std.specs.Global.{Vec}
use Rattle.csv.proofs.WriteFacts.{blank-more, row-more}
use Rattle.csv.specs.Writing.{default_writer, escaped, field_text, fields_text, fields_written, has_written, is_blank, needs_quotes, next_sep, row_body, row_text, tail_text, writer_setup}
use Rattle.csv.specs.declared.writer.Writer.{Writer}
use Rattle.csv_tables.specs.Writing.{HasCells, IsBetweenLines, any_width, text_in}

-- ---- the text is that of the default writer

escaped_same : (bytes : List ℕ) → escaped any_width bytes ≡ escaped default_writer bytes
unfolding escaped
escaped_same [] = refl
escaped_same (b ∷ rest) = (λ i. if b == 34 then 34 ∷ b ∷ escaped_same rest i else b ∷ escaped_same rest i)

field_same : (field : List ℕ) → field_text any_width field ≡ field_text default_writer field
field_same field = ap (λ (t : List ℕ). if needs_quotes default_writer field then 34 ∷ (t ++ (34 ∷ [])) else field) (escaped_same field)

fields_same : (fields : List (List ℕ)) → fields_text any_width fields ≡ fields_text default_writer fields
unfolding fields_text
fields_same [] = refl
fields_same (field ∷ rest) = (λ i. 44 ∷ (field_same field i ++ fields_same rest i))

body_same : (fields : List (List ℕ)) → row_body any_width fields ≡ row_body default_writer fields
body_same [] = refl
body_same (field ∷ rest) = (λ i. field_same field i ++ fields_same rest i)

blank_same : (fields : List (List ℕ)) → is_blank any_width fields ≡ is_blank default_writer fields
unfolding is_blank
blank_same [] = refl
blank_same (field ∷ []) = ap (λ (t : List ℕ). length t == 0) (field_same field)
blank_same (field ∷ next ∷ rest) = refl

row_same : (fields : List (List ℕ)) → row_text any_width fields ≡ row_text default_writer fields
row_same fields = (λ i. body_same fields i ++ ((if blank_same fields i then 34 ∷ 34 ∷ [] else []) ++ (10 ∷ [])))

-- cells, and then what ends their line
pub line_is : (cells : List (List ℕ)) (wrote : Bool) (fields : ℕ) → is_blank any_width cells ≡ (not wrote && ((fields == 0) || (fields == 1)))
    → row_body any_width cells ++ tail_text any_width wrote fields ≡ row_text default_writer cells
line_is cells wrote fields blank =
    ap (λ (b : Bool). row_body any_width cells ++ ((if b then 34 ∷ 34 ∷ [] else []) ++ (10 ∷ []))) (sym blank) ∙ row_same cells

-- ---- from cell to cell

-- between lines no cell is written yet
pub no_cells : (writer : Writer (Vec ℕ)) → IsBetweenLines writer → HasCells (text_in writer) [] writer
unfolding is_blank
no_cells writer between = record {
  setup = between.setup;
  written = sym (append-nil (text_in writer));
  fields = between.fields;
  blank = ap (λ (b : Bool). not b && true) (sym between.wrote);
}

module _ (text : List ℕ) (cells : List (List ℕ)) (cell : List ℕ) (old new : Writer (Vec ℕ)) where
  -- one cell more
  pub one_more : HasCells text cells old → length cells < 2 ^ 64 - 1
      → text_in new ≡ text_in old ++ (next_sep (writer_setup old) (fields_written old) ++ field_text (writer_setup old) cell)
      → writer_setup new ≡ writer_setup old
      → fields_written new ≡ min (fields_written old + 1) (2 ^ 64 - 1)
      → (has_written old ≡ false → has_written new ≡ not (length (field_text (writer_setup old) cell) == 0))
      → (has_written old ≡ true → has_written new ≡ true)
      → HasCells text (cells ++ cell ∷ []) new
  one_more had short appended same count wrote stays = record {
    setup = same ∙ had.setup;
    written = rw (had.setup, had.fields) at appended
        ∙ ap (λ (t : List ℕ). t ++ (next_sep any_width (length cells) ++ field_text any_width cell)) had.written
        ∙ append_assoc text (row_body any_width cells) (next_sep any_width (length cells) ++ field_text any_width cell)
        ∙ ap (λ (t : List ℕ). text ++ t) (sym (row-more any_width cells cell));
    fields = omega (arith, count, had.fields, longer);
    blank = rw longer (blank-more any_width cells cell (has_written old) (has_written new) had.blank (rw had.setup at wrote) stays);
  }
    where
      longer : length (cells ++ cell ∷ []) ≡ length cells + 1
      longer = length-append cells (cell ∷ [])

module _ (text : List ℕ) (cells : List (List ℕ)) (old ended new : Writer (Vec ℕ)) where
  -- the line's end
  pub one_line : HasCells text cells old
      → text_in ended ≡ text_in old ++ tail_text (writer_setup old) (has_written old) (fields_written old)
      → text_in new ≡ text_in ended
      → text_in new ≡ text ++ row_text default_writer cells
  one_line had appended kept =
      let blank : is_blank any_width cells ≡ (not (has_written old) && ((fields_written old == 0) || (fields_written old == 1))) = rw had.fields had.blank in
      kept ∙ rw had.setup at appended
      ∙ ap (λ (t : List ℕ). t ++ tail_text any_width (has_written old) (fields_written old)) had.written
      ∙ append_assoc text (row_body any_width cells) (tail_text any_width (has_written old) (fields_written old))
      ∙ ap (λ (t : List ℕ). text ++ t) (line_is cells (has_written old) (fields_written old) blank)
