-- Texts that stand somewhere, or were made.
use Rattle.std.specs.Prelude.{ℕ, List}
use Rattle.row_steps.specs.declared.shown.Shown.{Shown}
use Rattle.row_steps.specs.declared.shown.Shown.TheVariants.{Seen, Made}

-- the text itself
abbrev pub shown_bytes : Shown → List ℕ
shown_bytes (Seen text) = text.now
shown_bytes (Made text) = text
