-- Rects of neighbouring items that become one rect.
use Rattle.std.specs.Prelude.{◌==◌, Bool, ◌&&◌, List, [], ◌∷◌, if◌then◌else◌}
use Rattle.rect_cover.specs.declared.rect.Rect.{Rect}
use Rattle.skew_splitter.specs.declared.rule.Rule.{Rule}
use Rattle.skew_splitter.specs.declared.rule.Rule.TheVariants.{OneColumn, SideBySide}

-- two rects become one: pieces of a column, or columns side by side of the same producers
abbrev pub are_one : Rule → Rect → Rect → Bool
are_one OneColumn a b = a.s0 == b.s0
are_one SideBySide a b = a.p0 == b.p0 && a.p1 == b.p1 && a.s1 == b.s0

-- from the beginning of the first to the end of the second
abbrev pub as_one : Rect → Rect → Rect
as_one a b = record { p0 = a.p0; p1 = b.p1; s0 = a.s0; s1 = b.s1 }

-- a rect and those after it, neighbours joined
abbrev pub joined_from : Rule → Rect → List Rect → List Rect
joined_from rule last [] = last ∷ []
joined_from rule last (rect ∷ rects) =
    if are_one rule last rect then joined_from rule (as_one last rect) rects
    else last ∷ joined_from rule rect rects

-- neighbours joined
abbrev pub joined : Rule → List Rect → List Rect
joined rule [] = []
joined rule (rect ∷ rects) = joined_from rule rect rects

-- one rect for each column, and then one for columns side by side
abbrev pub tidy : List Rect → List Rect
tidy rects = joined SideBySide (joined OneColumn rects)
