-- Values and rows: their order, their texts, and the limits of numbers and texts.
use Rattle.std.specs.Prelude.{ℕ, ◌^◌, nat_lt, nat_le, ℤ, pos, negsuc, Bool, List, ◌++◌, length, Option, Some, None, if◌then◌else◌}
use Rattle.std.specs.Fmt.{signed_decimal}
use Rattle.std.specs.Ordering.{nat_cmp, int_cmp, is_eq}
use Rattle.std.specs.Cmp.Lexicographic.{slice_cmp}
use Rattle.std.specs.declared.cmp.Ordering.{Ordering}
use Rattle.std.specs.declared.cmp.Ordering.TheVariants.{Less, Equal, Greater}
use Rattle.row_core.specs.declared.value.Value.{Value}
use Rattle.row_core.specs.declared.value.Value.TheVariants.{Null, Int, Text}

-- Null, then numbers by value, then texts by bytes
abbrev pub value_cmp : Value → Value → Ordering
value_cmp Null Null = Equal
value_cmp Null (Int n) = Less
value_cmp Null (Text t) = Less
value_cmp (Int m) Null = Greater
value_cmp (Int m) (Int n) = int_cmp m n
value_cmp (Int m) (Text t) = Less
value_cmp (Text s) Null = Greater
value_cmp (Text s) (Int n) = Greater
value_cmp (Text s) (Text t) = slice_cmp nat_cmp s t

-- by the first values that differ; a row that another begins with comes first
abbrev pub row_cmp : List Value → List Value → Ordering
row_cmp = slice_cmp value_cmp

abbrev pub same_value : Value → Value → Bool
same_value a b = is_eq (value_cmp a b)

abbrev pub same_row : List Value → List Value → Bool
same_row a b = is_eq (row_cmp a b)

-- the number, or Null where it has more than 64 bits
abbrev pub int_value : ℤ → Value
int_value (pos n) = if nat_lt n (2 ^ 63) then Int (pos n) else Null
int_value (negsuc n) = if nat_lt n (2 ^ 63) then Int (negsuc n) else Null

-- the greatest length of a text, in bytes
abbrev pub text_limit : ℕ
text_limit = 16777216

-- the greatest number of values of a row
abbrev pub width_limit : ℕ
width_limit = 256

-- the text, or Null where it is too long
abbrev pub text_value : List ℕ → Value
text_value text = if nat_le (length text) text_limit then Text text else Null

-- the text that a value shows, if it is not Null
abbrev pub text_of : Value → Option (List ℕ)
text_of Null = None
text_of (Int n) = Some (signed_decimal n)
text_of (Text t) = Some t

-- the two texts as one, or Null where one lacks
abbrev pub concatenated : Option (List ℕ) → Option (List ℕ) → Value
concatenated (Some s) (Some t) = text_value (s ++ t)
concatenated (Some s) None = Null
concatenated None t = Null
