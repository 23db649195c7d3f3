-- Numbers that stand for a column or a constant and can be none.
use Rattle.std.specs.Prelude.{Bool, false, not, ◌&&◌, ◌||◌, codes}
use Rattle.std.specs.Option.{option_map_or}
use Rattle.std.specs.Str.{bytes_eq}
use Rattle.serde_json.specs.Data.{Num, Data, null, boolean, number, string, array, object, Items, no_items, item}
use Rattle.serde_json.specs.Find.{as_u64, as_integer}
use Rattle.expr_json.specs.Ranges.{fits_u32, fits_i64}

-- an integer of 32 bits
abbrev pub is_column : Num → Bool
is_column n = option_map_or fits_u32 (as_u64 n) false

-- an integer of 64 bits with a sign
abbrev pub is_literal : Num → Bool
is_literal n = option_map_or fits_i64 (as_integer n) false

-- the items are `"col"` and a number that is no column, or `"int"` and one that is no constant
abbrev pub is_bad_pair : Data → Data → Bool
is_bad_pair (string word) (number n) =
    (bytes_eq word (codes "col") && not (is_column n))
    || (bytes_eq word (codes "int") && not (is_literal n))
is_bad_pair _ _ = false

-- whether the items are two and such a pair
abbrev pub has_bad_pair : Items → Bool
has_bad_pair (item a (item b no_items)) = is_bad_pair a b
has_bad_pair _ = false

-- whether such a list stands somewhere in a value's lists; objects are not looked into
abbrev mutual
  pub bad_number_in : Data → Bool
  bad_number_in null = false
  bad_number_in (boolean b) = false
  bad_number_in (number n) = false
  bad_number_in (string s) = false
  bad_number_in (array ds) = has_bad_pair ds || bad_number_among ds
  bad_number_in (object ms) = false

  pub bad_number_among : Items → Bool
  bad_number_among no_items = false
  bad_number_among (item d ds) = bad_number_in d || bad_number_among ds
