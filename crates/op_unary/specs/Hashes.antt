-- A hash by which rows are put in an order: rows with equal values have equal hashes.
use Rattle.std.specs.Prelude.{ℕ, ◌*◌, ◌%◌, ◌^◌, List, fold, bit_xor}
use Rattle.std.specs.Int.{w64, cast_unsigned}
use Rattle.std.specs.Ordering.{nat_cmp, ordering_then}
use Rattle.std.specs.declared.cmp.Ordering.{Ordering}
use Rattle.row_core.specs.declared.value.Value.{Value}
use Rattle.row_core.specs.declared.value.Value.TheVariants.{Null, Int, Text}
use Rattle.row_core.specs.Values.{row_cmp}

-- a word more, as FNV-1a takes a byte
unfoldable pub mixed : ℕ → ℕ → ℕ
mixed state word = bit_xor state word * 1099511628211 % 2 ^ 64

-- a value more: its kind, and then its number or its bytes
abbrev pub value_hash : ℕ → Value → ℕ
value_hash state Null = mixed state 0
value_hash state (Int n) = mixed (mixed state 1) (cast_unsigned w64 n)
value_hash state (Text t) = fold mixed (mixed state 2) t

-- the hash of these values
abbrev pub hash_of : List Value → ℕ
hash_of values = fold value_hash 14695981039346656037 values

-- by hashes, and by values where hashes are equal
abbrev pub hash_cmp : List Value → List Value → Ordering
hash_cmp a b = ordering_then (nat_cmp (hash_of a) (hash_of b)) (row_cmp a b)
