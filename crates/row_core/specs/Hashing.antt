-- The hash of a key: FNV-1a with 64 bits.
use Rattle.std.specs.Prelude.{ℕ, ◌*◌, ◌%◌, ◌^◌, List, map, get_or, fold, bit_xor}
use Rattle.row_core.specs.declared.value.Value.{Value}
use Rattle.row_core.specs.declared.value.Value.TheVariants.{Null}
use Rattle.row_core.specs.Encoding.{values_bytes}

-- a byte more: first the xor, then the product
abbrev pub hash_step : ℕ → ℕ → ℕ
hash_step state byte = bit_xor state byte * 1099511628211 % 2 ^ 64

-- from a state on
unfoldable pub hash_from : ℕ → List ℕ → ℕ
hash_from state bytes = fold hash_step state bytes

abbrev pub hash_bytes : List ℕ → ℕ
hash_bytes bytes = hash_from 14695981039346656037 bytes

-- the values of a row in these columns
abbrev pub key_of : List ℕ → List Value → List Value
key_of columns row = map (λ column. get_or row column Null) columns

-- the hash of these values one after another, without their number
abbrev pub hash_of_key : List Value → ℕ
hash_of_key key = hash_bytes (values_bytes key)
