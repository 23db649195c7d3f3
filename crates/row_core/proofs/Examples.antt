-- What the definitions say of one row, and of few bytes.
use Rattle.std.proofs.Common.{◌≡◌, ◌%◌, List, [], ◌∷◌, pos, negsuc, refl}
use Rattle.row_core.specs.declared.value.Value.{Value}
use Rattle.row_core.specs.declared.value.Value.TheVariants.{Null, Int, Text}
use Rattle.row_core.specs.Encoding.{value_bytes, row_bytes}
use Rattle.row_core.specs.Hashing.{hash_from, hash_bytes, hash_of_key, key_of}

-- 7, Null, and the text ab
abbrev sample : List Value
sample = Int (pos 7) ∷ Null ∷ Text (97 ∷ 98 ∷ []) ∷ []

sample_bytes : row_bytes sample ≡ 0 ∷ 3 ∷ 1 ∷ 0 ∷ 0 ∷ 0 ∷ 0 ∷ 0 ∷ 0 ∷ 0 ∷ 7 ∷ 0 ∷ 2 ∷ 0 ∷ 0 ∷ 0 ∷ 2 ∷ 97 ∷ 98 ∷ []
sample_bytes = refl

minus_two : value_bytes (Int (negsuc 1)) ≡ 1 ∷ 255 ∷ 255 ∷ 255 ∷ 255 ∷ 255 ∷ 255 ∷ 255 ∷ 254 ∷ []
minus_two = refl

no_bytes : hash_bytes [] ≡ 0xcbf29ce484222325
unfolding hash_from
no_bytes = refl

one_byte : hash_bytes (0x61 ∷ []) ≡ 0xaf63dc4c8601ec8c
unfolding hash_from
one_byte = refl

null_key : hash_of_key (key_of (1 ∷ []) sample) ≡ 0xaf63bd4c8601b7df
unfolding hash_from
null_key = refl

-- its cell of 16
null_cell : hash_of_key (key_of (1 ∷ []) sample) % 16 ≡ 15
unfolding hash_from
null_cell = refl
