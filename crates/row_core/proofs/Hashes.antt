-- The hash of bytes that are hashed in parts, and of a key column by column.
use Rattle.std.proofs.Common.{◌≡◌, ℕ, ℤ, ◌+◌, ◌<◌, List, [], ◌∷◌, ◌++◌, length, get_or, take, refl, sym, ap, subst, ◌∙◌, arith}
use Rattle.std.specs.Prelude.{FitsSigned}
use Rattle.std.specs.List.{AllByRecursion}
use Rattle.std.specs.Int.{w32, w64, to_be_bytes, cast_unsigned, cast_signed}
use Rattle.std.proofs.lemmas.Int.{to_z-of_z}
use Rattle.std.proofs.lemmas.List.{append-nil, map_more, get_or-map, get_or_read, length-map}
use Rattle.std.proofs.lemmas.List.Concat.{flat_map-append}
use Rattle.std.proofs.lemmas.List.Elements.{All-from_recursion}
use Rattle.std.proofs.lemmas.List.Sums.{fold-append}
use Rattle.row_core.specs.declared.value.Value.{Value}
use Rattle.row_core.specs.declared.value.Value.TheVariants.{Null, Int, Text}
use Rattle.row_core.specs.Encoding.{value_bytes, values_bytes, TextFits}
use Rattle.row_core.specs.Hashing.{hash_step, hash_from, hash_bytes, hash_of_key, key_of}

pub hash_from-nil : (state : ℕ) → state ≡ hash_from state []
unfolding hash_from
hash_from-nil state = refl

pub hash_from-append : (state : ℕ) (xs ys : List ℕ) → hash_from state (xs ++ ys) ≡ hash_from (hash_from state xs) ys
unfolding hash_from
hash_from-append state xs ys = fold-append hash_step state xs ys

pub hash_key_more : (row : List Value) (columns : List ℕ) (i : ℕ) (value : Value) → i < length columns → value ≡ get_or row (get_or columns i 0) Null
    → hash_from (hash_of_key (key_of (take i columns) row)) (value_bytes value) ≡ hash_of_key (key_of (take (i + 1) columns) row)
hash_key_more row columns i value within is =
    let key = key_of (take i columns) row in
    let more : key_of (take (i + 1) columns) row ≡ key ++ value ∷ [] = map_more (λ column. get_or row column Null) columns i 0 within ∙ ap (λ (last : Value). key ++ last ∷ []) (sym is) in
    let bytes : values_bytes (key ++ value ∷ []) ≡ values_bytes key ++ value_bytes value = flat_map-append value_bytes key (value ∷ []) ∙ ap (λ (last : List ℕ). values_bytes key ++ last) (append-nil (value_bytes value)) in
    sym (hash_from-append 14695981039346656037 (values_bytes key) (value_bytes value)) ∙ sym (ap hash_bytes bytes) ∙ sym (ap hash_of_key more)

pub key_text_fits : (row : List Value) (columns : List ℕ) (i : ℕ) (value : Value) → AllByRecursion TextFits (key_of columns row) → i < length columns → value ≡ get_or row (get_or columns i 0) Null → TextFits value
key_text_fits row columns i value fit within is =
    let at : get_or (key_of columns row) i Null ≡ value = get_or-map (λ column. get_or row column Null) columns i 0 Null within ∙ sym is in
    let len : i < length (key_of columns row) = omega (arith, length-map columns (λ column. get_or row column Null)) in
    subst TextFits at (All-from_recursion TextFits (key_of columns row) fit i Null len)

pub hash_int : (state tagged after bits : ℕ) (n : ℤ) (bytes : List ℕ) → FitsSigned w64 n → tagged ≡ hash_from state (1 ∷ []) → bytes ≡ to_be_bytes w64 bits → bits ≡ cast_unsigned w64 (cast_signed w64 (cast_unsigned w64 n)) → after ≡ hash_from tagged bytes
    → after ≡ hash_from state (value_bytes (Int n))
hash_int state tagged after bits n bytes fits tag is bits_is hashed =
    let number : bits ≡ cast_unsigned w64 n = bits_is ∙ ap (cast_unsigned w64) (to_z-of_z w64 n fits) in
    hashed ∙ ap (λ (before : ℕ). hash_from before bytes) tag ∙ sym (hash_from-append state (1 ∷ []) bytes) ∙ ap (λ (more : List ℕ). hash_from state (1 ∷ more)) (is ∙ ap (to_be_bytes w64) number)

pub hash_text : (state tagged measured after len : ℕ) (header text body : List ℕ) → tagged ≡ hash_from state (2 ∷ []) → header ≡ to_be_bytes w32 len → len ≡ length text → measured ≡ hash_from tagged header → body ≡ text → after ≡ hash_from measured body
    → after ≡ hash_from state (value_bytes (Text text))
hash_text state tagged measured after len header text body tag is len_is measure same hashed =
    let front : measured ≡ hash_from state (2 ∷ to_be_bytes w32 (length text)) = measure ∙ ap (λ (before : ℕ). hash_from before header) tag ∙ sym (hash_from-append state (2 ∷ []) header) ∙ ap (λ (more : List ℕ). hash_from state (2 ∷ more)) (is ∙ ap (to_be_bytes w32) len_is) in
    hashed ∙ ap (λ (before : ℕ). hash_from before body) front ∙ ap (hash_from (hash_from state (2 ∷ to_be_bytes w32 (length text)))) same ∙ sym (hash_from-append state (2 ∷ to_be_bytes w32 (length text)) text)

-- the value that a column's place in the list reads
pub column_value : (slice row : List Value) (items columns : List ℕ) (i : ℕ) (value : Value) → slice ≡ row → items ≡ columns → ((k d : ℕ) → k < length columns → get_or columns k d < length row) → i < length columns → value ≡ get_or slice (get_or items i 0) value
    → value ≡ get_or row (get_or columns i 0) Null
column_value slice row items columns i value same same_columns within in_columns read =
    let place : get_or items i 0 ≡ get_or columns i 0 = ap (λ (places : List ℕ). get_or places i 0) same_columns in
    let there : value ≡ get_or row (get_or columns i 0) value = read ∙ ap (λ (values : List Value). get_or values (get_or items i 0) value) same ∙ ap (λ (k : ℕ). get_or row k value) place in
    get_or_read row (get_or columns i 0) value (within i 0 in_columns) there Null
