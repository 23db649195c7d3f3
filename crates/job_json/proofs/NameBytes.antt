-- Names are ASCII, and so UTF-8.
use Rattle.std.proofs.Common.{◌≡◌, ℕ, suc, ◌<◌, zero, Bool, true, ◌&&◌, IsTrue, IsUtf8, List, [], ◌∷◌, get_or, nat_le, length, arith, false, refl}
use Rattle.std.proofs.lemmas.Bool.Decides.{nat_tests}
use Rattle.std.proofs.lemmas.Str.{IsUtf8-from_ascii}
use Rattle.std.specs.List.{list_all}
use Rattle.job_json.specs.Members.{is_name, is_name_byte}

pub and_parts : (a b : Bool) → (a && b) ≡ true → (a ≡ true) × (b ≡ true)
and_parts true b e = (refl, e)
and_parts false b e = absurd (cc e)

byte_ascii : (b : ℕ) → is_name_byte b ≡ true → b < 128
byte_ascii b e = grind (arith, nat_tests)

bytes_ascii : (bs : List ℕ) → list_all is_name_byte bs ≡ true → (i : ℕ) → get_or bs i 0 < 128
bytes_ascii [] e i = omega arith
bytes_ascii (b ∷ bs) e zero = byte_ascii b (and_parts (is_name_byte b) (list_all is_name_byte bs) e).0
bytes_ascii (b ∷ bs) e (suc i) = bytes_ascii bs (and_parts (is_name_byte b) (list_all is_name_byte bs) e).1 i

pub name_is_utf8 : (name : List ℕ) → IsTrue (is_name name) → IsUtf8 name
name_is_utf8 name h =
    let parts = and_parts (nat_le 1 (length name) && nat_le (length name) 64) (list_all is_name_byte name) h in
    IsUtf8-from_ascii name (bytes_ascii name parts.1)

pub byte_is_utf8 : (b : ℕ) → b < 128 → IsUtf8 (b ∷ [])
byte_is_utf8 b h = IsUtf8-from_ascii (b ∷ []) (one b h)
  where
    one : (b : ℕ) → b < 128 → (i : ℕ) → get_or (b ∷ []) i 0 < 128
    one b h zero = h
    one b h (suc i) = omega arith
