-- Numbers of two, four and eight bytes at the front of bytes.
use Rattle.std.proofs.Common.{◌≡◌, ℕ, zero, suc, ◌^◌, ◌<◌, ◌≤◌, List, [], ◌∷◌, ◌++◌, length, take, drop, get_or, refl, sym, ap, subst, ◌∙◌, arith}
use Rattle.std.specs.Int.{Width, w16, w32, w64, byte_len, from_be_bytes, to_be_bytes}
use Rattle.std.proofs.lemmas.List.{take_at, drop_at, take-append-drop, length-take-le}
use Rattle.row_core.specs.Decoding.{Begins}
use Rattle.std.proofs.lemmas.Nat.{from_be_bytes-to_be_bytes_2, from_be_bytes-to_be_bytes_4, from_be_bytes-to_be_bytes_8, be_bytes_2, be_bytes_4, be_bytes_8}

-- numbers below a limit are read again from the bytes of a width
pub record IsWide (w : Width) (limit : ℕ) : Type 0 where
  pub len : (n : ℕ) → length (to_be_bytes w n) ≡ byte_len w
  pub again : (n : ℕ) → n < limit → from_be_bytes w (to_be_bytes w n) ≡ n
  pub spelled : (bytes : List ℕ) (n : ℕ) → length bytes ≡ byte_len w → ((i : ℕ) → get_or bytes i 0 < 256) → n ≡ from_be_bytes w bytes → to_be_bytes w n ≡ bytes

pub wide16 : IsWide w16 (2 ^ 16)
wide16 = record {
  len = λ n. refl;
  again = λ n lt. from_be_bytes-to_be_bytes_2 n lt;
  spelled = be_bytes_2;
}

pub wide32 : IsWide w32 (2 ^ 32)
wide32 = record {
  len = λ n. refl;
  again = λ n lt. from_be_bytes-to_be_bytes_4 n lt;
  spelled = be_bytes_4;
}

pub wide64 : IsWide w64 (2 ^ 64)
wide64 = record {
  len = λ n. refl;
  again = λ n lt. from_be_bytes-to_be_bytes_8 n lt;
  spelled = be_bytes_8;
}

-- fronts of one length are one, and so are the rests
pub split_front : (a b x y : List ℕ) → length a ≡ length b → a ++ x ≡ b ++ y → (a ≡ b) × (x ≡ y)
split_front a b x y len h = (
  sym (take_at a x (length a) refl) ∙ ap (take (length a)) h ∙ take_at b y (length a) (sym len),
  sym (drop_at a x (length a) refl) ∙ ap (drop (length a)) h ∙ drop_at b y (length a) (sym len),
)

pub number_front : (w : Width) (limit : ℕ) (wide : IsWide w limit) (m n : ℕ) (x y : List ℕ) → m < limit → n < limit → to_be_bytes w m ++ x ≡ to_be_bytes w n ++ y → (m ≡ n) × (x ≡ y)
number_front w limit wide m n x y below_m below_n h =
    let parts = split_front (to_be_bytes w m) (to_be_bytes w n) x y (wide.len m ∙ sym (wide.len n)) h in
    (sym (wide.again m below_m) ∙ ap (from_be_bytes w) parts.0 ∙ wide.again n below_n, parts.1)

byte_below : (bytes : List ℕ) (count : ℕ) → ((i : ℕ) → get_or bytes i 0 < 256) → (i : ℕ) → get_or (take count bytes) i 0 < 256
byte_below bytes zero below i = omega arith
byte_below [] (suc count) below i = omega arith
byte_below (b ∷ bytes) (suc count) below zero = below 0
byte_below (b ∷ bytes) (suc count) below (suc i) = byte_below bytes count (λ k. below (suc k)) i

-- a number that is read from the first bytes
pub begins_number : (w : Width) (limit : ℕ) (wide : IsWide w limit) (bytes front rest : List ℕ) (n : ℕ) → ((i : ℕ) → get_or bytes i 0 < 256) → byte_len w ≤ length bytes → front ≡ take (byte_len w) bytes → rest ≡ drop (byte_len w) bytes → n ≡ from_be_bytes w front → n < limit
    → Begins (to_be_bytes w) (λ n. n < limit) bytes n rest
begins_number w limit wide bytes front rest n below long first last read fits =
    let len : length front ≡ byte_len w = ap length first ∙ length-take-le (byte_len w) bytes long in
    record {
      fits = fits;
      front = sym (take-append-drop (byte_len w) bytes) ∙ ap (λ (t : List ℕ). t ++ drop (byte_len w) bytes) (sym first ∙ sym (wide.spelled front n len (subst (λ (bs : List ℕ). (i : ℕ) → get_or bs i 0 < 256) (sym first) (byte_below bytes (byte_len w) below)) read)) ∙ ap (λ (t : List ℕ). to_be_bytes w n ++ t) (sym last);
    }
