-- A text cut at its first separator.
use Rattle.std.proofs.Common.{◌≡◌, ◌<◌, ◌+◌, ◌-◌, ◌==◌, add-one, take_all, length-drop, ℕ, zero, suc, Bool, true, false, List, [], ◌∷◌, length, get_or, take, drop, Some, None, refl, ◌∙◌, ap, arith, if◌then◌else◌}
use Rattle.std.specs.Prelude.{cond}
use Rattle.std.specs.List.{position_from}
use Rattle.plan_model.specs.Operators.{pieces, with_byte}

-- no separator
pub one_piece : (separator : ℕ) (text : List ℕ) (i : ℕ) → position_from (λ byte. byte == separator) i text ≡ None → pieces separator text ≡ text ∷ []
one_piece separator [] i none = refl
one_piece separator (byte ∷ bytes) i none = by (byte == separator) (one_piece separator bytes (i + 1)) none
  where
    by : (b : Bool) → (position_from (λ byte. byte == separator) (i + 1) bytes ≡ None → pieces separator bytes ≡ bytes ∷ [])
        → cond b (Some i) (position_from (λ byte. byte == separator) (i + 1) bytes) ≡ None
        → (if b then [] ∷ pieces separator bytes else with_byte byte (pieces separator bytes)) ≡ (byte ∷ bytes) ∷ []
    by true rest e = absurd cc
    by false rest e = ap (with_byte byte) (rest e)

-- the first separator
pub cut_piece : (separator : ℕ) (text : List ℕ) (at : ℕ) → at < length text → (get_or text at 0 == separator) ≡ true
    → ((k : ℕ) → k < at → (get_or text k 0 == separator) ≡ false) → pieces separator text ≡ take at text ∷ pieces separator (drop (suc at) text)
cut_piece separator [] at lt is none = absurd (omega arith)
cut_piece separator (byte ∷ bytes) zero lt is none =
    ap (λ (b : Bool). if b then [] ∷ pieces separator bytes else with_byte byte (pieces separator bytes)) is
cut_piece separator (byte ∷ bytes) (suc at) lt is none =
    ap (λ (b : Bool). if b then [] ∷ pieces separator bytes else with_byte byte (pieces separator bytes)) (none zero (omega arith))
    ∙ ap (with_byte byte) (cut_piece separator bytes at (omega arith) is (λ k below. none (suc k) (omega arith)))

-- what is behind a place, as slices say it
pub rest_is : (text : List ℕ) (at : ℕ) → take (length text - (at + 1)) (drop (at + 1) text) ≡ drop (suc at) text
rest_is text at =
    ap (λ (n : ℕ). take (length text - n) (drop n text)) (add-one at)
    ∙ take_all (length text - suc at) (drop (suc at) text) (omega (arith, length-drop (suc at) text))
