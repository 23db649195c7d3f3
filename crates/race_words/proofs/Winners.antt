-- The words, and the winners that they show.
use Rattle.std.proofs.Common.{◌≡◌, ◌≢◌, ◌⊎◌, ℕ, ◌+◌, ◌-◌, ◌%◌, ◌<◌, ◌==◌, true, false, refl, sym, ap, ◌∙◌, inl, inr, arith, cond}
use Rattle.std.specs.Prelude.{Option, Some, None, IfSome}
use Rattle.std.proofs.lemmas.Bool.Decides.{nat_tests}
use Rattle.std.proofs.lemmas.Option.{none-some}
use Rattle.race_words.specs.Words.{round_of, winner_of, undecided, decided}

pub round_of-undecided : (round : ℕ) → round_of (undecided round) ≡ round
round_of-undecided round = omega arith

pub round_of-decided : (round runner : ℕ) → runner < 255 → round_of (decided round runner) ≡ round
round_of-decided round runner h = omega arith

pub winner_of-undecided : (round : ℕ) → winner_of (undecided round) ≡ None
winner_of-undecided round = let even : undecided round % 256 ≡ 0 = omega arith in ap (λ n. cond (n == 0) None (Some (n - 1))) even

pub winner_of-decided : (round runner : ℕ) → runner < 255 → winner_of (decided round runner) ≡ Some runner
winner_of-decided round runner h =
    let mark : decided round runner % 256 ≡ runner + 1 = omega arith in
    let marked : (decided round runner % 256 == 0) ≡ false = grind (arith, nat_tests) in
    let number : decided round runner % 256 - 1 ≡ runner = omega arith in
    ap (λ b. cond b None (Some (decided round runner % 256 - 1))) marked ∙ ap Some number

-- an undecided word shows no winner
pub no_winner : (word runner : ℕ) → winner_of word ≡ None → winner_of word ≡ Some runner → ⊥
no_winner word runner none some = none-some runner (sym none ∙ some)

-- a fact for each value that there may be is a fact for the value, if there is one
pub if_some : {P : ℕ → Type 0} (o : Option ℕ) → ((n : ℕ) → o ≡ Some n → P n) → IfSome o P
if_some None h = tt
if_some (Some n) h = h n refl

pub same_or_not : (a b : ℕ) → (a ≡ b) ⊎ (a ≢ b)
same_or_not a b = elim (a == b) as (λ x. (a == b) ≡ x → (a ≡ b) ⊎ (a ≢ b)) [ true ↦ λ e. inl (grind (arith, nat_tests)) | false ↦ λ e. inr (λ h. grind (arith, nat_tests)) ] refl
