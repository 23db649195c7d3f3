-- The first offer that passes a test.
use Rattle.std.proofs.Common.{◌≡◌, ℕ, ◌<◌, ◌==◌, Bool, true, false, List, length, get_or, Some, None, refl, sym, ap, ◌∙◌, subst, cond, arith}
use Rattle.std.specs.Prelude.{nat_lt}
use Rattle.std.specs.List.{position, position_or_len, remove}
use Rattle.std.proofs.lemmas.Bool.{and_from, eq-eqb}
use Rattle.std.proofs.lemmas.Bool.Decides.{nat_tests}
use Rattle.std.proofs.lemmas.List.Sums.{passes_at_first}
use Rattle.board_log.specs.declared.offer.Offer.{Offer}
use Rattle.board_log.specs.Names.{is_offer, is_for}
use Rattle.board_log.specs.Runs.{has, without, oldest}

some_if : (b : Bool) (a k : ℕ) → cond b (Some a) None ≡ Some k → (b ≡ true) × (a ≡ k)
some_if true a k h = (refl, cc)
some_if false a k h = absurd cc

none_if : (b : Bool) (a : ℕ) → cond b (Some a) None ≡ None → b ≡ false
none_if true a h = cc
none_if false a h = refl

pub found : (p : Offer → Bool) (xs : List Offer) (k : ℕ) → position p xs ≡ Some k → (has p xs ≡ true) × (position_or_len p xs ≡ k)
found p xs k h = some_if (nat_lt (position_or_len p xs) (length xs)) (position_or_len p xs) k h

pub missing : (p : Offer → Bool) (xs : List Offer) → position p xs ≡ None → has p xs ≡ false
missing p xs h = none_if (nat_lt (position_or_len p xs) (length xs)) (position_or_len p xs) h

pub found_inside : (p : Offer → Bool) (xs : List Offer) (k : ℕ) → position p xs ≡ Some k → k < length xs
found_inside p xs k h =
    let f = found p xs k h in
    let t = f.0 in
    let e = f.1 in
    let inside : position_or_len p xs < length xs = grind (arith, nat_tests) in
    subst (λ (n : ℕ). n < length xs) e inside

pub found_passes : (p : Offer → Bool) (xs : List Offer) (k : ℕ) (d : Offer) → position p xs ≡ Some k → p (get_or xs k d) ≡ true
found_passes p xs k d h =
    let f = found p xs k h in
    let t = f.0 in
    let inside : position_or_len p xs < length xs = grind (arith, nat_tests) in
    subst (λ (n : ℕ). p (get_or xs n d) ≡ true) f.1 (passes_at_first p xs d inside)

pub is_offer-refl : (o : Offer) → is_offer o o ≡ true
is_offer-refl o =
    and_from _ _ (eq-eqb o.worker o.worker refl) (and_from _ _ (and_from _ _ (and_from _ _ (eq-eqb o.name.vertex o.name.vertex refl) (eq-eqb o.name.subtask o.name.subtask refl)) (eq-eqb o.name.epoch o.name.epoch refl)) (eq-eqb o.name.attempt o.name.attempt refl))

same_worker : (w : ℕ) (o : Offer) → (o.worker == w) ≡ true → o.worker ≡ w
same_worker w o h = grind (arith, nat_tests)

pub record Claims (pending : List Offer) (k : ℕ) (o : Offer) : Type 0 where
  pub has : has (is_for o.worker) pending ≡ true
  pub is : is_offer (oldest (is_for o.worker) pending o) o ≡ true
  pub without : without (is_for o.worker) pending ≡ remove pending k

pub claims : (pending : List Offer) (w k : ℕ) (o : Offer) → position (is_for w) pending ≡ Some k → o ≡ get_or pending k o → Claims pending k o × (o.worker ≡ w)
claims pending w k o h at =
    let passes = found_passes (is_for w) pending k o h in
    let mine : o.worker ≡ w = same_worker w o (ap (λ (x : Offer). is_for w x) at ∙ passes) in
    let h' : position (is_for o.worker) pending ≡ Some k = ap (λ n. position (is_for n) pending) mine ∙ h in
    let f = found (is_for o.worker) pending k h' in (
      record { has = f.0; is = ap (λ n. is_offer (get_or pending n o) o) f.1 ∙ ap (λ (x : Offer). is_offer x o) (sym at) ∙ is_offer-refl o; without = ap (remove pending) f.1 },
      mine,
    )
