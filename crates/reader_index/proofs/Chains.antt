-- Chains of reads: how far they go, and what is counted along them.
use Rattle.std.proofs.Common.{◌≡◌, ℕ, zero, suc, ◌+◌, ◌-◌, ◌<◌, ◌≤◌, Bool, true, false, cond, List, ◌∷◌, ◌++◌, length, get_or, set, refl, ◌∙◌, ap, subst, arith, nat_eq, ⊎_elim}
use Rattle.std.specs.Prelude.{count_by}
use Rattle.std.proofs.lemmas.Bool.{cases_eq}
use Rattle.std.proofs.lemmas.Bool.Decides.{nat_tests}
use Rattle.std.proofs.lemmas.List.{get_or-set_same, get_or-set_other, get_or_append_left}
use Rattle.std.proofs.lemmas.List.Sums.{sum_by-cons}
use Rattle.reader_index.specs.Links.{chain, chain_at, no_read}
use Rattle.reader_index.specs.declared.read.Read.{Read}

pub same_yes : (n : ℕ) → nat_eq n n ≡ true
same_yes n = grind (arith, nat_tests)

pub same_number : (m n : ℕ) → nat_eq m n ≡ true → m ≡ n
same_number m n e = grind (arith, nat_tests)

pub other_no : (m n : ℕ) → (m ≡ n → ⊥) → nat_eq m n ≡ false
other_no m n ne = by (nat_eq m n) refl
  where
    by : (b : Bool) → nat_eq m n ≡ b → b ≡ false
    by true e = absurd (ne (same_number m n e))
    by false e = refl

abbrev pub as_one : Bool → ℕ
as_one b = cond b 1 0

-- as many as the place are enough
pub enough : (reads : List Read) (earlier : List ℕ) (most other at : ℕ) → ((k : ℕ) → get_or earlier k 0 ≤ k) → at ≤ most → at ≤ other
    → chain reads earlier most at ≡ chain reads earlier other at
enough reads earlier zero zero at back le less = refl
enough reads earlier zero (suc other) zero back le less = refl
enough reads earlier zero (suc other) (suc k) back le less = absurd (omega (arith, le))
enough reads earlier (suc most) zero zero back le less = refl
enough reads earlier (suc most) zero (suc k) back le less = absurd (omega (arith, less))
enough reads earlier (suc most) (suc other) zero back le less = refl
enough reads earlier (suc most) (suc other) (suc k) back le less =
    let b = back k in
    ap (λ (l : List ℕ). (get_or reads k no_read).reader ∷ l) (enough reads earlier most other (get_or earlier k 0) back (omega (arith, b, le)) (omega (arith, b, less)))

-- one read, and the chain from the one before
pub chain_step : (reads : List Read) (earlier : List ℕ) (k : ℕ) → ((k : ℕ) → get_or earlier k 0 ≤ k)
    → chain_at reads earlier (suc k) ≡ (get_or reads k no_read).reader ∷ chain_at reads earlier (get_or earlier k 0)
chain_step reads earlier k back =
    ap (λ (l : List ℕ). (get_or reads k no_read).reader ∷ l) (enough reads earlier k (get_or earlier k 0) (get_or earlier k 0) back (back k) (omega arith))

-- a chain doesn't go by what stands behind it
pub chain_before : (reads more : List Read) (earlier others : List ℕ) (most at : ℕ) → length earlier ≡ length reads → ((k : ℕ) → get_or earlier k 0 ≤ k) → at ≤ length reads
    → chain (reads ++ more) (earlier ++ others) most at ≡ chain reads earlier most at
chain_before reads more earlier others zero at long back le = refl
chain_before reads more earlier others (suc most) zero long back le = refl
chain_before reads more earlier others (suc most) (suc k) long back le =
    let b = back k in
    let here : get_or (reads ++ more) k no_read ≡ get_or reads k no_read = get_or_append_left reads more no_read k (omega (arith, le)) in
    let next : get_or (earlier ++ others) k 0 ≡ get_or earlier k 0 = get_or_append_left earlier others 0 k (omega (arith, le, long)) in
    ap (λ (r : Read). r.reader ∷ chain (reads ++ more) (earlier ++ others) most (get_or (earlier ++ others) k 0)) here
    ∙ ap (λ (n : ℕ). (get_or reads k no_read).reader ∷ chain (reads ++ more) (earlier ++ others) most n) next
    ∙ ap (λ (l : List ℕ). (get_or reads k no_read).reader ∷ l) (chain_before reads more earlier others most (get_or earlier k 0) long back (omega (arith, b, le)))

-- ---- counts

-- a reader more in front
pub count_step : (reads : List Read) (earlier : List ℕ) (k n : ℕ) → ((k : ℕ) → get_or earlier k 0 ≤ k)
    → count_by (nat_eq n) (chain_at reads earlier (suc k)) ≡ as_one (nat_eq n (get_or reads k no_read).reader) + count_by (nat_eq n) (chain_at reads earlier (get_or earlier k 0))
count_step reads earlier k n back =
    ap (λ (l : List ℕ). count_by (nat_eq n) l) (chain_step reads earlier k back)
    ∙ sum_by-cons (λ (m : ℕ). cond (nat_eq n m) 1 0) (get_or reads k no_read).reader (chain_at reads earlier (get_or earlier k 0))

-- one count changes by one
pub set_more : (counts : List ℕ) (reader : ℕ) → reader < length counts → (n : ℕ) → get_or (set counts reader (get_or counts reader 0 + 1)) n 0 ≡ get_or counts n 0 + as_one (nat_eq n reader)
set_more counts reader lt n = ⊎_elim
    (λ (same : n ≡ reader).
    let at = ap (λ (m : ℕ). get_or (set counts reader (get_or counts reader 0 + 1)) m 0) same ∙ get_or-set_same counts reader (get_or counts reader 0 + 1) 0 lt in
    let one : as_one (nat_eq n reader) ≡ 1 = ap (λ (m : ℕ). as_one (nat_eq m reader)) same ∙ ap as_one (same_yes reader) in
    let was : get_or counts n 0 ≡ get_or counts reader 0 = ap (λ (m : ℕ). get_or counts m 0) same in
    omega (arith, at, one, was))
    (λ (ne : n ≡ reader → ⊥).
    let at = get_or-set_other counts reader n (get_or counts reader 0 + 1) 0 ne in
    let none : as_one (nat_eq n reader) ≡ 0 = ap as_one (other_no n reader ne) in
    omega (arith, at, none))
    (cases_eq n reader)

pub set_less : (counts : List ℕ) (reader : ℕ) → reader < length counts → 1 ≤ get_or counts reader 0 → (n : ℕ) → get_or (set counts reader (get_or counts reader 0 - 1)) n 0 + as_one (nat_eq n reader) ≡ get_or counts n 0
set_less counts reader lt some n = ⊎_elim
    (λ (same : n ≡ reader).
    let at = ap (λ (m : ℕ). get_or (set counts reader (get_or counts reader 0 - 1)) m 0) same ∙ get_or-set_same counts reader (get_or counts reader 0 - 1) 0 lt in
    let one : as_one (nat_eq n reader) ≡ 1 = ap (λ (m : ℕ). as_one (nat_eq m reader)) same ∙ ap as_one (same_yes reader) in
    let was : get_or counts n 0 ≡ get_or counts reader 0 = ap (λ (m : ℕ). get_or counts m 0) same in
    omega (arith, at, one, was, some))
    (λ (ne : n ≡ reader → ⊥).
    let at = get_or-set_other counts reader n (get_or counts reader 0 - 1) 0 ne in
    let none : as_one (nat_eq n reader) ≡ 0 = ap as_one (other_no n reader ne) in
    omega (arith, at, none))
    (cases_eq n reader)

-- the same of a place that isn't none
pub count_here : (reads : List Read) (earlier : List ℕ) (at n : ℕ) → ((k : ℕ) → get_or earlier k 0 ≤ k) → 0 < at
    → count_by (nat_eq n) (chain_at reads earlier at) ≡ as_one (nat_eq n (get_or reads (at - 1) no_read).reader) + count_by (nat_eq n) (chain_at reads earlier (get_or earlier (at - 1) 0))
count_here reads earlier zero n back lt = absurd (omega (arith, lt))
count_here reads earlier (suc k) n back lt =
    let on : k ≡ suc k - 1 = omega arith in
    subst (λ (m : ℕ). count_by (nat_eq n) (chain_at reads earlier (suc k)) ≡ as_one (nat_eq n (get_or reads m no_read).reader) + count_by (nat_eq n) (chain_at reads earlier (get_or earlier m 0))) on
    (count_step reads earlier k n back)
