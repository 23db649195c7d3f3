-- Counts and parts of lists of reads.
use Rattle.std.proofs.Common.{◌≡◌, ℕ, ◌+◌, ◌<◌, Bool, true, false, not, ◌&&◌, cond, List, [], ◌∷◌, length, map, filter, get_or, set, refl, sym, ◌∙◌, ap, arith, All, nat_eq, ⊎_elim}
use Rattle.std.specs.Prelude.{count_by}
use Rattle.std.proofs.lemmas.Bool.{cases_eq}
use Rattle.std.proofs.lemmas.List.{get_or-set_same, get_or-set_other}
use Rattle.std.proofs.lemmas.List.Elements.{All-head, All-tail}
use Rattle.std.proofs.lemmas.List.Sums.{sum_by-cons}
use Rattle.reader_index.specs.Tasks.{is_between, is_done, is_of, is_waiting, read_by}
use Rattle.reader_index.specs.declared.read.Read.{Read}
use Rattle.reader_index.proofs.Chains.{as_one, other_no, same_yes}

pub count_same : {X : Type 0} (p q : X → Bool) (xs : List X) → ((x : X) → p x ≡ q x) → count_by p xs ≡ count_by q xs
count_same p q [] same = refl
count_same p q (x ∷ xs) same =
    let a = sum_by-cons (λ y. cond (p y) 1 0) x xs in
    let b = sum_by-cons (λ y. cond (q y) 1 0) x xs in
    let here = ap as_one (same x) in
    let rest = count_same p q xs same in
    omega (arith, a, b, here, rest)

-- where two tests part a third, their counts add up to its
pub count_parts : {X : Type 0} (p q r : X → Bool) (xs : List X) → ((x : X) → as_one (p x) + as_one (q x) ≡ as_one (r x)) → count_by p xs + count_by q xs ≡ count_by r xs
count_parts p q r [] each = refl
count_parts p q r (x ∷ xs) each =
    let a = sum_by-cons (λ y. cond (p y) 1 0) x xs in
    let b = sum_by-cons (λ y. cond (q y) 1 0) x xs in
    let c = sum_by-cons (λ y. cond (r y) 1 0) x xs in
    let here = each x in
    let rest = count_parts p q r xs each in
    omega (arith, a, b, c, here, rest)

-- who has no read
pub none_of : (n : ℕ) (reads : List Read) → All (λ read. read.reader < n) reads → filter (is_of n) reads ≡ []
none_of n [] lt = refl
none_of n (read ∷ reads) lt =
    let here = All-head (λ (r : Read). r.reader < n) read reads lt in
    let differ : is_of n read ≡ false = other_no n read.reader (λ same. omega (arith, same, here)) in
    ap (λ (b : Bool). cond b (read ∷ filter (is_of n) reads) (filter (is_of n) reads)) differ ∙ none_of n reads (All-tail (λ (r : Read). r.reader < n) read reads lt)

pub none_waiting : (done : List Bool) (n : ℕ) (reads : List Read) → All (λ read. read.reader < n) reads → count_by (is_waiting done n) reads ≡ 0
none_waiting done n [] lt = refl
none_waiting done n (read ∷ reads) lt =
    let here = All-head (λ (r : Read). r.reader < n) read reads lt in
    let differ : is_of n read ≡ false = other_no n read.reader (λ same. omega (arith, same, here)) in
    let a = sum_by-cons (λ r. cond (is_waiting done n r) 1 0) read reads in
    let none : as_one (is_waiting done n read) ≡ 0 = ap (λ (b : Bool). as_one (b && not (is_done done read.producer))) differ in
    let rest = none_waiting done n reads (All-tail (λ (r : Read). r.reader < n) read reads lt) in
    omega (arith, a, none, rest)

-- the reads of one task
pub all_own : (n : ℕ) (producers : List ℕ) → filter (is_of n) (map (read_by n) producers) ≡ map (read_by n) producers
all_own n [] = refl
all_own n (p ∷ producers) =
    let rest = filter (is_of n) (map (read_by n) producers) in
    ap (λ (b : Bool). cond b (read_by n p ∷ rest) rest) (same_yes n) ∙ ap (λ (l : List Read). read_by n p ∷ l) (all_own n producers)

pub others_own : (m n : ℕ) (producers : List ℕ) → (m ≡ n → ⊥) → filter (is_of m) (map (read_by n) producers) ≡ []
others_own m n [] ne = refl
others_own m n (p ∷ producers) ne =
    let rest = filter (is_of m) (map (read_by n) producers) in
    ap (λ (b : Bool). cond b (read_by n p ∷ rest) rest) (other_no m n ne) ∙ others_own m n producers ne

pub own_waiting : (done : List Bool) (n : ℕ) (producers : List ℕ) → count_by (is_waiting done n) (map (read_by n) producers) ≡ count_by (λ p. not (is_done done p)) producers
own_waiting done n [] = refl
own_waiting done n (p ∷ producers) =
    let a = sum_by-cons (λ r. cond (is_waiting done n r) 1 0) (read_by n p) (map (read_by n) producers) in
    let b = sum_by-cons (λ q. cond (not (is_done done q)) 1 0) p producers in
    let here : as_one (is_waiting done n (read_by n p)) ≡ as_one (not (is_done done p)) = ap (λ (c : Bool). as_one (c && not (is_done done p))) (same_yes n) in
    let rest = own_waiting done n producers in
    omega (arith, a, b, here, rest)

pub others_waiting : (done : List Bool) (m n : ℕ) (producers : List ℕ) → (m ≡ n → ⊥) → count_by (is_waiting done m) (map (read_by n) producers) ≡ 0
others_waiting done m n [] ne = refl
others_waiting done m n (p ∷ producers) ne =
    let a = sum_by-cons (λ r. cond (is_waiting done m r) 1 0) (read_by n p) (map (read_by n) producers) in
    let none : as_one (is_waiting done m (read_by n p)) ≡ 0 = ap (λ (c : Bool). as_one (c && not (is_done done p))) (other_no m n ne) in
    let rest = others_waiting done m n producers ne in
    omega (arith, a, none, rest)

-- ---- a task is done, or no longer

-- who reads from a task that is done now waited for it before
one_flips : (done : List Bool) (n m : ℕ) → n < length done → get_or done n false ≡ false → (read : Read)
    → as_one (is_waiting (set done n true) m read) + as_one (is_between m n read) ≡ as_one (is_waiting done m read)
one_flips done n m lt none read = by (nat_eq m read.reader)
  where
    at : is_done (set done n true) read.producer ≡ is_done (set done n true) read.producer
    at = refl

    producer : as_one (not (is_done (set done n true) read.producer)) + as_one (nat_eq n read.producer) ≡ as_one (not (is_done done read.producer))
    producer = ⊎_elim
        (λ (is : read.producer ≡ n).
        let now : is_done (set done n true) read.producer ≡ true = ap (λ (k : ℕ). get_or (set done n true) k false) is ∙ get_or-set_same done n true false lt in
        let was : is_done done read.producer ≡ false = ap (λ (k : ℕ). get_or done k false) is ∙ none in
        let a : as_one (not (is_done (set done n true) read.producer)) ≡ 0 = ap (λ (b : Bool). as_one (not b)) now in
        let b : as_one (nat_eq n read.producer) ≡ 1 = ap (λ (k : ℕ). as_one (nat_eq n k)) is ∙ ap as_one (same_yes n) in
        let c : as_one (not (is_done done read.producer)) ≡ 1 = ap (λ (b : Bool). as_one (not b)) was in
        omega (arith, a, b, c))
        (λ (ne : read.producer ≡ n → ⊥).
        let same : is_done (set done n true) read.producer ≡ is_done done read.producer = get_or-set_other done n read.producer true false ne in
        let a : as_one (not (is_done (set done n true) read.producer)) ≡ as_one (not (is_done done read.producer)) = ap (λ (b : Bool). as_one (not b)) same in
        let b : as_one (nat_eq n read.producer) ≡ 0 = ap as_one (other_no n read.producer (λ e. ne (sym e))) in
        omega (arith, a, b))
        (cases_eq read.producer n)

    by : (b : Bool) → as_one (b && not (is_done (set done n true) read.producer)) + as_one (b && nat_eq n read.producer) ≡ as_one (b && not (is_done done read.producer))
    by true = producer
    by false = refl

pub waiting_flips : (done : List Bool) (reads : List Read) (n m : ℕ) → n < length done → get_or done n false ≡ false
    → count_by (is_waiting (set done n true) m) reads + count_by (is_between m n) reads ≡ count_by (is_waiting done m) reads
waiting_flips done reads n m lt none = count_parts (is_waiting (set done n true) m) (is_between m n) (is_waiting done m) reads (one_flips done n m lt none)
