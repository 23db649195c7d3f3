-- Lists that are filtered, mapped and joined.
use Rattle.std.proofs.Common.{◌≡◌, ℕ, zero, suc, ◌+◌, ◌<◌, ◌≤◌, Bool, true, false, cond, List, [], ◌∷◌, ◌++◌, map, filter, get_or, refl, sym, ◌∙◌, ap, subst, arith, All}
use Rattle.std.specs.List.{flat_map, range_with_len, list_all, list_any}
use Rattle.std.specs.Prelude.{◌&&◌, ◌||◌}
use Rattle.std.proofs.lemmas.Bool.{false≢true}
use Rattle.std.proofs.lemmas.List.{map-append}
use Rattle.std.proofs.lemmas.List.FromFn.{get_or-range_with_len, length-range_with_len}
use Rattle.std.proofs.lemmas.List.Elements.{All-append, All-nil, All-head, All-tail, filter-append}

pub map-flat_map : {X Y Z : Type 0} (h : Y → Z) (f : X → List Y) (xs : List X) → map h (flat_map f xs) ≡ flat_map (λ x. map h (f x)) xs
map-flat_map h f [] = refl
map-flat_map {Z = Z} h f (x ∷ xs) = map-append h (f x) (flat_map f xs) ∙ ap (λ (l : List Z). map h (f x) ++ l) (map-flat_map h f xs)

pub filter-flat_map : {X Y : Type 0} (p : Y → Bool) (f : X → List Y) (xs : List X) → filter p (flat_map f xs) ≡ flat_map (λ x. filter p (f x)) xs
filter-flat_map p f [] = refl
filter-flat_map {Y = Y} p f (x ∷ xs) = filter-append p (f x) (flat_map f xs) ∙ ap (λ (l : List Y). filter p (f x) ++ l) (filter-flat_map p f xs)

pub map-map : {X Y Z : Type 0} (h : Y → Z) (f : X → Y) (xs : List X) → map h (map f xs) ≡ map (λ x. h (f x)) xs
map-map h f [] = refl
map-map {Z = Z} h f (x ∷ xs) = ap (λ (l : List Z). h (f x) ∷ l) (map-map h f xs)

pub filter-map : {X Y : Type 0} (p : Y → Bool) (f : X → Y) (xs : List X) → filter p (map f xs) ≡ map f (filter (λ x. p (f x)) xs)
filter-map p f [] = refl
filter-map {Y = Y} p f (x ∷ xs) = by (filter-map p f xs) (p (f x))
  where
    by : filter p (map f xs) ≡ map f (filter (λ y. p (f y)) xs) → (b : Bool)
        → cond b (f x ∷ filter p (map f xs)) (filter p (map f xs)) ≡ map f (cond b (x ∷ filter (λ y. p (f y)) xs) (filter (λ y. p (f y)) xs))
    by rest true = ap (λ (l : List Y). f x ∷ l) rest
    by rest false = rest

-- tests that agree below a number
pub filter-range : (p q : ℕ → Bool) (a n : ℕ) → ((k : ℕ) → k < a + n → p k ≡ q k) → filter p (range_with_len a n) ≡ filter q (range_with_len a n)
filter-range p q a zero same = refl
filter-range p q a (suc n) same =
    ap (λ (b : Bool). cond b (a ∷ filter p (range_with_len (a + 1) n)) (filter p (range_with_len (a + 1) n))) (same a (omega arith))
    ∙ ap (λ (l : List ℕ). cond (q a) (a ∷ l) l) (filter-range p q (a + 1) n (λ k lt. same k (omega (arith, lt))))

pub flat_map-agree : {X Y : Type 0} (f g : X → List Y) (xs : List X) → ((x : X) → f x ≡ g x) → flat_map f xs ≡ flat_map g xs
flat_map-agree f g [] same = refl
flat_map-agree {Y = Y} f g (x ∷ xs) same = ap (λ (l : List Y). l ++ flat_map f xs) (same x) ∙ ap (λ (l : List Y). g x ++ l) (flat_map-agree f g xs same)

-- what gives nothing from a number on
pub flat_map-nothing : {Y : Type 0} (f : ℕ → List Y) (a n : ℕ) → ((k : ℕ) → a ≤ k → f k ≡ []) → flat_map f (range_with_len a n) ≡ []
flat_map-nothing f a zero none = refl
flat_map-nothing {Y = Y} f a (suc n) none = ap (λ (l : List Y). l ++ flat_map f (range_with_len (a + 1) n)) (none a (omega arith)) ∙ flat_map-nothing f (a + 1) n (λ k le. none k (omega (arith, le)))

pub flat_map-short : {Y : Type 0} (f : ℕ → List Y) (a n d : ℕ) → ((k : ℕ) → a + n ≤ k → f k ≡ []) → flat_map f (range_with_len a (n + d)) ≡ flat_map f (range_with_len a n)
flat_map-short f a zero d none =
    let is : zero + d ≡ d = omega arith in
    ap (λ (m : ℕ). flat_map f (range_with_len a m)) is ∙ flat_map-nothing f a d (λ k le. none k (omega (arith, le)))
flat_map-short {Y = Y} f a (suc n) d none =
    let is : suc n + d ≡ suc (n + d) = omega arith in
    ap (λ (m : ℕ). flat_map f (range_with_len a m)) is
    ∙ ap (λ (l : List Y). f a ++ l) (flat_map-short f (a + 1) n d (λ k le. none k (omega (arith, le))))

-- the first place that gives something
pub flat_map-begins : {Y : Type 0} (f : ℕ → List Y) (a n d : ℕ) → ((k : ℕ) → a ≤ k → k < a + d → f k ≡ []) → d < n
    → (rest : List Y) × (flat_map f (range_with_len a n) ≡ f (a + d) ++ rest)
flat_map-begins f a zero d none lt = absurd (omega (arith, lt))
flat_map-begins {Y = Y} f a (suc n) zero none lt =
    let is : a ≡ a + zero = omega arith in
    (flat_map f (range_with_len (a + 1) n), ap (λ (k : ℕ). f k ++ flat_map f (range_with_len (a + 1) n)) is)
flat_map-begins {Y = Y} f a (suc n) (suc d) none lt =
    let from = flat_map-begins f (a + 1) n d (λ k le less. none k (omega (arith, le)) (omega (arith, less))) (omega (arith, lt)) in
    let is : a + 1 + d ≡ a + suc d = omega arith in
    (from.0, ap (λ (l : List Y). l ++ flat_map f (range_with_len (a + 1) n)) (none a (omega arith) (omega arith)) ∙ from.1 ∙ ap (λ (k : ℕ). f k ++ from.0) is)

-- the first number that passes
pub filter-begins : (p : ℕ → Bool) (a n d : ℕ) → ((k : ℕ) → a ≤ k → k < a + d → p k ≡ false) → p (a + d) ≡ true → d < n
    → (rest : List ℕ) × (filter p (range_with_len a n) ≡ (a + d) ∷ rest)
filter-begins p a zero d none is lt = absurd (omega (arith, lt))
filter-begins p a (suc n) zero none is lt =
    let same : a + zero ≡ a = omega arith in
    let rest = filter p (range_with_len (a + 1) n) in
    (rest, ap (λ (b : Bool). cond b (a ∷ rest) rest) (ap p (sym same) ∙ is) ∙ ap (λ (k : ℕ). k ∷ rest) (sym same))
filter-begins p a (suc n) (suc d) none is lt =
    let same : a + 1 + d ≡ a + suc d = omega arith in
    let from = filter-begins p (a + 1) n d (λ k le less. none k (omega (arith, le)) (omega (arith, less))) (ap p same ∙ is) (omega (arith, lt)) in
    let rest = filter p (range_with_len (a + 1) n) in
    (from.0, ap (λ (b : Bool). cond b (a ∷ rest) rest) (none a (omega arith) (omega arith)) ∙ from.1 ∙ ap (λ (k : ℕ). k ∷ from.0) same)

-- tests that agree on the items
pub list_all-agree : {X : Type 0} (p q : X → Bool) (xs : List X) → All (λ x. p x ≡ q x) xs → list_all p xs ≡ list_all q xs
list_all-agree p q [] same = refl
list_all-agree p q (x ∷ xs) same =
    ap (λ (b : Bool). b && list_all p xs) (All-head (λ y. p y ≡ q y) x xs same) ∙ ap (λ (b : Bool). q x && b) (list_all-agree p q xs (All-tail (λ y. p y ≡ q y) x xs same))

pub list_any-filter_less : {X : Type 0} (p q : X → Bool) (xs : List X) → ((x : X) → p x ≡ true → q x ≡ true) → list_any p (filter q xs) ≡ list_any p xs
list_any-filter_less p q [] keeps = refl
list_any-filter_less p q (x ∷ xs) keeps = by (list_any-filter_less p q xs keeps) (q x) (p x) refl refl
  where
    by : list_any p (filter q xs) ≡ list_any p xs → (kept found : Bool) → q x ≡ kept → p x ≡ found → list_any p (cond kept (x ∷ filter q xs) (filter q xs)) ≡ (p x || list_any p xs)
    by rest true found is has = ap (λ (b : Bool). p x || b) rest
    by rest false false is has = rest ∙ sym (ap (λ (b : Bool). b || list_any p xs) has)
    by rest false true is has = absurd (false≢true (sym is ∙ keeps x has))

pub all_flat_map : {X Y : Type 0} (P : Y → Type 0) (f : X → List Y) (xs : List X) → All (λ x. All P (f x)) xs → All P (flat_map f xs)
all_flat_map P f [] all = All-nil P
all_flat_map P f (x ∷ xs) all = All-append P (f x) (flat_map f xs) (All-head (λ y. All P (f y)) x xs all) (all_flat_map P f xs (All-tail (λ y. All P (f y)) x xs all))

pub range_all : (n : ℕ) → All (λ k. k < n) (range_with_len 0 n)
range_all n k d lt =
    let long = length-range_with_len 0 n in
    let less : k < n = omega (arith, lt, long) in
    let at : get_or (range_with_len 0 n) k d ≡ k = get_or-range_with_len 0 n k d less ∙ omega arith in
    subst (λ (m : ℕ). m < n) (sym at) less
