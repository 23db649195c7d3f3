-- What follows from a reading that found a value.
use Rattle.std.proofs.Common.{◌≡◌, suc, Bool, true, false, ◌&&◌, not, cond, List, [], ◌∷◌, length, Option, Some, None, option_map, option_and_then, Result, Ok, Err, refl, ap, subst}
use Rattle.std.proofs.lemmas.Option.{same_Some}
use Rattle.std.specs.List.{list_all}
use Rattle.std.specs.Prelude.{⊤}
use Rattle.job_json.specs.Faults.{◌>>=◌, or_fault, check}
use Rattle.job_json.specs.Members.{each}
use Rattle.job_json.specs.declared.job_fault.JobFault.{JobFault}

pub read_then : {A B P : Type 0} (r : Result A JobFault) (f : A → Result B JobFault) (y : B) → (r >>= f) ≡ Ok y → ((x : A) → r ≡ Ok x → f x ≡ Ok y → P) → P
read_then (Err e) f y is k = absurd (cc is)
read_then (Ok x) f y is k = k x refl is

-- a reading that found this
abbrev pub found : {A : Type 0} → A → Result A JobFault
found x = Ok x

pub same_Ok : {A : Type 0} (x y : A) → found x ≡ found y → x ≡ y
same_Ok x y e = cc e

pub checked : (test : Bool) (f : JobFault) (u : ⊤) → check test f ≡ Ok u → test ≡ true
checked true f u e = refl
checked false f u e = absurd (cc e)

pub there : {A : Type 0} (f : JobFault) (o : Option A) (x : A) → or_fault f o ≡ Ok x → o ≡ Some x
there f None x e = absurd (cc e)
there f (Some y) x e = ap Some (same_Ok y x e)

pub found_then : {A B P : Type 0} (o : Option A) (f : A → Option B) (y : B) → option_and_then f o ≡ Some y → ((x : A) → o ≡ Some x → f x ≡ Some y → P) → P
found_then None f y e k = absurd (cc e)
found_then (Some x) f y e k = k x refl e

pub mapped_then : {A B P : Type 0} (f : A → B) (o : Option A) (y : B) → option_map f o ≡ Some y → ((x : A) → o ≡ Some x → f x ≡ y → P) → P
mapped_then f None y e k = absurd (cc e)
mapped_then f (Some x) y e k = k x refl (same_Some (f x) y e)

pub chosen : {A : Type 0} (b : Bool) (x y : A) → cond b (Some x) None ≡ Some y → (b ≡ true) × (x ≡ y)
chosen true x y e = (refl, same_Some x y e)
chosen false x y e = absurd (cc e)

pub both_true : (a b : Bool) → a ≡ true → b ≡ true → (a && b) ≡ true
both_true true b e f = f
both_true false b e f = absurd (cc e)

pub both_parts : (a b : Bool) → (a && b) ≡ true → (a ≡ true) × (b ≡ true)
both_parts true b e = (refl, e)
both_parts false b e = absurd (cc e)

pub is_not : (b : Bool) → not b ≡ true → b ≡ false
is_not true e = absurd (cc e)
is_not false e = refl

-- where each of these stands for something that passes, all that they stand for passes, and is as many
pub each_passes : {A B : Type 0} (q : A → Bool) (f : A → Option B) (p : B → Bool) → ((x : A) (y : B) → q x ≡ true → f x ≡ Some y → p y ≡ true)
    → (xs : List A) (ys : List B) → list_all q xs ≡ true → each f xs ≡ Some ys → (list_all p ys ≡ true) × (length ys ≡ length xs)
each_passes {A} {B} q f p one [] ys all e =
    let is : [] ≡ ys = same_Some [] ys e in
    subst (λ (zs : List B). (list_all p zs ≡ true) × (length zs ≡ length {A = A} [])) is (refl, refl)
each_passes {A} {B} q f p one (x ∷ xs) ys all e =
    let parts = both_parts (q x) (list_all q xs) all in
    found_then (f x) _ ys e (λ y y_is e1.
    mapped_then (λ (zs : List B). y ∷ zs) (each f xs) ys e1 (λ zs zs_is e2.
    let rest = each_passes q f p one xs zs parts.1 zs_is in
    subst (λ (zs : List B). (list_all p zs ≡ true) × (length zs ≡ length (x ∷ xs))) e2
    (both_true (p y) (list_all p zs) (one x y parts.0 y_is) rest.0, ap suc rest.1)))

-- the same, whatever is read
pub each_all : {A B : Type 0} (f : A → Option B) (p : B → Bool) → ((x : A) (y : B) → f x ≡ Some y → p y ≡ true)
    → (xs : List A) (ys : List B) → each f xs ≡ Some ys → (list_all p ys ≡ true) × (length ys ≡ length xs)
each_all {A} f p one xs ys e = each_passes (λ (x : A). true) f p (λ x y _ is. one x y is) xs ys (all_true xs) e
  where
    all_true : (xs : List A) → list_all (λ (x : A). true) xs ≡ true
    all_true [] = refl
    all_true (x ∷ xs) = all_true xs
