-- The lesser and the greater of values go by any order of the values.
use Rattle.std.proofs.Common.{◌≡◌, Bool, true, false, refl, sym, ◌∙◌, ap, if◌then◌else◌}
use Rattle.std.proofs.lemmas.List.Sorted.{IsStrictWeakOrder-flip}
use Rattle.std.specs.Cmp.{IsStrictWeakOrder}
use Rattle.std.specs.Ordering.{is_lt, is_eq}
use Rattle.row_core.specs.Exprs.{is_null}
use Rattle.row_core.specs.Values.{value_cmp}
use Rattle.row_core.specs.declared.value.Value.{Value}
use Rattle.row_core.specs.declared.value.Value.TheVariants.{Null, Int, Text}
use Rattle.plan_model.specs.Operators.{lesser_value, greater_value}
use Rattle.bag_laws.proofs.Laws.{IsStrict, strict_from, value_total, value_apart}

module _ {X : Type 0} (less : X → X → Bool) (order : IsStrictWeakOrder less) (apart : (x y : X) → less x y ≡ false → less y x ≡ false → x ≡ y) where
  -- the later of two where it is less
  abbrev pub pick : X → X → X
  pick x y = if less y x then y else x

  pub pick-assoc : (x y z : X) → pick x (pick y z) ≡ pick (pick x y) z
  pick-assoc x y z = by (less z y) refl (less y x) refl (less z x) refl
    where
      by : (b : Bool) → less z y ≡ b → (c : Bool) → less y x ≡ c → (d : Bool) → less z x ≡ d
          → pick x (if b then z else y) ≡ pick (if c then y else x) z
      by true zy true yx true zx = ap (λ (e : Bool). if e then z else x) zx ∙ ap (λ (e : Bool). if e then z else y) (sym zy)
      by true zy true yx false zx = let bad : less y x ≡ false = order.chain y z x (order.one_way z y zy) zx in cc
      by true zy false yx d zx = refl
      by false zy true yx d zx = ap (λ (e : Bool). if e then y else x) yx ∙ ap (λ (e : Bool). if e then z else y) (sym zy)
      by false zy false yx true zx = let bad : less z x ≡ false = order.chain z y x zy yx in cc
      by false zy false yx false zx = ap (λ (e : Bool). if e then y else x) yx ∙ ap (λ (e : Bool). if e then z else x) (sym zx)

  pub pick-comm : (x y : X) → pick x y ≡ pick y x
  pick-comm x y = by (less y x) refl (less x y) refl
    where
      by : (b : Bool) → less y x ≡ b → (c : Bool) → less x y ≡ c → (if b then y else x) ≡ (if c then x else y)
      by true yx true xy = let bad : less x y ≡ false = order.one_way y x yx in cc
      by true yx false xy = refl
      by false yx true xy = refl
      by false yx false xy = apart x y xy yx

abbrev value_less : Value → Value → Bool
value_less a b = is_lt (value_cmp a b)

strict : IsStrict value_less (λ a b. is_eq (value_cmp a b))
strict = strict_from value_cmp value_total value_apart

-- ---- the lesser, where a Null doesn't count

abbrev Counts : Value → Type 0
Counts value = is_null value ≡ false

lesser_pick : (a b : Value) → Counts a → Counts b → lesser_value a b ≡ pick value_less strict.order strict.apart a b
lesser_pick Null b e f = cc
lesser_pick (Int m) Null e f = cc
lesser_pick (Text s) Null e f = cc
lesser_pick (Int m) (Int n) e f = refl
lesser_pick (Int m) (Text t) e f = refl
lesser_pick (Text s) (Int n) e f = refl
lesser_pick (Text s) (Text t) e f = refl

pick_counts : (a b : Value) → Counts a → Counts b → Counts (pick value_less strict.order strict.apart a b)
pick_counts a b e f = by (value_less b a)
  where
    by : (c : Bool) → Counts (if c then b else a)
    by true = f
    by false = e

lesser-null : (a : Value) → lesser_value a Null ≡ a
lesser-null Null = refl
lesser-null (Int n) = refl
lesser-null (Text t) = refl

all_count : (a b c : Value) → Counts a → Counts b → Counts c → lesser_value a (lesser_value b c) ≡ lesser_value (lesser_value a b) c
all_count a b c e f g =
    ap (lesser_value a) (lesser_pick b c f g)
    ∙ lesser_pick a (pick value_less strict.order strict.apart b c) e (pick_counts b c f g)
    ∙ pick-assoc value_less strict.order strict.apart a b c
    ∙ sym (lesser_pick (pick value_less strict.order strict.apart a b) c (pick_counts a b e f) g)
    ∙ ap (λ (v : Value). lesser_value v c) (sym (lesser_pick a b e f))

pub lesser-assoc : (a b c : Value) → lesser_value a (lesser_value b c) ≡ lesser_value (lesser_value a b) c
lesser-assoc Null b c = refl
lesser-assoc (Int m) Null c = refl
lesser-assoc (Text s) Null c = refl
lesser-assoc (Int m) (Int n) Null = sym (lesser-null (lesser_value (Int m) (Int n)))
lesser-assoc (Int m) (Text t) Null = sym (lesser-null (lesser_value (Int m) (Text t)))
lesser-assoc (Text s) (Int n) Null = sym (lesser-null (lesser_value (Text s) (Int n)))
lesser-assoc (Text s) (Text t) Null = sym (lesser-null (lesser_value (Text s) (Text t)))
lesser-assoc (Int m) (Int n) (Int o) = all_count (Int m) (Int n) (Int o) refl refl refl
lesser-assoc (Int m) (Int n) (Text u) = all_count (Int m) (Int n) (Text u) refl refl refl
lesser-assoc (Int m) (Text t) (Int o) = all_count (Int m) (Text t) (Int o) refl refl refl
lesser-assoc (Int m) (Text t) (Text u) = all_count (Int m) (Text t) (Text u) refl refl refl
lesser-assoc (Text s) (Int n) (Int o) = all_count (Text s) (Int n) (Int o) refl refl refl
lesser-assoc (Text s) (Int n) (Text u) = all_count (Text s) (Int n) (Text u) refl refl refl
lesser-assoc (Text s) (Text t) (Int o) = all_count (Text s) (Text t) (Int o) refl refl refl
lesser-assoc (Text s) (Text t) (Text u) = all_count (Text s) (Text t) (Text u) refl refl refl

both_count : (a b : Value) → Counts a → Counts b → lesser_value a b ≡ lesser_value b a
both_count a b e f = lesser_pick a b e f ∙ pick-comm value_less strict.order strict.apart a b ∙ sym (lesser_pick b a f e)

pub lesser-comm : (a b : Value) → lesser_value a b ≡ lesser_value b a
lesser-comm Null b = sym (lesser-null b)
lesser-comm (Int m) Null = refl
lesser-comm (Text s) Null = refl
lesser-comm (Int m) (Int n) = both_count (Int m) (Int n) refl refl
lesser-comm (Int m) (Text t) = both_count (Int m) (Text t) refl refl
lesser-comm (Text s) (Int n) = both_count (Text s) (Int n) refl refl
lesser-comm (Text s) (Text t) = both_count (Text s) (Text t) refl refl

-- ---- the greater

abbrev flipped : IsStrictWeakOrder (λ a b. value_less b a)
flipped = IsStrictWeakOrder-flip value_less strict.order

pub greater-assoc : (a b c : Value) → greater_value a (greater_value b c) ≡ greater_value (greater_value a b) c
greater-assoc a b c = pick-assoc (λ a b. value_less b a) flipped (λ x y e f. strict.apart x y f e) a b c

pub greater-comm : (a b : Value) → greater_value a b ≡ greater_value b a
greater-comm a b = pick-comm (λ a b. value_less b a) flipped (λ x y e f. strict.apart x y f e) a b

pub greater-null : (a : Value) → greater_value Null a ≡ a
greater-null Null = refl
greater-null (Int n) = refl
greater-null (Text t) = refl

-- two values ahead of a third may change places
pub lesser-swap : (a b c : Value) → lesser_value a (lesser_value b c) ≡ lesser_value b (lesser_value a c)
lesser-swap a b c = lesser-assoc a b c ∙ ap (λ (v : Value). lesser_value v c) (lesser-comm a b) ∙ sym (lesser-assoc b a c)

pub greater-swap : (a b c : Value) → greater_value a (greater_value b c) ≡ greater_value b (greater_value a c)
greater-swap a b c = greater-assoc a b c ∙ ap (λ (v : Value). greater_value v c) (greater-comm a b) ∙ sym (greater-assoc b a c)
