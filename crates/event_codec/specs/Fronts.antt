-- Proofs, not definitions: no spelling begins another's. The law of `Readable` cites them.
use Rattle.std.specs.Prelude.{◌≡◌, ⊤, ℕ, ◌≤◌, Bool, true, false, List, [], ◌∷◌, ◌++◌, length, take, drop}
use Rattle.std.proofs.Common.{refl, sym, ap, ◌∙◌, append_assoc, arith, inl, inr}
use Rattle.std.specs.List.{flat_map, AllByRecursion}
use Rattle.std.specs.Int.{w32, w64, from_be_bytes, to_be_bytes}
use Rattle.std.proofs.lemmas.List.{take_at, drop_at, append-nil, length-append, nil_from_length}
use Rattle.std.proofs.lemmas.Nat.{from_be_bytes-to_be_bytes_4, from_be_bytes-to_be_bytes_8}
use Rattle.estate.specs.declared.part_name.PartName.{PartName}
use Rattle.plan_model.specs.declared.side.Side.{Side}
use Rattle.plan_model.specs.declared.side.Side.TheVariants.{Left, Right}
use Rattle.rect_cover.specs.declared.rect.Rect.{Rect}
use Rattle.graph_model.specs.declared.cause.Cause.{Cause}
use Rattle.graph_model.specs.declared.cause.Cause.TheVariants.{Gate, Lost}
use Rattle.graph_model.specs.declared.sub.Sub.{Sub}
use Rattle.row_core.proofs.Laws.{IsLonger, lists_front}
use Rattle.event_codec.specs.Spelling.{word, long, IsWord, IsLong, counted, IsCounted, AreFit, text_bytes, name_bytes, NameFits, sub_bytes, SubFits, rect_bytes, RectFits, side_bytes, flag_bytes, cause_bytes, CauseFits}
use Rattle.event_codec.specs.Reading.{IsPrefixFree, both, BothFit}

-- fronts of one length are one, and so are the rests
pub split_front : (a b x y : List ℕ) → length a ≡ length b → a ++ x ≡ b ++ y → (a ≡ b) × (x ≡ y)
split_front a b x y len h = (
  sym (take_at a x (length a) refl) ∙ ap (take (length a)) h ∙ take_at b y (length a) (sym len),
  sym (drop_at a x (length a) refl) ∙ ap (drop (length a)) h ∙ drop_at b y (length a) (sym len),
)

pub word_front : (m n : ℕ) (x y : List ℕ) → IsWord m → IsWord n → word m ++ x ≡ word n ++ y → (m ≡ n) × (x ≡ y)
unfolding word
word_front m n x y below_m below_n h =
    let parts = split_front (to_be_bytes w32 m) (to_be_bytes w32 n) x y refl h in
    (sym (from_be_bytes-to_be_bytes_4 m below_m) ∙ ap (from_be_bytes w32) parts.0 ∙ from_be_bytes-to_be_bytes_4 n below_n, parts.1)

long_front : (m n : ℕ) (x y : List ℕ) → IsLong m → IsLong n → long m ++ x ≡ long n ++ y → (m ≡ n) × (x ≡ y)
unfolding long
long_front m n x y below_m below_n h =
    let parts = split_front (to_be_bytes w64 m) (to_be_bytes w64 n) x y refl h in
    (sym (from_be_bytes-to_be_bytes_8 m below_m) ∙ ap (from_be_bytes w64) parts.0 ∙ from_be_bytes-to_be_bytes_8 n below_n, parts.1)

pub word_free : IsPrefixFree word IsWord
word_free = record { front = word_front }

pub long_free : IsPrefixFree long IsLong
long_free = record { front = long_front }

-- ---- pairs and lists

both_front : {A B : Type 0} (spell_a : A → List ℕ) (Fits_a : A → Type 0) (spell_b : B → List ℕ) (Fits_b : B → Type 0) → IsPrefixFree spell_a Fits_a → IsPrefixFree spell_b Fits_b
    → (p q : A × B) (x y : List ℕ) → BothFit Fits_a Fits_b p → BothFit Fits_a Fits_b q → both spell_a spell_b p ++ x ≡ both spell_a spell_b q ++ y → (p ≡ q) × (x ≡ y)
both_front spell_a Fits_a spell_b Fits_b free_a free_b (a, b) (c, d) x y fits_p fits_q h =
    let whole = sym (append_assoc (spell_a a) (spell_b b) x) ∙ h ∙ append_assoc (spell_a c) (spell_b d) y in
    let first = free_a.front a c (spell_b b ++ x) (spell_b d ++ y) fits_p.0 fits_q.0 whole in
    let second = free_b.front b d x y fits_p.1 fits_q.1 first.1 in
    (cc (first.0, second.0), second.1)

pub both_free : {A B : Type 0} (spell_a : A → List ℕ) (Fits_a : A → Type 0) (spell_b : B → List ℕ) (Fits_b : B → Type 0) → IsPrefixFree spell_a Fits_a → IsPrefixFree spell_b Fits_b
    → IsPrefixFree (both spell_a spell_b) (BothFit Fits_a Fits_b)
both_free spell_a Fits_a spell_b Fits_b free_a free_b = record { front = both_front spell_a Fits_a spell_b Fits_b free_a free_b }

none_longer : {A : Type 0} (spell : A → List ℕ) (Fits : A → Type 0) (items others : List A) (x y : List ℕ) → length others ≤ length items → IsLonger spell Fits items others x y → (items ≡ others) × (x ≡ y)
none_longer {A} spell Fits items others x y short longer =
    let nothing : longer.more ≡ [] = nil_from_length longer.more (omega (arith, ap length longer.list, length-append items longer.more)) in
    (sym (longer.list ∙ ap (λ (more : List A). items ++ more) nothing ∙ append-nil items), longer.rest ∙ ap (λ (more : List A). flat_map spell more ++ y) nothing)

-- lists of one length whose spellings begin the same bytes are one
lists_same : {A : Type 0} (spell : A → List ℕ) (Fits : A → Type 0) (free : IsPrefixFree spell Fits) (items others : List A) (x y : List ℕ) → AllByRecursion Fits items → AllByRecursion Fits others → length items ≡ length others → flat_map spell items ++ x ≡ flat_map spell others ++ y
    → (items ≡ others) × (x ≡ y)
lists_same spell Fits free items others x y fit_items fit_others len h =
    elim (lists_front spell Fits (record { front = free.front }) items others x y fit_items fit_others h) [
      | inl longer ↦ none_longer spell Fits items others x y (omega arith) longer
      | inr longer ↦
          let same = none_longer spell Fits others items y x (omega arith) longer in
          (sym same.0, sym same.1)
    ]

counted_front : {A : Type 0} (spell : A → List ℕ) (Fits : A → Type 0) → IsPrefixFree spell Fits → (a b : List A) (x y : List ℕ) → AreFit Fits a → AreFit Fits b → counted spell a ++ x ≡ counted spell b ++ y → (a ≡ b) × (x ≡ y)
counted_front spell Fits free a b x y fit_a fit_b h =
    let whole = sym (append_assoc (word (length a)) (flat_map spell a) x) ∙ h ∙ append_assoc (word (length b)) (flat_map spell b) y in
    let parts = word_front (length a) (length b) (flat_map spell a ++ x) (flat_map spell b ++ y) fit_a.0 fit_b.0 whole in
    lists_same spell Fits free a b x y fit_a.1 fit_b.1 parts.0 parts.1

pub counted_free : {A : Type 0} (spell : A → List ℕ) (Fits : A → Type 0) → IsPrefixFree spell Fits → IsPrefixFree (counted spell) (AreFit Fits)
counted_free spell Fits free = record { front = counted_front spell Fits free }

-- ---- parts of several words

abbrev pub two : ℕ × ℕ → List ℕ
two = both word word

abbrev pub AreTwo : ℕ × ℕ → Type 0
AreTwo = BothFit IsWord IsWord

pub two_free : IsPrefixFree two AreTwo
two_free = both_free word IsWord word IsWord word_free word_free

abbrev pub four : ((ℕ × ℕ) × ℕ) × ℕ → List ℕ
four = both (both two word) word

abbrev pub AreFour : ((ℕ × ℕ) × ℕ) × ℕ → Type 0
AreFour = BothFit (BothFit AreTwo IsWord) IsWord

pub four_free : IsPrefixFree four AreFour
four_free = both_free (both two word) (BothFit AreTwo IsWord) word IsWord (both_free two AreTwo word IsWord two_free word_free) word_free

abbrev name_of : ((ℕ × ℕ) × ℕ) × ℕ → PartName
name_of p = record { vertex = p.0.0.0; subtask = p.0.0.1; epoch = p.0.1; attempt = p.1 }

name_front : (a b : PartName) (x y : List ℕ) → NameFits a → NameFits b → name_bytes a ++ x ≡ name_bytes b ++ y → (a ≡ b) × (x ≡ y)
name_front a b x y fits_a fits_b h =
    let parts = four_free.front (((a.vertex, a.subtask), a.epoch), a.attempt) (((b.vertex, b.subtask), b.epoch), b.attempt) x y (((fits_a.0, fits_a.1), fits_a.2), fits_a.3) (((fits_b.0, fits_b.1), fits_b.2), fits_b.3) h in
    (ap name_of parts.0, parts.1)

pub name_free : IsPrefixFree name_bytes NameFits
name_free = record { front = name_front }

abbrev rect_of : ((ℕ × ℕ) × ℕ) × ℕ → Rect
rect_of p = record { p0 = p.0.0.0; p1 = p.0.0.1; s0 = p.0.1; s1 = p.1 }

rect_front : (a b : Rect) (x y : List ℕ) → RectFits a → RectFits b → rect_bytes a ++ x ≡ rect_bytes b ++ y → (a ≡ b) × (x ≡ y)
rect_front a b x y fits_a fits_b h =
    let parts = four_free.front (((a.p0, a.p1), a.s0), a.s1) (((b.p0, b.p1), b.s0), b.s1) x y (((fits_a.0, fits_a.1), fits_a.2), fits_a.3) (((fits_b.0, fits_b.1), fits_b.2), fits_b.3) h in
    (ap rect_of parts.0, parts.1)

pub rect_free : IsPrefixFree rect_bytes RectFits
rect_free = record { front = rect_front }

abbrev sub_of : ℕ × ℕ → Sub
sub_of p = record { vertex = p.0; subtask = p.1 }

sub_front : (a b : Sub) (x y : List ℕ) → SubFits a → SubFits b → sub_bytes a ++ x ≡ sub_bytes b ++ y → (a ≡ b) × (x ≡ y)
sub_front a b x y fits_a fits_b h =
    let parts = two_free.front (a.vertex, a.subtask) (b.vertex, b.subtask) x y fits_a fits_b h in
    (ap sub_of parts.0, parts.1)

pub sub_free : IsPrefixFree sub_bytes SubFits
sub_free = record { front = sub_front }

-- ---- lists of lists

pub sizes_free : IsPrefixFree (counted (counted long)) (AreFit (AreFit IsLong))
sizes_free = counted_free (counted long) (AreFit IsLong) (counted_free long IsLong long_free)

pub subtask_free : IsPrefixFree (counted (counted rect_bytes)) (AreFit (AreFit RectFits))
subtask_free = counted_free (counted rect_bytes) (AreFit RectFits) (counted_free rect_bytes RectFits rect_free)

pub assignment_free : IsPrefixFree (counted (counted (counted rect_bytes))) (AreFit (AreFit (AreFit RectFits)))
assignment_free = counted_free (counted (counted rect_bytes)) (AreFit (AreFit RectFits)) subtask_free

-- ---- texts, sides, flags and causes

text_front : (a b x y : List ℕ) → IsCounted a → IsCounted b → text_bytes a ++ x ≡ text_bytes b ++ y → (a ≡ b) × (x ≡ y)
text_front a b x y fit_a fit_b h =
    let whole = sym (append_assoc (word (length a)) a x) ∙ h ∙ append_assoc (word (length b)) b y in
    let parts = word_front (length a) (length b) (a ++ x) (b ++ y) fit_a fit_b whole in
    split_front a b x y parts.0 parts.1

pub text_free : IsPrefixFree text_bytes IsCounted
text_free = record { front = text_front }

pub rest_of : (m n : ℕ) (x y : List ℕ) → m ∷ x ≡ n ∷ y → x ≡ y
rest_of m n x y h = cc

side_front : (a b : Side) (x y : List ℕ) → ⊤ → ⊤ → side_bytes a ++ x ≡ side_bytes b ++ y → (a ≡ b) × (x ≡ y)
side_front Left Left x y fit_a fit_b h = (refl, rest_of 0 0 x y h)
side_front Left Right x y fit_a fit_b h = absurd cc
side_front Right Left x y fit_a fit_b h = absurd cc
side_front Right Right x y fit_a fit_b h = (refl, rest_of 1 1 x y h)

pub side_free : IsPrefixFree side_bytes (λ side. ⊤)
side_free = record { front = side_front }

flag_front : (a b : Bool) (x y : List ℕ) → ⊤ → ⊤ → flag_bytes a ++ x ≡ flag_bytes b ++ y → (a ≡ b) × (x ≡ y)
flag_front false false x y fit_a fit_b h = (refl, rest_of 0 0 x y h)
flag_front false true x y fit_a fit_b h = absurd cc
flag_front true false x y fit_a fit_b h = absurd cc
flag_front true true x y fit_a fit_b h = (refl, rest_of 1 1 x y h)

pub flag_free : IsPrefixFree flag_bytes (λ flag. ⊤)
flag_free = record { front = flag_front }

gate_front : (a b : PartName × ℕ) (x y : List ℕ) → BothFit NameFits IsWord a → BothFit NameFits IsWord b → both name_bytes word a ++ x ≡ both name_bytes word b ++ y → (a ≡ b) × (x ≡ y)
gate_front a b x y fit_a fit_b h = (both_free name_bytes NameFits word IsWord name_free word_free).front a b x y fit_a fit_b h

cause_front : (a b : Cause) (x y : List ℕ) → CauseFits a → CauseFits b → cause_bytes a ++ x ≡ cause_bytes b ++ y → (a ≡ b) × (x ≡ y)
cause_front (Gate name code) (Gate other number) x y fit_a fit_b h =
    let parts = gate_front (name, code) (other, number) x y fit_a fit_b (rest_of 0 0 _ _ h) in
    (ap (λ (p : PartName × ℕ). Gate p.0 p.1) parts.0, parts.1)
cause_front (Gate name code) (Lost other) x y fit_a fit_b h = absurd cc
cause_front (Lost name) (Gate other number) x y fit_a fit_b h = absurd cc
cause_front (Lost name) (Lost other) x y fit_a fit_b h =
    let parts = name_front name other x y fit_a fit_b (rest_of 1 1 _ _ h) in
    (ap Lost parts.0, parts.1)

pub cause_free : IsPrefixFree cause_bytes CauseFits
cause_free = record { front = cause_front }
