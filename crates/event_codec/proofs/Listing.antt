-- Lists behind their number of items.
use Rattle.std.proofs.Common.{◌≡◌, ℕ, ◌<◌, List, [], ◌∷◌, ◌++◌, length, Option, Some, None, Result, Ok, Err, IfOk, MatchOption, sym, ap, ◌∙◌, append_assoc, arith, inl, inr}
use Rattle.std.specs.List.{flat_map, AllByRecursion}
use Rattle.std.proofs.lemmas.List.{length-append}
use Rattle.row_core.specs.Decoding.{Begins, NoneBegins}
use Rattle.row_core.proofs.Laws.{lists_front}
use Rattle.event_codec.specs.Spelling.{word, counted, IsWord, IsCounted, AreFit, text_bytes}
use Rattle.event_codec.specs.Reading.{IsPrefixFree, AreMany}
use Rattle.event_codec.specs.Fronts.{word_front}

first_lacks : {A : Type 0} (spell : A → List ℕ) (Fits : A → Type 0) (more : List A) (rest after : List ℕ) → 0 < length more → AllByRecursion Fits more → rest ≡ flat_map spell more ++ after → NoneBegins spell Fits rest → ⊥
first_lacks spell Fits [] rest after some fit h none = omega arith
first_lacks spell Fits (item ∷ more) rest after some fit h none = none item (flat_map spell more ++ after) (record { fits = fit.0; front = h ∙ append_assoc (spell item) (flat_map spell more) after })

-- Where a list is to have more items, and no item comes next, no such list comes.
pub items_lack : {A : Type 0} (spell : A → List ℕ) (Fits : A → Type 0) → IsPrefixFree spell Fits → (place count : ℕ) (bytes : List ℕ) (items : List A) (rest : List ℕ)
    → Begins (flat_map spell) (AreMany Fits place) bytes items rest → place < count → NoneBegins spell Fits rest → NoneBegins (flat_map spell) (AreMany Fits count) bytes
items_lack spell Fits free place count bytes items rest before missing none others after read =
    let len = before.fits.len in
    let width = read.fits.len in
    elim (lists_front spell Fits (record { front = free.front }) items others rest after before.fits.each read.fits.each (sym before.front ∙ read.front)) [
      | inl longer ↦ first_lacks spell Fits longer.more rest after (omega (arith, ap length longer.list, length-append items longer.more)) longer.fit longer.rest none
      | inr longer ↦ omega (arith, ap length longer.list, length-append others longer.more)
    ]

-- the number of items, and so many of them
pub counted_begin : {A : Type 0} (spell : A → List ℕ) (Fits : A → Type 0) (count : ℕ) (bytes rest after : List ℕ) (items : List A) → Begins word IsWord bytes count rest → Begins (flat_map spell) (AreMany Fits count) rest items after
    → Begins (counted spell) (AreFit Fits) bytes items after
counted_begin {A} spell Fits count bytes rest after items first more =
    let len = more.fits.len in
    let fits = first.fits in
    record {
      fits = (omega arith, more.fits.each);
      front = first.front ∙ ap (λ (t : List ℕ). word count ++ t) more.front ∙ ap (λ n. word n ++ (flat_map spell items ++ after)) (sym len) ∙ sym (append_assoc (word (length items)) (flat_map spell items) after);
    }

-- fewer items behind the number, no list
pub no_items : {A : Type 0} (spell : A → List ℕ) (Fits : A → Type 0) (count : ℕ) (bytes rest : List ℕ) → Begins word IsWord bytes count rest → NoneBegins (flat_map spell) (AreMany Fits count) rest → NoneBegins (counted spell) (AreFit Fits) bytes
no_items spell Fits count bytes rest first none items after read =
    let whole = sym first.front ∙ read.front ∙ append_assoc (word (length items)) (flat_map spell items) after in
    let same = word_front count (length items) rest (flat_map spell items ++ after) first.fits read.fits.0 whole in
    none items after (record { fits = record { len = sym same.0; each = read.fits.1 }; front = same.1 })

-- what is read behind a number of items
pub list_behind : {X E A : Type 0} (spell : A → List ℕ) (Fits : A → Type 0) (count : ℕ) (bytes rest : List ℕ) → Begins word IsWord bytes count rest → (answer : Result (Option X) E) (items_of : X → List A) (after : X → List ℕ)
    → IfOk answer (λ read. MatchOption read (NoneBegins (flat_map spell) (AreMany Fits count) rest) (λ x. Begins (flat_map spell) (AreMany Fits count) rest (items_of x) (after x)))
    → IfOk answer (λ read. MatchOption read (NoneBegins (counted spell) (AreFit Fits) bytes) (λ x. Begins (counted spell) (AreFit Fits) bytes (items_of x) (after x)))
list_behind spell Fits count bytes rest first (Ok (Some x)) items_of after h = counted_begin spell Fits count bytes rest (after x) (items_of x) first h
list_behind spell Fits count bytes rest first (Ok None) items_of after h = no_items spell Fits count bytes rest first h
list_behind spell Fits count bytes rest first (Err e) items_of after h = tt

-- fewer bytes than a text's length, no text
pub text_lacks : (len : ℕ) (bytes rest : List ℕ) → Begins word IsWord bytes len rest → length rest < len → NoneBegins text_bytes (λ text. IsCounted text) bytes
text_lacks len bytes rest first short text after read =
    let whole = sym first.front ∙ read.front ∙ append_assoc (word (length text)) text after in
    let same = word_front len (length text) rest (text ++ after) first.fits read.fits whole in
    omega (arith, ap length same.1, length-append text after)
