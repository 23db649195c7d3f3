-- What lacks the last part of a pair is no pair; what is no four words is no name.
use Rattle.std.proofs.Common.{ℕ, List, ◌++◌, sym, ◌∙◌, append_assoc}
use Rattle.row_core.specs.Decoding.{Begins, NoneBegins}
use Rattle.event_codec.specs.Spelling.{name_bytes, NameFits, sub_bytes, SubFits, rect_bytes, RectFits}
use Rattle.event_codec.specs.Reading.{IsPrefixFree, both, BothFit}
use Rattle.event_codec.specs.Fronts.{two, AreTwo, four, AreFour}

-- no second part behind the first, no pair
pub no_second : {A B : Type 0} (spell_a : A → List ℕ) (Fits_a : A → Type 0) (spell_b : B → List ℕ) (Fits_b : B → Type 0) → IsPrefixFree spell_a Fits_a → (bytes rest : List ℕ) (a : A)
    → Begins spell_a Fits_a bytes a rest → NoneBegins spell_b Fits_b rest → NoneBegins (both spell_a spell_b) (BothFit Fits_a Fits_b) bytes
no_second spell_a Fits_a spell_b Fits_b free bytes rest a first none (c, d) after read =
    let whole = sym first.front ∙ read.front ∙ append_assoc (spell_a c) (spell_b d) after in
    let same = free.front a c rest (spell_b d ++ after) first.fits read.fits.0 whole in
    none d after (record { fits = read.fits.1; front = same.1 })

pub name_lacks : (bytes : List ℕ) → NoneBegins four AreFour bytes → NoneBegins name_bytes NameFits bytes
name_lacks bytes none name rest read = none (((name.vertex, name.subtask), name.epoch), name.attempt) rest (record { fits = (((read.fits.0, read.fits.1), read.fits.2), read.fits.3); front = read.front })

pub rect_lacks : (bytes : List ℕ) → NoneBegins four AreFour bytes → NoneBegins rect_bytes RectFits bytes
rect_lacks bytes none rect rest read = none (((rect.p0, rect.p1), rect.s0), rect.s1) rest (record { fits = (((read.fits.0, read.fits.1), read.fits.2), read.fits.3); front = read.front })

pub sub_lacks : (bytes : List ℕ) → NoneBegins two AreTwo bytes → NoneBegins sub_bytes SubFits bytes
sub_lacks bytes none sub rest read = none (sub.vertex, sub.subtask) rest (record { fits = read.fits; front = read.front })
