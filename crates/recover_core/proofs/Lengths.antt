-- How many bytes a reset has.
use Rattle.std.proofs.Common.{◌≡◌, ℕ, ◌+◌, ◌*◌, List, [], ◌∷◌, ◌++◌, length, refl, ap, arith, length-append}
use Rattle.std.specs.List.{flat_map}
use Rattle.std.proofs.lemmas.List.Concat.{flat_map-cons}
use Rattle.estate.specs.declared.part_name.PartName.{PartName}
use Rattle.event_codec.specs.Spelling.{counted, event_bytes, events_bytes, name_bytes, sub_bytes, word}
use Rattle.graph_model.specs.declared.event.Event.TheVariants.{Opened, Reset}
use Rattle.graph_model.specs.declared.event.Event.{Event}
use Rattle.graph_model.specs.declared.sub.Sub.{Sub}

word_length : (n : ℕ) → length (word n) ≡ 4
unfolding word
word_length n = refl

name_length : (name : PartName) → length (name_bytes name) ≡ 16
name_length name = omega (
  arith,
  length-append (word name.vertex ++ word name.subtask ++ word name.epoch) (word name.attempt),
  length-append (word name.vertex ++ word name.subtask) (word name.epoch),
  length-append (word name.vertex) (word name.subtask),
  word_length name.vertex,
  word_length name.subtask,
  word_length name.epoch,
  word_length name.attempt,
)

sub_length : (sub : Sub) → length (sub_bytes sub) ≡ 8
sub_length sub = omega (arith, length-append (word sub.vertex) (word sub.subtask), word_length sub.vertex, word_length sub.subtask)

items_length : {A : Type 0} (spell : A → List ℕ) (size : ℕ) → ((item : A) → length (spell item) ≡ size) → (items : List A) → length (flat_map spell items) ≡ size * length items
items_length spell size each [] = omega arith
items_length spell size each (item ∷ items) =
    let more = items_length spell size each items in
    omega (arith, ap length (flat_map-cons spell item items), length-append (spell item) (flat_map spell items), each item, more)

counted_length : {A : Type 0} (spell : A → List ℕ) (size : ℕ) → ((item : A) → length (spell item) ≡ size) → (items : List A) → length (counted spell items) ≡ 4 + size * length items
counted_length spell size each items = omega (arith, length-append (word (length items)) (flat_map spell items), word_length (length items), items_length spell size each items)

pub reset_length : (gone : List PartName) (subs : List Sub) → length (event_bytes (Reset gone subs)) ≡ 9 + 16 * length gone + 8 * length subs
reset_length gone subs = omega (arith, length-append (counted name_bytes gone) (counted sub_bytes subs), counted_length name_bytes 16 name_length gone, counted_length sub_bytes 8 sub_length subs)

-- behind an event that opens an epoch
pub opened_length : (epoch : ℕ) (event : Event) → length (events_bytes (Opened epoch ∷ event ∷ [])) ≡ 5 + length (event_bytes event)
opened_length epoch event = omega (
  arith,
  ap length (flat_map-cons event_bytes (Opened epoch) (event ∷ [])),
  length-append (event_bytes (Opened epoch)) (flat_map event_bytes (event ∷ [])),
  ap length (flat_map-cons event_bytes event []),
  length-append (event_bytes event) (flat_map event_bytes []),
  word_length epoch,
)
