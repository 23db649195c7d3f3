-- The one spelling of each event in bytes. Numbers are big endian.
use Rattle.std.specs.Prelude.{ℕ, ◌<◌, ◌^◌, ⊤, Bool, true, false, List, [], ◌∷◌, ◌++◌, length}
use Rattle.std.specs.List.{flat_map, AllByRecursion}
use Rattle.std.specs.Int.{w32, w64, to_be_bytes}
use Rattle.estate.specs.declared.part_name.PartName.{PartName}
use Rattle.plan_model.specs.declared.side.Side.{Side}
use Rattle.plan_model.specs.declared.side.Side.TheVariants.{Left, Right}
use Rattle.rect_cover.specs.declared.rect.Rect.{Rect}
use Rattle.graph_model.specs.declared.cause.Cause.{Cause}
use Rattle.graph_model.specs.declared.cause.Cause.TheVariants.{Gate, Lost}
use Rattle.graph_model.specs.declared.event.Event.{Event}
use Rattle.graph_model.specs.declared.event.Event.TheVariants.{Opened, Started, Made, Widened, Decided, Done, Reset, Trouble, Ended}
use Rattle.graph_model.specs.declared.sub.Sub.{Sub}

-- ---- bytes

-- a number of four bytes, and one of eight
unfoldable pub word : ℕ → List ℕ
word n = to_be_bytes w32 n

unfoldable pub long : ℕ → List ℕ
long n = to_be_bytes w64 n

-- the number of items, and one item after another
abbrev pub counted : {A : Type 0} → (A → List ℕ) → List A → List ℕ
counted spell items = word (length items) ++ flat_map spell items

-- a length, and the text's bytes
abbrev pub text_bytes : List ℕ → List ℕ
text_bytes text = word (length text) ++ text

abbrev pub name_bytes : PartName → List ℕ
name_bytes name = word name.vertex ++ word name.subtask ++ word name.epoch ++ word name.attempt

abbrev pub sub_bytes : Sub → List ℕ
sub_bytes sub = word sub.vertex ++ word sub.subtask

abbrev pub rect_bytes : Rect → List ℕ
rect_bytes rect = word rect.p0 ++ word rect.p1 ++ word rect.s0 ++ word rect.s1

abbrev pub side_bytes : Side → List ℕ
side_bytes Left = 0 ∷ []
side_bytes Right = 1 ∷ []

abbrev pub flag_bytes : Bool → List ℕ
flag_bytes false = 0 ∷ []
flag_bytes true = 1 ∷ []

abbrev pub cause_bytes : Cause → List ℕ
cause_bytes (Gate name code) = 0 ∷ name_bytes name ++ word code
cause_bytes (Lost name) = 1 ∷ name_bytes name

-- a tag, and the fields
abbrev pub event_bytes : Event → List ℕ
event_bytes (Opened epoch) = 1 ∷ word epoch
event_bytes (Started job files) = 2 ∷ text_bytes job ++ counted (counted long) files
event_bytes (Made vertex nodes) = 3 ∷ word vertex ++ counted word nodes
event_bytes (Widened node side) = 4 ∷ word node ++ side_bytes side
event_bytes (Decided vertex assignment) =
    5 ∷ word vertex ++ counted (counted (counted rect_bytes)) assignment
event_bytes (Done name inputs sizes) =
    6 ∷ name_bytes name ++ counted name_bytes inputs ++ counted (counted long) sizes
event_bytes (Reset gone subtasks) = 7 ∷ counted name_bytes gone ++ counted sub_bytes subtasks
event_bytes (Trouble cause) = 8 ∷ cause_bytes cause
event_bytes (Ended failed) = 9 ∷ flag_bytes failed

-- one event after another
abbrev pub events_bytes : List Event → List ℕ
events_bytes events = flat_map event_bytes events

-- ---- what has a spelling

abbrev pub IsWord : ℕ → Type 0
IsWord n = n < 2 ^ 32

abbrev pub IsLong : ℕ → Type 0
IsLong n = n < 2 ^ 64

-- a word says how many items there are
abbrev pub IsCounted : {A : Type 0} → List A → Type 0
IsCounted items = IsWord (length items)

-- so many items that a word counts them, each of which fits
abbrev pub AreFit : {A : Type 0} → (A → Type 0) → List A → Type 0
AreFit Fits items = IsCounted items × AllByRecursion Fits items

abbrev pub NameFits : PartName → Type 0
NameFits name = IsWord name.vertex × IsWord name.subtask × IsWord name.epoch × IsWord name.attempt

abbrev pub SubFits : Sub → Type 0
SubFits sub = IsWord sub.vertex × IsWord sub.subtask

abbrev pub RectFits : Rect → Type 0
RectFits rect = IsWord rect.p0 × IsWord rect.p1 × IsWord rect.s0 × IsWord rect.s1

abbrev pub CauseFits : Cause → Type 0
CauseFits (Gate name code) = NameFits name × IsWord code
CauseFits (Lost name) = NameFits name

abbrev pub EventFits : Event → Type 0
EventFits (Opened epoch) = IsWord epoch
EventFits (Started job files) = IsCounted job × AreFit (AreFit IsLong) files
EventFits (Made vertex nodes) = IsWord vertex × AreFit IsWord nodes
EventFits (Widened node side) = IsWord node
EventFits (Decided vertex assignment) =
    IsWord vertex × AreFit (AreFit (AreFit RectFits)) assignment
EventFits (Done name inputs sizes) =
    NameFits name × AreFit NameFits inputs × AreFit (AreFit IsLong) sizes
EventFits (Reset gone subtasks) = AreFit NameFits gone × AreFit SubFits subtasks
EventFits (Trouble cause) = CauseFits cause
EventFits (Ended failed) = ⊤

abbrev pub EventsFit : List Event → Type 0
EventsFit events = AllByRecursion EventFits events

-- its lists and texts are so short that a word counts them
abbrev pub IsShort : Event → Type 0
IsShort (Opened epoch) = ⊤
IsShort (Started job files) = IsCounted job × AreFit (λ sizes. IsCounted sizes) files
IsShort (Made vertex nodes) = IsCounted nodes
IsShort (Widened node side) = ⊤
IsShort (Decided vertex assignment) = AreFit (AreFit (λ rects. IsCounted rects)) assignment
IsShort (Done name inputs sizes) = IsCounted inputs × AreFit (λ cells. IsCounted cells) sizes
IsShort (Reset gone subtasks) = IsCounted gone × IsCounted subtasks
IsShort (Trouble cause) = ⊤
IsShort (Ended failed) = ⊤

abbrev pub AreShort : List Event → Type 0
AreShort events = AllByRecursion IsShort events
