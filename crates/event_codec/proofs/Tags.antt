-- Events by their tags: no spelling begins another's, and each tag has its fields.
use Rattle.std.specs.Prelude.{⊤}
use Rattle.std.proofs.Common.{◌≡◌, ℕ, ◌<◌, List, ◌∷◌, ◌++◌, length, ap, arith}
use Rattle.std.proofs.lemmas.List.{length-append}
use Rattle.estate.specs.declared.part_name.PartName.{PartName}
use Rattle.plan_model.specs.declared.side.Side.{Side}
use Rattle.rect_cover.specs.declared.rect.Rect.{Rect}
use Rattle.graph_model.specs.declared.cause.Cause.TheVariants.{Gate, Lost}
use Rattle.graph_model.specs.declared.event.Event.{Event}
use Rattle.graph_model.specs.declared.event.Event.TheVariants.{Opened, Started, Made, Widened, Decided, Done, Reset, Trouble, Ended}
use Rattle.graph_model.specs.declared.sub.Sub.{Sub}
use Rattle.row_core.specs.Decoding.{NoneBegins}
use Rattle.event_codec.specs.Spelling.{word, long, IsWord, IsLong, counted, IsCounted, AreFit, text_bytes, name_bytes, NameFits, sub_bytes, SubFits, rect_bytes, RectFits, side_bytes, flag_bytes, cause_bytes, CauseFits, event_bytes, EventFits}
use Rattle.event_codec.specs.Reading.{IsPrefixFree, both, BothFit}
use Rattle.event_codec.specs.Fronts.{rest_of, both_free, counted_free, word_free, name_free, sub_free, sizes_free, assignment_free, text_free, side_free, flag_free, cause_free}

event_front : (a b : Event) (x y : List ℕ) → EventFits a → EventFits b → event_bytes a ++ x ≡ event_bytes b ++ y → (a ≡ b) × (x ≡ y)
event_front (Opened epoch) (Opened epoch') x y fits_a fits_b h =
    let parts = word_free.front epoch epoch' x y fits_a fits_b (rest_of 1 1 _ _ h) in
    (ap Opened parts.0, parts.1)
event_front (Opened epoch) b x y fits_a fits_b h = absurd cc
event_front (Started job files) (Started job' files') x y fits_a fits_b h =
    let parts = (both_free text_bytes (λ text. IsCounted text) (counted (counted long)) (AreFit (AreFit IsLong)) text_free sizes_free).front (job, files) (job', files') x y fits_a fits_b (rest_of 2 2 _ _ h) in
    (ap (λ (p : List ℕ × List (List ℕ)). Started p.0 p.1) parts.0, parts.1)
event_front (Started job files) b x y fits_a fits_b h = absurd cc
event_front (Made vertex nodes) (Made vertex' nodes') x y fits_a fits_b h =
    let parts = (both_free word IsWord (counted word) (AreFit IsWord) word_free (counted_free word IsWord word_free)).front (vertex, nodes) (vertex', nodes') x y fits_a fits_b (rest_of 3 3 _ _ h) in
    (ap (λ (p : ℕ × List ℕ). Made p.0 p.1) parts.0, parts.1)
event_front (Made vertex nodes) b x y fits_a fits_b h = absurd cc
event_front (Widened node side) (Widened node' side') x y fits_a fits_b h =
    let parts = (both_free word IsWord side_bytes (λ side. ⊤) word_free side_free).front (node, side) (node', side') x y (fits_a, tt) (fits_b, tt) (rest_of 4 4 _ _ h) in
    (ap (λ (p : ℕ × Side). Widened p.0 p.1) parts.0, parts.1)
event_front (Widened node side) b x y fits_a fits_b h = absurd cc
event_front (Decided vertex assignment) (Decided vertex' assignment') x y fits_a fits_b h =
    let parts = (both_free word IsWord (counted (counted (counted rect_bytes))) (AreFit (AreFit (AreFit RectFits))) word_free assignment_free).front (vertex, assignment) (vertex', assignment') x y fits_a fits_b (rest_of 5 5 _ _ h) in
    (ap (λ (p : ℕ × List (List (List Rect))). Decided p.0 p.1) parts.0, parts.1)
event_front (Decided vertex assignment) b x y fits_a fits_b h = absurd cc
event_front (Done name inputs sizes) (Done name' inputs' sizes') x y fits_a fits_b h =
    let parts = (both_free (both name_bytes (counted name_bytes)) (BothFit NameFits (AreFit NameFits)) (counted (counted long)) (AreFit (AreFit IsLong)) (both_free name_bytes NameFits (counted name_bytes) (AreFit NameFits) name_free (counted_free name_bytes NameFits name_free)) sizes_free).front ((name, inputs), sizes) ((name', inputs'), sizes') x y ((fits_a.0, fits_a.1), fits_a.2) ((fits_b.0, fits_b.1), fits_b.2) (rest_of 6 6 _ _ h) in
    (ap (λ (p : (PartName × List PartName) × List (List ℕ)). Done p.0.0 p.0.1 p.1) parts.0, parts.1)
event_front (Done name inputs sizes) b x y fits_a fits_b h = absurd cc
event_front (Reset gone subtasks) (Reset gone' subtasks') x y fits_a fits_b h =
    let parts = (both_free (counted name_bytes) (AreFit NameFits) (counted sub_bytes) (AreFit SubFits) (counted_free name_bytes NameFits name_free) (counted_free sub_bytes SubFits sub_free)).front (gone, subtasks) (gone', subtasks') x y fits_a fits_b (rest_of 7 7 _ _ h) in
    (ap (λ (p : List PartName × List Sub). Reset p.0 p.1) parts.0, parts.1)
event_front (Reset gone subtasks) b x y fits_a fits_b h = absurd cc
event_front (Trouble cause) (Trouble cause') x y fits_a fits_b h =
    let parts = cause_free.front cause cause' x y fits_a fits_b (rest_of 8 8 _ _ h) in
    (ap Trouble parts.0, parts.1)
event_front (Trouble cause) b x y fits_a fits_b h = absurd cc
event_front (Ended failed) (Ended failed') x y fits_a fits_b h =
    let parts = flag_free.front failed failed' x y fits_a fits_b (rest_of 9 9 _ _ h) in
    (ap Ended parts.0, parts.1)
event_front (Ended failed) b x y fits_a fits_b h = absurd cc

pub event_free : IsPrefixFree event_bytes EventFits
event_free = record { front = event_front }

-- an event's spelling has a byte at least
pub event_longer : (event : Event) (rest : List ℕ) → length rest < length (event_bytes event ++ rest)
event_longer (Opened epoch) rest = omega (arith, length-append (word epoch) rest)
event_longer (Started job files) rest = omega (arith, length-append (both text_bytes (counted (counted long)) (job, files)) rest)
event_longer (Made vertex nodes) rest = omega (arith, length-append (both word (counted word) (vertex, nodes)) rest)
event_longer (Widened node side) rest = omega (arith, length-append (both word side_bytes (node, side)) rest)
event_longer (Decided vertex assignment) rest = omega (arith, length-append (both word (counted (counted (counted rect_bytes))) (vertex, assignment)) rest)
event_longer (Done name inputs sizes) rest = omega (arith, length-append (both (both name_bytes (counted name_bytes)) (counted (counted long)) ((name, inputs), sizes)) rest)
event_longer (Reset gone subtasks) rest = omega (arith, length-append (both (counted name_bytes) (counted sub_bytes) (gone, subtasks)) rest)
event_longer (Trouble cause) rest = omega (arith, length-append (cause_bytes cause) rest)
event_longer (Ended failed) rest = omega (arith, length-append (flag_bytes failed) rest)

-- behind a tag come its fields

pub started_lacks : (bytes : List ℕ) → NoneBegins (both text_bytes (counted (counted long))) (BothFit (λ text. IsCounted text) (AreFit (AreFit IsLong))) bytes → NoneBegins event_bytes EventFits (2 ∷ bytes)
started_lacks bytes none (Started job files) rest read = none (job, files) rest (record { fits = read.fits; front = rest_of 2 2 _ _ read.front })
started_lacks bytes none event rest read = absurd cc

pub made_lacks : (bytes : List ℕ) → NoneBegins (both word (counted word)) (BothFit IsWord (AreFit IsWord)) bytes → NoneBegins event_bytes EventFits (3 ∷ bytes)
made_lacks bytes none (Made vertex nodes) rest read = none (vertex, nodes) rest (record { fits = read.fits; front = rest_of 3 3 _ _ read.front })
made_lacks bytes none event rest read = absurd cc

pub widened_lacks : (bytes : List ℕ) → NoneBegins (both word side_bytes) (BothFit IsWord (λ side. ⊤)) bytes → NoneBegins event_bytes EventFits (4 ∷ bytes)
widened_lacks bytes none (Widened node side) rest read = none (node, side) rest (record { fits = (read.fits, tt); front = rest_of 4 4 _ _ read.front })
widened_lacks bytes none event rest read = absurd cc

pub decided_lacks : (bytes : List ℕ) → NoneBegins (both word (counted (counted (counted rect_bytes)))) (BothFit IsWord (AreFit (AreFit (AreFit RectFits)))) bytes → NoneBegins event_bytes EventFits (5 ∷ bytes)
decided_lacks bytes none (Decided vertex assignment) rest read = none (vertex, assignment) rest (record { fits = read.fits; front = rest_of 5 5 _ _ read.front })
decided_lacks bytes none event rest read = absurd cc

pub done_lacks : (bytes : List ℕ) → NoneBegins (both (both name_bytes (counted name_bytes)) (counted (counted long))) (BothFit (BothFit NameFits (AreFit NameFits)) (AreFit (AreFit IsLong))) bytes → NoneBegins event_bytes EventFits (6 ∷ bytes)
done_lacks bytes none (Done name inputs sizes) rest read = none ((name, inputs), sizes) rest (record { fits = ((read.fits.0, read.fits.1), read.fits.2); front = rest_of 6 6 _ _ read.front })
done_lacks bytes none event rest read = absurd cc

pub reset_lacks : (bytes : List ℕ) → NoneBegins (both (counted name_bytes) (counted sub_bytes)) (BothFit (AreFit NameFits) (AreFit SubFits)) bytes → NoneBegins event_bytes EventFits (7 ∷ bytes)
reset_lacks bytes none (Reset gone subtasks) rest read = none (gone, subtasks) rest (record { fits = read.fits; front = rest_of 7 7 _ _ read.front })
reset_lacks bytes none event rest read = absurd cc

pub gate_lacks : (bytes : List ℕ) → NoneBegins (both name_bytes word) (BothFit NameFits IsWord) bytes → NoneBegins cause_bytes CauseFits (0 ∷ bytes)
gate_lacks bytes none (Gate name code) rest read = none (name, code) rest (record { fits = read.fits; front = rest_of 0 0 _ _ read.front })
gate_lacks bytes none (Lost name) rest read = absurd cc
