-- What has a spelling is short.
use Rattle.std.specs.Prelude.{IfOk}
use Rattle.std.proofs.Common.{◌≡◌, ℕ, List, [], ◌∷◌, Result, Ok, Err}
use Rattle.std.specs.List.{AllByRecursion}
use Rattle.rect_cover.specs.declared.rect.Rect.{Rect}
use Rattle.graph_model.specs.declared.event.Event.{Event}
use Rattle.graph_model.specs.declared.event.Event.TheVariants.{Opened, Started, Made, Widened, Decided, Done, Reset, Trouble, Ended}
use Rattle.event_codec.specs.declared.event_error.EventError.{EventError}
use Rattle.event_codec.specs.Spelling.{events_bytes, IsLong, IsCounted, AreFit, RectFits, EventFits, EventsFit, IsShort, AreShort}

each : {A : Type 0} (P Q : A → Type 0) → ((item : A) → P item → Q item) → (items : List A) → AllByRecursion P items → AllByRecursion Q items
each P Q weaker [] all = tt
each P Q weaker (item ∷ items) all = (weaker item all.0, each P Q weaker items all.1)

sizes_short : (lists : List (List ℕ)) → AreFit (AreFit IsLong) lists → AreFit (λ sizes. IsCounted sizes) lists
sizes_short lists fits = (fits.0, each (AreFit IsLong) (λ sizes. IsCounted sizes) (λ sizes fit. fit.0) lists fits.1)

subtask_short : (subtask : List (List Rect)) → AreFit (AreFit RectFits) subtask → AreFit (λ rects. IsCounted rects) subtask
subtask_short subtask fits = (fits.0, each (AreFit RectFits) (λ rects. IsCounted rects) (λ rects fit. fit.0) subtask fits.1)

event_short : (event : Event) → EventFits event → IsShort event
event_short (Opened epoch) fits = tt
event_short (Started job files) fits = (fits.0, sizes_short files fits.1)
event_short (Made vertex nodes) fits = fits.1.0
event_short (Widened node side) fits = tt
event_short (Decided vertex assignment) fits = (fits.1.0, each (AreFit (AreFit RectFits)) (AreFit (λ rects. IsCounted rects)) subtask_short assignment fits.1.1)
event_short (Done name inputs sizes) fits = (fits.1.0, sizes_short sizes fits.2)
event_short (Reset gone subtasks) fits = (fits.0.0, fits.1.0)
event_short (Trouble cause) fits = tt
event_short (Ended failed) fits = tt

pub events_short : (events : List Event) → EventsFit events → AreShort events
events_short events fits = each EventFits IsShort event_short events fits

pub decoded_short : (bytes : List ℕ) (answer : Result (List Event) EventError) → IfOk answer (λ events. EventsFit events × (bytes ≡ events_bytes events)) → IfOk answer (λ events. AreShort events)
decoded_short bytes (Ok events) found = events_short events found.0
decoded_short bytes (Err error) found = tt
