-- Where decoding stops: there is one place at most, and none in bytes that are events.
use Rattle.std.proofs.Common.{◌≡◌, ℕ, ◌+◌, List, [], ◌∷◌, ◌++◌, length, Result, Ok, Err, refl, sym, ap, ◌∙◌, append_assoc, arith, inl, inr}
use Rattle.std.specs.Prelude.{IfOk, IfErr}
use Rattle.std.proofs.lemmas.List.{append-nil, length-append}
use Rattle.graph_model.specs.declared.event.Event.{Event}
use Rattle.row_core.proofs.Laws.{IsLonger, lists_front}
use Rattle.event_codec.specs.declared.event_error.EventError.{EventError}
use Rattle.event_codec.specs.declared.event_error.EventError.TheVariants.{Bad, NoMemory}
use Rattle.event_codec.specs.Spelling.{event_bytes, events_bytes, EventFits, EventsFit}
use Rattle.event_codec.specs.Answers.{StopsAfter, IsCause, GivesEvents, GivesBad}
use Rattle.event_codec.proofs.Tags.{event_free, event_longer}

nothing_spelled : (events : List Event) (rest : List ℕ) → [] ≡ events_bytes events ++ rest → events ≡ []
nothing_spelled [] rest h = refl
nothing_spelled (event ∷ events) rest h = absurd (omega (arith, event_longer event (events_bytes events ++ rest), ap length (h ∙ append_assoc (event_bytes event) (events_bytes events) rest)))

no_more_events : (a b : List Event) (y : List ℕ) → IsLonger event_bytes EventFits a b [] y → a ≡ b
no_more_events a b y longer = sym (longer.list ∙ ap (λ (more : List Event). a ++ more) (nothing_spelled longer.more y longer.rest) ∙ append-nil a)

pub events_same : (a b : List Event) → EventsFit a → EventsFit b → events_bytes a ≡ events_bytes b → a ≡ b
events_same a b fit_a fit_b h =
    elim (lists_front event_bytes EventFits (record { front = event_free.front }) a b [] [] fit_a fit_b (append-nil (events_bytes a) ∙ h ∙ sym (append-nil (events_bytes b)))) [
      | inl longer ↦ no_more_events a b [] longer
      | inr longer ↦ sym (no_more_events b a [] longer)
    ]

-- where events stop, none go further
ended : (bytes : List ℕ) (before : List Event) (stop : StopsAfter bytes before) (more : List Event) (rest : List ℕ) → EventsFit more → stop.rest ≡ events_bytes more ++ rest → more ≡ []
ended bytes before stop [] rest fit h = refl
ended bytes before stop (event ∷ more) rest fit h = absurd (stop.none event (events_bytes more ++ rest) (record { fits = fit.0; front = h ∙ append_assoc (event_bytes event) (events_bytes more) rest }))

-- events that go further than those before a stop are these
stops_first : (bytes : List ℕ) (before : List Event) (stop : StopsAfter bytes before) (events : List Event) (rest : List ℕ) → IsLonger event_bytes EventFits before events stop.rest rest → before ≡ events
stops_first bytes before stop events rest longer = sym (longer.list ∙ ap (λ (more : List Event). before ++ more) (ended bytes before stop longer.more rest longer.fit longer.rest) ∙ append-nil before)

stops_last : (bytes : List ℕ) (before : List Event) (stop : StopsAfter bytes before) (events : List Event) (rest : List ℕ) → IsLonger event_bytes EventFits before events stop.rest rest → stop.rest ≡ rest
stops_last bytes before stop events rest longer = longer.rest ∙ ap (λ (more : List Event). events_bytes more ++ rest) (ended bytes before stop longer.more rest longer.fit longer.rest)

stops_not_whole : (bytes : List ℕ) (before : List Event) → StopsAfter bytes before → (events : List Event) → EventsFit events → bytes ≡ events_bytes events → ⊥
stops_not_whole bytes before stop events fit whole =
    let more = stop.more in
    elim (lists_front event_bytes EventFits (record { front = event_free.front }) before events stop.rest [] stop.fit fit (sym stop.front ∙ whole ∙ sym (append-nil (events_bytes events)))) [
      | inl longer ↦
          let nothing : length stop.rest ≡ 0 = ap length (stops_last bytes before stop events [] longer) in
          absurd (omega arith)
      | inr longer ↦
          let nothing : 0 ≡ length (events_bytes longer.more) + length stop.rest = ap length longer.rest ∙ length-append (events_bytes longer.more) stop.rest in
          absurd (omega arith)
    ]

stops_once : (bytes : List ℕ) (a b : List Event) → StopsAfter bytes a → StopsAfter bytes b → a ≡ b
stops_once bytes a b stop other =
    elim (lists_front event_bytes EventFits (record { front = event_free.front }) a b stop.rest other.rest stop.fit other.fit (sym stop.front ∙ other.front)) [
      | inl longer ↦ stops_first bytes a stop b other.rest longer
      | inr longer ↦ sym (stops_first bytes b other a stop.rest longer)
    ]

-- the events that were read are those that the bytes spell, and a refusal is where the events stop
pub only_events : (bytes : List ℕ) (answer : Result (List Event) EventError) → IfOk answer (λ events. EventsFit events × (bytes ≡ events_bytes events)) → IfErr answer (λ error. IsCause bytes error)
    → (events : List Event) → EventsFit events → bytes ≡ events_bytes events → GivesEvents answer events
only_events bytes (Ok read) found cause events fit whole = events_same read events found.0 fit (sym found.1 ∙ whole)
only_events bytes (Err NoMemory) found cause events fit whole = tt
only_events bytes (Err (Bad at before)) found cause events fit whole = stops_not_whole bytes before cause.0 events fit whole

pub only_stop : (bytes : List ℕ) (answer : Result (List Event) EventError) → IfOk answer (λ events. EventsFit events × (bytes ≡ events_bytes events)) → IfErr answer (λ error. IsCause bytes error)
    → (before : List Event) → StopsAfter bytes before → GivesBad answer before
only_stop bytes (Ok read) found cause before stop = stops_not_whole bytes before stop read found.0 found.1
only_stop bytes (Err NoMemory) found cause before stop = tt
only_stop bytes (Err (Bad at place)) found cause before stop =
    let same = stops_once bytes place before cause.0 stop in
    (same, cause.1 ∙ ap length same)
