-- Which events the bytes of a log say.
use Rattle.std.specs.Prelude.{◌≡◌, ℕ, List, [], ◌∷◌, ◌++◌}
use Rattle.event_log.specs.Blocks.{Reads}
use Rattle.graph_model.specs.declared.event.Event.{Event}
use Rattle.event_codec.specs.Spelling.{events_bytes, EventsFit}

-- the bodies spell these events, block after block
abbrev pub AreSpelled : List (List ℕ) → List Event → Type 0
AreSpelled [] events = events ≡ []
AreSpelled (body ∷ bodies) events =
    (first rest : List Event) × EventsFit first × (body ≡ events_bytes first)
    × (events ≡ first ++ rest) × AreSpelled bodies rest

-- the log's blocks spell these events
abbrev pub SaysEvents : List ℕ → List Event → Type 0
SaysEvents log events = (bodies : List (List ℕ)) × Reads log bodies × AreSpelled bodies events
