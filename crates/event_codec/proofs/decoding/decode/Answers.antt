use Rattle.std.proofs.Common.{ℕ, List, sym, subst, ◌∙◌}
use Rattle.event_codec.specs.Answers.{StopsAfter}
use Rattle.event_codec.proofs.Short.{decoded_short}
use Rattle.event_codec.proofs.Stops.{only_events, only_stop}
use Rattle.event_codec.proofs.decoding.decode.Goals as goal

pub returns-clause-only : goal.returns-clause-only
returns-clause-only c = λ events fit whole. only_events c.as_slice.result.now c.read_events.result c.read_events.ensures.found c.read_events.ensures.cause events fit (c.as_slice.ensures ∙ whole)

pub returns-clause-stops : goal.returns-clause-stops
returns-clause-stops c = λ before stop.
    let P : List ℕ → Type 0 = λ bytes. StopsAfter bytes before in
    only_stop c.as_slice.result.now c.read_events.result c.read_events.ensures.found c.read_events.ensures.cause before (subst P (sym c.as_slice.ensures) stop)

pub returns-clause-short : goal.returns-clause-short
returns-clause-short c = decoded_short c.as_slice.result.now c.read_events.result c.read_events.ensures.found
