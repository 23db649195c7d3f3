use Rattle.event_codec.proofs.Stops.{events_same}
use Rattle.event_codec.proofs.Tags.{event_free}
use Rattle.event_codec.proofs.decoding.one_spelling.Goals as goal

pub returns-clause-events : goal.returns-clause-events
returns-clause-events c = λ a b fit_a fit_b same. events_same a b fit_a fit_b same

pub returns-clause-event : goal.returns-clause-event
returns-clause-event c = λ a b x y fit_a fit_b same. event_free.front a b x y fit_a fit_b same
