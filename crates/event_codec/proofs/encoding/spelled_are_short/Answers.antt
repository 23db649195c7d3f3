use Rattle.event_codec.proofs.Short.{events_short}
use Rattle.event_codec.proofs.encoding.spelled_are_short.Goals as goal

pub returns : goal.returns
returns c = λ events fits. events_short events fits
