use Rattle.plan_composition.proofs.Truth.{winners_true}
use Rattle.plan_composition.proofs.results.winners_are_true.Goals as goal

pub returns : goal.returns
returns c given stored events run = winners_true given stored events run.accepted run.legal run.true_parts
