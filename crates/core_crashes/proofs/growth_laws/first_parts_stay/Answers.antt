use Rattle.core_crashes.proofs.Growing.{says_within_more, within_more}
use Rattle.core_crashes.proofs.growth_laws.first_parts_stay.Goals as goal

pub returns-clause-log : goal.returns-clause-log
returns-clause-log c = says_within_more

pub returns-clause-sound : goal.returns-clause-sound
returns-clause-sound c = within_more
