use Rattle.bag_laws.proofs.Counts.{SameBag-append}
use Rattle.bag_laws.proofs.Alike.{append_swap}
use Rattle.bag_laws.proofs.lists.concatenations.Goals as goal

pub returns-clause-same : goal.returns-clause-same
returns-clause-same c = λ rows others more further first second. SameBag-append rows more others further first second

pub returns-clause-swapped : goal.returns-clause-swapped
returns-clause-swapped c = λ rows others. append_swap rows others
