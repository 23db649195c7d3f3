use Rattle.volume_split.proofs.Smallest.{fewest_within}
use Rattle.volume_split.proofs.cutting.count.Goals as goal

pub returns-clause-fewest : goal.returns-clause-fewest
returns-clause-fewest c = λ runs is le. rw (c.count_runs.ensures, c.as_slice.ensures) (fewest_within c.args.limit runs c.args.sizes.now is le)
