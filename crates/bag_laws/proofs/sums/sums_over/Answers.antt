use Rattle.bag_laws.proofs.Alike.{same_each, flat_map-split, flat_map-joined, flat_map-swap}
use Rattle.bag_laws.proofs.sums.sums_over.Goals as goal

pub returns-clause-same : goal.returns-clause-same
returns-clause-same g c = λ given also items each. same_each given also items each

pub returns-clause-both : goal.returns-clause-both
returns-clause-both g c = λ given more items. flat_map-split given more items

pub returns-clause-rows : goal.returns-clause-rows
returns-clause-rows g c = λ given made items. flat_map-joined made given items

pub returns-clause-exchanged : goal.returns-clause-exchanged
returns-clause-exchanged g c = λ given items others. flat_map-swap given items others
