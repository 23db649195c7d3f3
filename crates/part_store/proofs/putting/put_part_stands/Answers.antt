use Rattle.std.proofs.Common.{ap}
use Rattle.part_store.specs.Cells.{cell_in}
use Rattle.part_store.proofs.Stored.{own_edges, other_edges}
use Rattle.part_store.proofs.putting.put_part_stands.Goals as goal

pub returns-clause-own : goal.returns-clause-own
returns-clause-own c = λ part ever edge cell fresh. ap (λ edges. cell_in edges edge cell) (own_edges part ever fresh)

pub returns-clause-others : goal.returns-clause-others
returns-clause-others c = λ part ever name edge cell apart. ap (λ edges. cell_in edges edge cell) (other_edges part ever name apart)
