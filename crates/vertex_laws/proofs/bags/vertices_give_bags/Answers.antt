use Rattle.bag_laws.proofs.Laws.{same_on}
use Rattle.rect_cover.specs.Vertices.{wholes}
use Rattle.vertex_laws.proofs.Together.{gives_bag}
use Rattle.vertex_laws.proofs.bags.vertices_give_bags.Goals as goal

pub returns : goal.returns
returns c = record {
  whole = λ files nodes widened max_parallelism vertex rows good is within hold. gives_bag nodes widened max_parallelism vertex good is within files rows hold;
  sum = λ files nodes widened max_parallelism vertex hash inputs subtasks good may is within shipped cover hold.
      same_on (c.vertices_are_sums.ensures nodes widened max_parallelism vertex hash inputs subtasks good may is within shipped cover)
      (gives_bag nodes widened max_parallelism vertex good is within files (wholes inputs) hold);
}
