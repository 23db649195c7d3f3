use Rattle.vertex_laws.proofs.Placed.{HeadLaws}
use Rattle.vertex_laws.proofs.Together.{ChainLaws, sums}
use Rattle.vertex_laws.proofs.sums.vertices_are_sums.Goals as goal

pub returns : goal.returns
returns c nodes widened max_parallelism vertex hash inputs subtasks good may is within shipped cover =
    let laws : HeadLaws = record {
      aggregates = c.heads_go_by_bags.ensures.aggregate;
      distincts = c.heads_go_by_bags.ensures.distinct;
      joins = c.heads_go_by_bags.ensures.join;
      keyed = c.hash_columns.ensures.aggregate;
      meeting = c.column_law.ensures.meets;
      joined = c.hash_columns.ensures.join;
    } in
    let chains : ChainLaws = record {
      built = c.links_go_by_bags.ensures;
      chains = c.vertices_go_by_bags.ensures.chains;
    } in
    sums nodes widened max_parallelism vertex good is within c.vertex_law.ensures c.joins_are_heads.ensures laws chains may hash inputs subtasks shipped cover
