use Rattle.std.proofs.Common.{◌∷◌, ◌++◌, [], arith, sym, ◌∙◌}
use Rattle.std.proofs.lemmas.List.FromFn.{map-range_with_len_more}
use Rattle.grid_groups.specs.Sizes.{capped, producer_size}
use Rattle.grid_groups.proofs.Sums.{long_places, few_places}
use Rattle.grid_groups.proofs.sizes.producer_sizes.Goals as goal

pub loop-producer-preserved : goal.loop-producer-preserved
loop-producer-preserved c =
    c.in_ok-push.ensures.items
    ∙ (λ i. c.loop-producer.invariant i ++ (c.from.ensures ∙ c.producer_size.ensures) i ∷ [])
    ∙ sym (map-range_with_len_more (λ p. capped (producer_size c.args.grid.now p)) 0 c.loop-producer.producer c.loop-producer.producer (omega arith))

pub returns-clause-few : goal.returns-clause-few
returns-clause-few c =
    long_places (producer_size c.args.grid.now) c.loop-producer.producer c.args.grid.now.producers c.from_vec.result
    (c.from_vec.ensures ∙ c.loop-producer.invariant) (omega arith) (omega arith)

pub returns-clause-summable : goal.returns-clause-summable
returns-clause-summable c =
    few_places (producer_size c.args.grid.now) c.loop-producer.producer c.args.grid.now.producers c.from_vec.result
    (c.from_vec.ensures ∙ c.loop-producer.invariant) (omega arith) (omega arith)
