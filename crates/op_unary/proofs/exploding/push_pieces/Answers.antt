use Rattle.std.proofs.Common.{◌++◌, Bor, List, ℕ, map, set, rules, tests, eqb, ap, ◌∙◌}
use Rattle.std.proofs.lemmas.Iterator.Consumers.{YieldsList-end}
use Rattle.std.proofs.lemmas.Iterator.Splits.{YieldsList-from_slice_split}
use Rattle.std.specs.Slice.Iter.{split_rest, split_done, split_callee}
use Rattle.row_core.specs.declared.value.Value.TheVariants.{Text}
use Rattle.bag_laws.specs.Rows.{OneRow as Row}
use Rattle.op_unary.proofs.Pieces.{split_is, map_map}
use Rattle.op_unary.proofs.exploding.push_pieces.Goals as goal

pub returns : goal.returns
returns c =
    let gives = c.into_iter-piece-iterator.ensures.into_iter_gives in
    let done = YieldsList-end (YieldsList-from_slice_split _ (λ (byte : ℕ). eqb byte c.args.separator) c.args.text.now
    ((λ i. split_rest (gives i)) ∙ c.split-piece-items.ensures.rest) ((λ i. split_done (gives i)) ∙ c.split-piece-items.ensures.done) ((λ i. split_callee (gives i)) ∙ c.split-piece-items.ensures.closure)
    (λ x b q k. search (rules, tests)))
    c.loop-piece.yielded _ c.loop-piece.yielded_by _ _ c.in-None.is c.next.ensures.steps in
    c.loop-piece.invariant
    ∙ ap (λ (rows : List Row). c.args.out.now ++ rows)
    (map_map (λ (piece : Bor (List ℕ)). piece.now) (λ (piece : List ℕ). set c.args.row.now c.args.column (Text piece)) c.loop-piece.yielded
    ∙ ap (map (λ (piece : List ℕ). set c.args.row.now c.args.column (Text piece))) (done.0 ∙ split_is c.args.separator c.args.text.now))
