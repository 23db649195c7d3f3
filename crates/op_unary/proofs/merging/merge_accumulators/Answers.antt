use Rattle.std.proofs.Common.{◌≡◌, ◌++◌, ◌∷◌, [], List, map, sym, ap, subst, ◌∙◌, arith}
use Rattle.std.proofs.lemmas.List.{nil_from_length}
use Rattle.std.specs.Vec.Iter.{into_iter_items}
use Rattle.op_unary.specs.Accumulators.{accumulator_of}
use Rattle.op_unary.specs.declared.accumulator.Accumulator.{Accumulator}
use Rattle.op_unary.proofs.Merges.{Left, next_of, none_left}
use Rattle.op_unary.proofs.merging.merge_accumulators.Goals as goal

pub loop-accumulator-init : goal.loop-accumulator-init
loop-accumulator-init c = λ aggs rows more ours theirs. record {
  left = aggs;
  so_far = ap (λ (l : List Accumulator). l ++ map (accumulator_of (rows ++ more)) aggs) c.in_ok-all.ensures.items;
  first = (c.into_iter-accumulator-iterator.ensures.into_iter_gives).0 ∙ ours;
  second = c.into_iter-theirs.ensures.rest ∙ theirs;
}

pub loop-accumulator-preserved : goal.loop-accumulator-preserved
loop-accumulator-preserved c = λ aggs rows more ours theirs.
    let next = next_of aggs rows more c.loop-accumulator.all.items c.in-Some.accumulator (into_iter_items c.next.new.self) (into_iter_items c.loop-accumulator.accumulator-iterator) (into_iter_items c.loop-accumulator.theirs)
    (c.in-Some.ensures.steps).0 (c.loop-accumulator.invariant aggs rows more ours theirs) in
    let told = c.in_ok-merge_with_next.ensures next.next next.rest next.is in
    subst (λ (all : List Accumulator). Left aggs rows more all (into_iter_items c.next.new.self) (into_iter_items c.merge_with_next.new.others)) (sym c.in_ok-push.ensures.items)
    (subst (λ (rest : List Accumulator). Left aggs rows more (c.loop-accumulator.all.items ++ c.in_ok-merge_with_next.field-0 ∷ []) (into_iter_items c.next.new.self) rest) (sym told.1)
    (next.left c.in_ok-merge_with_next.field-0 told.0))

pub returns : goal.returns
returns c = λ aggs rows more ours theirs.
    let left = into_iter_items c.loop-accumulator.accumulator-iterator in
    let none : left ≡ [] = nil_from_length left (omega (arith, (c.in-None.ensures.steps).0, c.loop-accumulator.accumulator-iterator.rest.ok.0)) in
    none_left aggs rows more c.loop-accumulator.all.items left (into_iter_items c.loop-accumulator.theirs) none
    (c.loop-accumulator.invariant aggs rows more ours theirs)
