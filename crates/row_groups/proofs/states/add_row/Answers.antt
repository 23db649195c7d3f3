use Rattle.std.proofs.Common.{◌≡◌, ◌<◌, ◌++◌, ◌∷◌, [], List, length, get_or, set, sym, ap, ◌∙◌, arith}
use Rattle.std.proofs.lemmas.List.{length-map, length-set}
use Rattle.plan_model.specs.declared.agg.Agg.TheVariants.{Count}
use Rattle.row_groups.specs.Accumulators.{accumulator_of, with_value}
use Rattle.row_groups.specs.declared.accumulator.Accumulator.{Accumulator}
use Rattle.row_groups.proofs.Accumulating.{accumulator_more, all_done, at_place, one_done}
use Rattle.row_view.specs.Views.{row_seen}
use Rattle.row_groups.proofs.states.add_row.Goals as goal

pub loop-place-preserved : goal.loop-place-preserved
loop-place-preserved c =
    let (long, told) = c.loop-place.invariant in
    let aggs = c.args.aggs.now in
    let row = row_seen c.args.row.now in
    let items = c.loop-place.states.items in
    let place = c.loop-place.place in
    let was = c.index_mut.result.now in
    let agg = get_or aggs place Count in
    let in_aggs : place < length aggs = omega arith in (
      length-set items place c.add_value.new.state ∙ long,
      λ rows had.
          let f = accumulator_of (rows ++ row ∷ []) in
          let g = accumulator_of rows in
          let old : was ≡ g agg =
          c.index_mut.ensures.value ∙ ap (λ (l : List Accumulator). get_or l place was) (told rows had) ∙ at_place f g aggs place Count was in_aggs in
          let new : c.add_value.new.state ≡ f agg =
          c.in_ok-add_value.ensures ∙ (λ i. with_value (old i) (c.input_of.ensures i)) ∙ sym (accumulator_more rows row agg) in
          (λ i. set (told rows had i) place (new i)) ∙ one_done f g aggs place Count in_aggs,
    )

pub returns : goal.returns
returns c = λ rows had.
    let (long, told) = c.loop-place.invariant in
    let aggs = c.args.aggs.now in
    let same = ap length had ∙ length-map aggs (accumulator_of rows) in
    told rows had ∙ all_done (accumulator_of (rows ++ row_seen c.args.row.now ∷ [])) (accumulator_of rows) aggs c.loop-place.place (omega (arith, same))
