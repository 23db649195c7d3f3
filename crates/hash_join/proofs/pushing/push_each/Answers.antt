use Rattle.std.proofs.Common.{◌≡◌, ◌≤◌, ◌+◌, ℕ, Bool, ◌∷◌, ◌++◌, [], List, length, map, true, refl, sym, ap, subst, ◌∙◌}
use Rattle.std.specs.List.{AllByRecursion}
use Rattle.std.proofs.lemmas.List.{length-map, map-append}
use Rattle.hash_join.specs.Rules.{pair}
use Rattle.hash_join.proofs.Pairs.{next_taken, one_more}
use Rattle.row_collector.specs.Collecting.{Collects}
use Rattle.row_core.specs.Encoding.{ValueFits}
use Rattle.row_core.specs.Values.{width_limit}
use Rattle.row_steps.specs.Chained.{chained, ops_of, StepsFit}
use Rattle.row_steps.proofs.Laws.{collects_as, nothing_pushed, more_pushed}
use Rattle.row_view.specs.declared.value_ref.ValueRef.{ValueRef}
use Rattle.row_view.specs.Encoded.{RowOf}
use Rattle.row_view.specs.Views.{seen, row_seen, Takes}
use Rattle.hash_join.proofs.pushing.push_each.Goals as goal

pub loop-other-init : goal.loop-other-init
loop-other-init g c = (
  [],
  refl,
  refl,
  refl,
  nothing_pushed g.C.Collector.holds c.args.out.now (ops_of c.args.steps.now) (length c.args.row.now + c.args.probe.now.table.now.width) (g.C.Collector.width c.args.out.now) c.requires.steps,
)

pub push_pair-requires-clause-other : goal.push_pair-requires-clause-other
push_pair-requires-clause-other g c =
    let (done, had, width, kept, taken) = c.loop-other.invariant in
    let other = row_seen c.read_into.new.row.items in
    let wide = c.args.probe.now.table.now.width in
    let takes : Takes true c.loop-other.reader other c.read_into.new.self =
    subst (λ (b : Bool). Takes b c.loop-other.reader other c.read_into.new.self) c.if-branch.true c.in_ok-read_into.ensures.ok in
    let next : RowOf wide other = next_taken (RowOf wide) c.args.reader.now done c.loop-other.reader c.read_into.new.self other c.requires.wide had takes in
    subst (AllByRecursion ValueFits) (sym (ap row_seen c.as_slice.ensures.value)) next.fits.values

pub push_pair-requires-clause-narrow : goal.push_pair-requires-clause-narrow
push_pair-requires-clause-narrow g c =
    let (done, had, width, kept, taken) = c.loop-other.invariant in
    let other = row_seen c.read_into.new.row.items in
    let wide = c.args.probe.now.table.now.width in
    let takes : Takes true c.loop-other.reader other c.read_into.new.self =
    subst (λ (b : Bool). Takes b c.loop-other.reader other c.read_into.new.self) c.if-branch.true c.in_ok-read_into.ensures.ok in
    let next : RowOf wide other = next_taken (RowOf wide) c.args.reader.now done c.loop-other.reader c.read_into.new.self other c.requires.wide had takes in
    let long : length c.as_slice.result.now ≡ wide = ap length c.as_slice.ensures.value ∙ sym (length-map c.read_into.new.row.items seen) ∙ next.wide in
    subst (λ (n : ℕ). length c.args.row.now + n ≤ width_limit) (sym long) c.requires.narrow

pub push_pair-requires-clause-steps : goal.push_pair-requires-clause-steps
push_pair-requires-clause-steps g c =
    let (done, had, width, kept, taken) = c.loop-other.invariant in
    let other = row_seen c.read_into.new.row.items in
    let wide = c.args.probe.now.table.now.width in
    let ops = ops_of c.args.steps.now in
    let takes : Takes true c.loop-other.reader other c.read_into.new.self =
    subst (λ (b : Bool). Takes b c.loop-other.reader other c.read_into.new.self) c.if-branch.true c.in_ok-read_into.ensures.ok in
    let next : RowOf wide other = next_taken (RowOf wide) c.args.reader.now done c.loop-other.reader c.read_into.new.self other c.requires.wide had takes in
    let long : length c.as_slice.result.now ≡ wide = ap length c.as_slice.ensures.value ∙ sym (length-map c.read_into.new.row.items seen) ∙ next.wide in
    let last : StepsFit (length c.args.row.now + wide) ops (g.C.Collector.width c.loop-other.out) = subst (λ (n : ℕ). StepsFit (length c.args.row.now + wide) ops n) (sym width) c.requires.steps in
    subst (λ (n : ℕ). StepsFit (length c.args.row.now + n) ops (g.C.Collector.width c.loop-other.out)) (sym long) last

pub loop-other-preserved : goal.loop-other-preserved
loop-other-preserved g c =
    let (done, had, width, kept, taken) = c.loop-other.invariant in
    let other = row_seen c.read_into.new.row.items in
    let row = row_seen c.args.row.now in
    let side = c.side-side.result in
    let ops = ops_of c.args.steps.now in
    let holds = g.C.Collector.holds in
    let takes : Takes true c.loop-other.reader other c.read_into.new.self =
    subst (λ (b : Bool). Takes b c.loop-other.reader other c.read_into.new.self) c.if-branch.true c.in_ok-read_into.ensures.ok in
    let later : Collects holds c.loop-other.out c.push_pair.new.out (chained ops (pair side row other ∷ [])) =
    collects_as holds c.loop-other.out c.push_pair.new.out (chained ops (pair side row (row_seen c.as_slice.result.now) ∷ [])) (chained ops (pair side row other ∷ []))
    (ap (λ (items : List ValueRef). chained ops (pair side row (row_seen items) ∷ [])) c.as_slice.ensures.value) c.in_ok-push_pair.ensures.takes in
    let both = more_pushed holds c.args.out.now c.loop-other.out c.push_pair.new.out ops (length c.args.row.now + c.args.probe.now.table.now.width) (g.C.Collector.width c.args.out.now)
    (map (pair side row) done) (pair side row other ∷ []) c.requires.steps taken later in (
      done ++ other ∷ [],
      one_more c.args.reader.now done c.loop-other.reader c.read_into.new.self other had takes,
      c.push_pair.ensures.width ∙ width,
      c.push_pair.ensures.kept ∙ kept,
      collects_as holds c.args.out.now c.push_pair.new.out (chained ops (map (pair side row) done ++ pair side row other ∷ [])) (chained ops (map (pair side row) (done ++ other ∷ [])))
          (ap (chained ops) (sym (map-append (pair side row) done (other ∷ [])))) both,
    )
