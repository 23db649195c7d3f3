use Rattle.std.proofs.Common.{◌≡◌, ℕ, Bool, ◌∷◌, ◌++◌, [], List, length, true, refl, sym, ap, subst, ◌∙◌}
use Rattle.std.proofs.lemmas.List.{length-map}
use Rattle.row_core.specs.Encoding.{RowFits}
use Rattle.row_collector.specs.Collecting.{Collects}
use Rattle.row_steps.specs.Chained.{chained, ops_of, StepsFit}
use Rattle.row_steps.proofs.Stepping.{collects_as, nothing_pushed, more_pushed, row_taken, one_more_taken}
use Rattle.row_view.specs.declared.value_ref.ValueRef.{ValueRef}
use Rattle.row_view.specs.Encoded.{RowOf}
use Rattle.row_view.specs.Views.{seen, row_seen, Takes}
use Rattle.row_steps.proofs.batches.push_rows.Goals as goal

pub loop-row-init : goal.loop-row-init
loop-row-init g c = (
  [],
  sym c.reader-reader.ensures,
  refl,
  refl,
  nothing_pushed g.C.Collector.holds c.args.out.now (ops_of c.args.steps.now) c.requires.width (g.C.Collector.width c.args.out.now) c.requires.steps,
)

pub push_row-requires-clause-row : goal.push_row-requires-clause-row
push_row-requires-clause-row g c =
    let (done, had, width, kept, taken) = c.loop-row.invariant in
    let row = row_seen c.read_into.new.row.items in
    let takes : Takes true c.loop-row.reader row c.read_into.new.self =
    subst (λ (b : Bool). Takes b c.loop-row.reader row c.read_into.new.self) c.if-branch.true c.in_ok-read_into.ensures.ok in
    let next : RowOf c.requires.width row = row_taken (RowOf c.requires.width) c.args.rows.now done c.loop-row.reader c.read_into.new.self row c.requires.fit had takes in
    subst RowFits (sym (ap row_seen c.as_slice.ensures.value)) next.fits

pub push_row-requires-clause-steps : goal.push_row-requires-clause-steps
push_row-requires-clause-steps g c =
    let (done, had, width, kept, taken) = c.loop-row.invariant in
    let row = row_seen c.read_into.new.row.items in
    let ops = ops_of c.args.steps.now in
    let takes : Takes true c.loop-row.reader row c.read_into.new.self =
    subst (λ (b : Bool). Takes b c.loop-row.reader row c.read_into.new.self) c.if-branch.true c.in_ok-read_into.ensures.ok in
    let next : RowOf c.requires.width row = row_taken (RowOf c.requires.width) c.args.rows.now done c.loop-row.reader c.read_into.new.self row c.requires.fit had takes in
    let long : length c.as_slice.result.now ≡ c.requires.width = ap length c.as_slice.ensures.value ∙ sym (length-map c.read_into.new.row.items seen) ∙ next.wide in
    let last : StepsFit c.requires.width ops (g.C.Collector.width c.loop-row.out) = subst (λ (n : ℕ). StepsFit c.requires.width ops n) (sym width) c.requires.steps in
    subst (λ (n : ℕ). StepsFit n ops (g.C.Collector.width c.loop-row.out)) (sym long) last

pub loop-row-preserved : goal.loop-row-preserved
loop-row-preserved g c =
    let (done, had, width, kept, taken) = c.loop-row.invariant in
    let row = row_seen c.read_into.new.row.items in
    let ops = ops_of c.args.steps.now in
    let holds = g.C.Collector.holds in
    let takes : Takes true c.loop-row.reader row c.read_into.new.self =
    subst (λ (b : Bool). Takes b c.loop-row.reader row c.read_into.new.self) c.if-branch.true c.in_ok-read_into.ensures.ok in
    let later : Collects holds c.loop-row.out c.push_row.new.out (chained ops (row ∷ [])) =
    collects_as holds c.loop-row.out c.push_row.new.out (chained ops (row_seen c.as_slice.result.now ∷ [])) (chained ops (row ∷ []))
    (ap (λ (items : List ValueRef). chained ops (row_seen items ∷ [])) c.as_slice.ensures.value) c.in_ok-push_row.ensures.takes in (
      done ++ row ∷ [],
      one_more_taken c.args.rows.now done c.loop-row.reader c.read_into.new.self row had takes,
      c.push_row.ensures.width ∙ width,
      c.push_row.ensures.kept ∙ kept,
      more_pushed holds c.args.out.now c.loop-row.out c.push_row.new.out ops c.requires.width (g.C.Collector.width c.args.out.now) done (row ∷ []) c.requires.steps taken later,
    )
