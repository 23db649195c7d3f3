use Rattle.std.proofs.Common.{rules, ◌≡◌, ◌∷◌, ◌++◌, [], List, ℕ, Bor, Option, Some, None, length, map, set, get_or, refl, sym, ap, subst, ◌∙◌}
use Rattle.std.specs.Option.{option_map}
use Rattle.std.proofs.lemmas.List.{length-map, length-set, map-append}
use Rattle.row_core.specs.declared.value.Value.{Value}
use Rattle.row_core.specs.declared.value.Value.TheVariants as whole
use Rattle.row_core.specs.Encoding.{RowFits}
use Rattle.row_core.specs.Exprs.{value_at}
use Rattle.row_core.specs.Values.{text_of}
use Rattle.bag_laws.specs.Rows.{OneRow as Row}
use Rattle.plan_model.specs.Operators.{exploded, pieces}
use Rattle.row_collector.specs.Collecting.{Collects}
use Rattle.row_collector.proofs.Laws.{none_collected}
use Rattle.row_steps.specs.Chained.{chained, ops_of, StepsFit}
use Rattle.row_steps.specs.Pieces.{pieces_left}
use Rattle.row_steps.specs.Shown.{shown_bytes}
use Rattle.row_steps.proofs.Stepping.{collects_as, nothing_pushed, more_pushed, behind, nothing_passes, projected_fits, with_piece, piece_seen, set_again, is_piece, next_piece, no_text, pieces_fit}
use Rattle.row_view.specs.declared.value_ref.ValueRef.TheVariants.{Text}
use Rattle.row_view.specs.Operands.{operand_seen}
use Rattle.row_view.specs.Views.{seen, row_seen}
use Rattle.row_steps.proofs.steps.+push.Goals as goal

pub push_exploded-push_pieces-requires : goal.push_exploded-push_pieces-requires
push_exploded-push_pieces-requires g t c κs within =
    let row = row_seen c.args.row.now in
    let is : text_of (get_or row c.args.column whole.Null) ≡ Some c.as_slice.result.now =
    ap text_of (sym c.value_in-value.ensures) ∙ sym c.in_ok-shown.ensures ∙ ap (option_map shown_bytes) c.in-Some.is ∙ ap (λ (text : List ℕ). Some text) (sym c.as_slice.ensures) in
    let each = pieces_fit c.args.column c.args.separator row c.as_slice.result.now c.requires.row is in
    search rules

pub push_exploded-returns-in-None-clause-takes : goal.push_exploded-returns-in-None-clause-takes
push_exploded-returns-in-None-clause-takes g t c =
    let row = row_seen c.args.row.now in
    let ops = ops_of c.args.steps.now in
    let is : text_of (get_or row c.args.column whole.Null) ≡ None =
    ap text_of (sym c.value_in-value.ensures) ∙ sym c.in_ok-shown.ensures ∙ ap (option_map shown_bytes) c.in-None.is in
    collects_as g.C.Collector.holds c.args.out.now c.args.out.now (chained ops []) (chained ops (exploded c.args.column c.args.separator (row ∷ []))) (ap (chained ops) (no_text c.args.column c.args.separator row is))
    (nothing_pushed g.C.Collector.holds c.args.out.now ops (length c.args.row.now) (g.C.Collector.width c.args.out.now) c.requires.steps)

pub push_pieces-loop-rest-init : goal.push_pieces-loop-rest-init
push_pieces-loop-rest-init g t c =
    let same : row_seen c.in_ok-with_piece.with_piece.items ≡ row_seen c.args.row.now = c.in_ok-with_piece.ensures in (
      [],
      refl,
      sym (length-map c.in_ok-with_piece.with_piece.items seen) ∙ ap length same ∙ length-map c.args.row.now seen,
      λ value. ap (λ (l : List Value). set l c.args.column value) same,
      refl,
      refl,
      nothing_pushed g.C.Collector.holds c.args.out.now (ops_of c.args.steps.now) (length c.args.row.now) (g.C.Collector.width c.args.out.now) c.requires.steps,
    )

pub push_pieces-push_row-requires : goal.push_pieces-push_row-requires
push_pieces-push_row-requires g t c κs within =
    let (done, had, wide, same, width, kept, taken) = c.loop-rest.invariant in
    let row = row_seen c.args.row.now in
    let ops = ops_of c.args.steps.now in
    let piece = c.first_piece.result.0 in
    let left = pieces_left c.args.separator c.first_piece.result.1 in
    let here : pieces c.args.separator c.args.text.now ≡ done ++ piece.now ∷ left =
    had ∙ ap (λ (rest : Option (Bor (List ℕ))). done ++ pieces_left c.args.separator rest) c.in-Some.is ∙ ap (λ (l : List (List ℕ)). done ++ l) c.first_piece.ensures.pieces in
    let seen_is : row_seen c.as_slice.result.now ≡ set row c.args.column (whole.Text piece.now) =
    piece_seen c.as_slice.result.now c.loop-rest.with_piece.items c.args.column piece c.as_slice.ensures.value ∙ same (whole.Text piece.now) in
    let fits : RowFits (row_seen c.as_slice.result.now) =
    subst RowFits (sym seen_is) (is_piece (λ text. RowFits (with_piece row c.args.column text)) (pieces c.args.separator c.args.text.now) done left piece.now c.requires.pieces here) in
    let long : length c.as_slice.result.now ≡ length c.args.row.now = ap length c.as_slice.ensures.value ∙ length-set c.loop-rest.with_piece.items c.args.column (Text piece) ∙ wide in
    let last : StepsFit (length c.args.row.now) ops (g.C.Collector.width c.loop-rest.out) = subst (λ (n : ℕ). StepsFit (length c.args.row.now) ops n) (sym width) c.requires.steps in
    let steps : StepsFit (length c.as_slice.result.now) ops (g.C.Collector.width c.loop-rest.out) = subst (λ (n : ℕ). StepsFit n ops (g.C.Collector.width c.loop-rest.out)) (sym long) last in
    search rules

pub push_pieces-loop-rest-preserved : goal.push_pieces-loop-rest-preserved
push_pieces-loop-rest-preserved g t c =
    let (done, had, wide, same, width, kept, taken) = c.loop-rest.invariant in
    let row = row_seen c.args.row.now in
    let ops = ops_of c.args.steps.now in
    let holds = g.C.Collector.holds in
    let piece = c.first_piece.result.0 in
    let items = c.loop-rest.with_piece.items in
    let put = set items c.args.column (Text piece) in
    let every : pieces c.args.separator c.args.text.now ≡ done ++ pieces c.args.separator c.in-Some.text.now =
    had ∙ ap (λ (rest : Option (Bor (List ℕ))). done ++ pieces_left c.args.separator rest) c.in-Some.is in
    let seen_is : row_seen c.as_slice.result.now ≡ with_piece row c.args.column piece.now =
    piece_seen c.as_slice.result.now items c.args.column piece c.as_slice.ensures.value ∙ same (whole.Text piece.now) in
    let later : Collects holds c.loop-rest.out c.push_row.new.out (chained ops (with_piece row c.args.column piece.now ∷ [])) =
    collects_as holds c.loop-rest.out c.push_row.new.out (chained ops (row_seen c.as_slice.result.now ∷ [])) (chained ops (with_piece row c.args.column piece.now ∷ []))
    (ap (λ (r : Row). chained ops (r ∷ [])) seen_is) c.in_ok-push_row.ensures.takes in
    let both = more_pushed holds c.args.out.now c.loop-rest.out c.push_row.new.out ops (length c.args.row.now) (g.C.Collector.width c.args.out.now)
    (map (with_piece row c.args.column) done) (with_piece row c.args.column piece.now ∷ []) c.requires.steps taken later in (
      done ++ piece.now ∷ [],
      next_piece c.args.separator (pieces c.args.separator c.args.text.now) done c.in-Some.text.now piece.now c.first_piece.result.1 every c.first_piece.ensures.pieces,
      length-set items c.args.column (Text piece) ∙ wide,
      set_again (row_seen put) (row_seen items) row c.args.column (whole.Text piece.now) (piece_seen put items c.args.column piece refl) same,
      c.push_row.ensures.width ∙ width,
      c.push_row.ensures.kept ∙ kept,
      collects_as holds c.args.out.now c.push_row.new.out
          (chained ops (map (with_piece row c.args.column) done ++ with_piece row c.args.column piece.now ∷ []))
          (chained ops (map (with_piece row c.args.column) (done ++ piece.now ∷ [])))
          (ap (chained ops) (sym (map-append (with_piece row c.args.column) done (piece.now ∷ [])))) both,
    )

pub push_row-push_row-requires-in-Project : goal.push_row-push_row-requires-in-Project
push_row-push_row-requires-in-Project g t c κs within =
    let row = row_seen c.args.row.now in
    let made = c.as_slice-in-Project-2.result.now in
    let exprs : c.as_slice.result.now ≡ c.in-Project.exprs = cc (c.as_slice.ensures, c.in-Project.exprs-is) in
    let seen_is : row_seen made ≡ map (value_at row) c.in-Project.exprs =
    ap row_seen c.as_slice-in-Project-2.ensures.value ∙ c.in_ok-values-in-Project.ensures ∙ ap (map operand_seen) c.as_slice-in-Project.ensures.value
    ∙ c.in_ok-operands-in-Project.ensures ∙ ap (map (value_at row)) exprs in
    let both = projected_fits c.args.steps.now c.step-item.result c.in-Project.exprs c.args.row.now made (g.C.Collector.width c.args.out.now)
    c.in-len1-up.len_at_least c.step-item.is c.in-Project.is c.requires.row c.requires.steps seen_is in
    let fits : RowFits (row_seen made) = both.0 in
    let more : StepsFit (length made) (ops_of (behind c.args.steps.now)) (g.C.Collector.width c.args.out.now) = both.1 in
    search rules

pub push_row-returns-then-not-passes-clause-takes : goal.push_row-returns-then-not-passes-clause-takes
push_row-returns-then-not-passes-clause-takes g t c =
    let row = row_seen c.args.row.now in
    collects_as g.C.Collector.holds c.args.out.now c.args.out.now [] (chained (ops_of c.args.steps.now) (row ∷ []))
    (nothing_passes c.args.steps.now c.step-item.result c.in-Filter.test row (length c.args.row.now) (g.C.Collector.width c.args.out.now)
    c.in-len1-up.len_at_least c.step-item.is c.in-Filter.is c.requires.steps (sym c.in_ok-passes-in-Filter.ensures ∙ c.if-not-passes.true))
    (none_collected g.C.Collector.holds c.args.out.now)
