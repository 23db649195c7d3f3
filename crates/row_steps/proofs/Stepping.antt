-- What a step hands on, and what the collector takes of it.
use Rattle.std.proofs.Common.{◌≡◌, ◌≤◌, ◌-◌, ◌++◌, ◌∷◌, [], ℕ, Bool, false, List, length, set, map, take, drop, get_or, sym, ap, subst, ◌∙◌, append_assoc, arith, take_all, if◌then◌else◌}
use Rattle.std.specs.Prelude.{All, Option, Some, None}
use Rattle.std.specs.List.{AllByRecursion}
use Rattle.std.proofs.lemmas.List.{map-set, set-set, length-set, length-map, append-nil}
use Rattle.std.proofs.lemmas.List.Elements.{recursion_from_All, All-from_recursion}
use denote.Ref.{Bor}
use Rattle.row_core.specs.declared.expr.Expr.{Expr}
use Rattle.row_core.specs.declared.pred.Pred.{Pred}
use Rattle.row_core.specs.declared.value.Value.{Value}
use Rattle.row_core.specs.declared.value.Value.TheVariants as whole
use Rattle.row_core.specs.Encoding.{RowFits, ValueFits}
use Rattle.row_core.specs.Exprs.{truth_of, is_yes, value_at}
use Rattle.row_core.specs.Values.{text_of}
use Rattle.bag_laws.specs.Rows.{OneRow as Row}
use Rattle.plan_model.specs.Operators.{projected, exploded, with_pieces, pieces}
use Rattle.plan_model.specs.declared.op.Op.{Op}
use Rattle.plan_model.specs.declared.op.Op.TheVariants.{Filter, Project, Explode}
use Rattle.operator_laws.specs.Texts.{ValuesFit}
use Rattle.operator_laws.proofs.Laws.{applied_fits}
use Rattle.row_collector.specs.Collecting.{Collects}
use Rattle.row_collector.proofs.Laws.{none_collected, both_collected}
use Rattle.row_steps.proofs.Chains.{chained_sum, chained_none}
use Rattle.row_steps.specs.Chained.{chained, ops_of, StepsFit}
use Rattle.row_steps.specs.Pieces.{pieces_left}
use Rattle.row_view.specs.declared.value_ref.ValueRef.{ValueRef}
use Rattle.row_view.specs.declared.value_ref.ValueRef.TheVariants.{Text}
use Rattle.row_view.specs.Views.{seen, row_seen}

-- rows that are the same rows
pub collects_as : {S : Type 0} (holds : S → List Row → Type 0) (old new : S) (batch given : List Row) → batch ≡ given → Collects holds old new batch → Collects holds old new given
collects_as holds old new batch given is taken = λ rows had. subst (λ (l : List Row). holds new (rows ++ l)) is (taken rows had)

-- nothing is taken of nothing
pub nothing_pushed : {S : Type 0} (holds : S → List Row → Type 0) (out : S) (ops : List Op) (width last : ℕ) → StepsFit width ops last → Collects holds out out (chained ops [])
nothing_pushed holds out ops width last fit = collects_as holds out out [] (chained ops []) (sym (chained_none ops width last fit)) (none_collected holds out)

-- more rows through the same steps
pub more_pushed : {S : Type 0} (holds : S → List Row → Type 0) (old middle new : S) (ops : List Op) (width last : ℕ) (rows more : List Row) → StepsFit width ops last
    → Collects holds old middle (chained ops rows) → Collects holds middle new (chained ops more) → Collects holds old new (chained ops (rows ++ more))
more_pushed holds old middle new ops width last rows more fit first later =
    collects_as holds old new (chained ops rows ++ chained ops more) (chained ops (rows ++ more)) (sym (chained_sum ops width last rows more fit))
    (both_collected holds old middle new (chained ops rows) (chained ops more) first later)

-- ---- the first of the steps

-- the steps behind the first, as slices say it
abbrev pub behind : List (Bor Op) → List (Bor Op)
behind steps = take (length steps - 1) (drop 1 steps)

pub first_step : (steps : List (Bor Op)) (step : Bor Op) → 1 ≤ length steps → step ≡ get_or steps 0 step → ops_of steps ≡ step.now ∷ ops_of (behind steps)
first_step [] step some is = absurd (omega arith)
first_step (first ∷ steps) step some is =
    let rest : take (length (first ∷ steps) - 1) steps ≡ steps = take_all (length (first ∷ steps) - 1) steps (omega arith) in
    (λ i. (sym is i).now ∷ ops_of (sym rest i))

-- a test that fails gives nothing
pub nothing_passes : (steps : List (Bor Op)) (step : Bor Op) (test : Pred) (row : Row) (width last : ℕ) → 1 ≤ length steps → step ≡ get_or steps 0 step → step.now ≡ Filter test
    → StepsFit width (ops_of steps) last → is_yes (truth_of row test) ≡ false → [] ≡ chained (ops_of steps) (row ∷ [])
nothing_passes steps step test row width last some is op fit failed =
    let split : ops_of steps ≡ Filter test ∷ ops_of (behind steps) = first_step steps step some is ∙ ap (λ (o : Op). o ∷ ops_of (behind steps)) op in
    let rest = subst (λ (ops : List Op). StepsFit width ops last) split fit in
    sym (ap (λ (ops : List Op). chained ops (row ∷ [])) split
    ∙ ap (λ (b : Bool). chained (ops_of (behind steps)) (if b then row ∷ [] else [])) failed
    ∙ chained_none (ops_of (behind steps)) width last rest.1)

-- what a projection gives fits the steps behind it
pub projected_fits : (steps : List (Bor Op)) (step : Bor Op) (exprs : List Expr) (row made : List ValueRef) (last : ℕ) → 1 ≤ length steps → step ≡ get_or steps 0 step → step.now ≡ Project exprs
    → RowFits (row_seen row) → StepsFit (length row) (ops_of steps) last → row_seen made ≡ map (value_at (row_seen row)) exprs
    → RowFits (row_seen made) × StepsFit (length made) (ops_of (behind steps)) last
projected_fits steps step exprs row made last some is op fits fit seen_is =
    let split : ops_of steps ≡ Project exprs ∷ ops_of (behind steps) = first_step steps step some is ∙ ap (λ (o : Op). o ∷ ops_of (behind steps)) op in
    let both = subst (λ (ops : List Op). StepsFit (length row) ops last) split fit in
    let wide : length made ≡ length exprs = sym (length-map made seen) ∙ ap length seen_is ∙ length-map exprs (value_at (row_seen row)) in
    let values : ValuesFit (projected exprs (row_seen row ∷ [])) = applied_fits (Project exprs) (row_seen row ∷ []) both.0.constants (All-from_recursion (AllByRecursion ValueFits) (row_seen row ∷ []) (fits.values, tt)) in
    let each = recursion_from_All (AllByRecursion ValueFits) (projected exprs (row_seen row ∷ [])) values in (
      subst RowFits (sym seen_is) (record { width = omega (arith, both.0.narrow, length-map exprs (value_at (row_seen row))); values = each.0 }),
      subst (λ (n : ℕ). StepsFit n (ops_of (behind steps)) last) (sym wide) both.1,
    )

-- ---- pieces

-- the row with a piece in a column
abbrev pub with_piece : Row → ℕ → List ℕ → Row
with_piece row column piece = set row column (whole.Text piece)

pub piece_seen : (row items : List ValueRef) (k : ℕ) (piece : Bor (List ℕ)) → row ≡ set items k (Text piece) → row_seen row ≡ set (row_seen items) k (whole.Text piece.now)
piece_seen row items k piece is = ap row_seen is ∙ map-set seen items k (Text piece)

pub set_again : (new old row : List Value) (k : ℕ) (value : Value) → new ≡ set old k value → ((v : Value) → set old k v ≡ set row k v) → (v : Value) → set new k v ≡ set row k v
set_again new old row k value is same v = ap (λ (l : List Value). set l k v) is ∙ set-set old k value v ∙ same v

in_middle : {X : Type 0} (P : X → Type 0) (done : List X) (item : X) (more : List X) → AllByRecursion P (done ++ item ∷ more) → P item
in_middle P [] item more all = all.0
in_middle P (first ∷ done) item more all = in_middle P done item more all.1

-- the piece that comes next is one of the pieces
pub is_piece : (P : List ℕ → Type 0) (every done more : List (List ℕ)) (piece : List ℕ) → All P every → every ≡ done ++ piece ∷ more → P piece
is_piece P every done more piece all is = in_middle P done piece more (subst (AllByRecursion P) is (recursion_from_All P every all))

-- the pieces done, the next, and those that are left
pub next_piece : (separator : ℕ) (every done : List (List ℕ)) (text piece : List ℕ) (after : Option (Bor (List ℕ))) → every ≡ done ++ pieces separator text → pieces separator text ≡ piece ∷ pieces_left separator after
    → every ≡ (done ++ piece ∷ []) ++ pieces_left separator after
next_piece separator every done text piece after had cut =
    had ∙ ap (λ (l : List (List ℕ)). done ++ l) cut ∙ sym (append_assoc done (piece ∷ []) (pieces_left separator after))

-- the column's text, cut
pub cut_at : (column separator : ℕ) (row : Row) (text : List ℕ) → text_of (get_or row column whole.Null) ≡ Some text → map (with_piece row column) (pieces separator text) ≡ exploded column separator (row ∷ [])
cut_at column separator row text is = sym (append-nil (map (with_piece row column) (pieces separator text))) ∙ ap (λ (shown : Option (List ℕ)). with_pieces column separator row shown ++ []) (sym is)

pub no_text : (column separator : ℕ) (row : Row) → text_of (get_or row column whole.Null) ≡ None → [] ≡ exploded column separator (row ∷ [])
no_text column separator row is = ap (λ (shown : Option (List ℕ)). with_pieces column separator row shown ++ []) (sym is)

unmapped : {X Y : Type 0} (P : Y → Type 0) (f : X → Y) (xs : List X) → AllByRecursion P (map f xs) → AllByRecursion (λ x. P (f x)) xs
unmapped P f [] all = tt
unmapped P f (x ∷ xs) all = (all.0, unmapped P f xs all.1)

with_width : (row : Row) (column : ℕ) (texts : List (List ℕ)) → RowFits row → AllByRecursion (λ piece. AllByRecursion ValueFits (with_piece row column piece)) texts → AllByRecursion (λ piece. RowFits (with_piece row column piece)) texts
with_width row column [] fits all = tt
with_width row column (text ∷ texts) fits all = (record { width = omega (arith, fits.width, length-set row column (whole.Text text)); values = all.0 }, with_width row column texts fits all.1)

-- the row with each piece can be encoded
pub pieces_fit : (column separator : ℕ) (row : Row) (text : List ℕ) → RowFits row → text_of (get_or row column whole.Null) ≡ Some text → All (λ piece. RowFits (with_piece row column piece)) (pieces separator text)
pieces_fit column separator row text fits is =
    let given : ValuesFit (exploded column separator (row ∷ [])) = applied_fits (Explode column separator) (row ∷ []) tt (All-from_recursion (AllByRecursion ValueFits) (row ∷ []) (fits.values, tt)) in
    let cut : AllByRecursion (AllByRecursion ValueFits) (map (with_piece row column) (pieces separator text)) =
    subst (AllByRecursion (AllByRecursion ValueFits)) (sym (cut_at column separator row text is)) (recursion_from_All (AllByRecursion ValueFits) (exploded column separator (row ∷ [])) given) in
    All-from_recursion (λ piece. RowFits (with_piece row column piece)) (pieces separator text)
    (with_width row column (pieces separator text) fits (unmapped (AllByRecursion ValueFits) (with_piece row column) (pieces separator text) cut))

-- ---- rows that are read one after another

-- the row that comes next is one of the rows
pub row_taken : (P : Row → Type 0) (rows done left after : List Row) (row : Row) → AllByRecursion P rows → rows ≡ done ++ left → left ≡ row ∷ after → P row
row_taken P rows done left after row all had is = in_middle P done row after (subst (AllByRecursion P) (had ∙ ap (λ (l : List Row). done ++ l) is) all)

pub one_more_taken : (rows done left after : List Row) (row : Row) → rows ≡ done ++ left → left ≡ row ∷ after → rows ≡ (done ++ row ∷ []) ++ after
one_more_taken rows done left after row had is = had ∙ ap (λ (l : List Row). done ++ l) is ∙ sym (append_assoc done (row ∷ []) after)
