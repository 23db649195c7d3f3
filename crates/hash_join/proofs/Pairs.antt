-- Rows that are made of two, and pushed.
use Rattle.std.proofs.Common.{◌≡◌, ◌≤◌, ◌<◌, ◌+◌, ℕ, zero, suc, List, [], ◌∷◌, ◌++◌, length, map, refl, sym, ap, subst, ◌∙◌, arith, length-append, append_assoc}
use Rattle.std.specs.List.{AllByRecursion}
use Rattle.std.proofs.lemmas.List.{append-nil}
use Rattle.std.proofs.lemmas.List.Concat.{flat_map-append}
use Rattle.row_core.proofs.Laws.{rows_same}
use Rattle.row_core.specs.Encoding.{rows_bytes, RowFits, RowsFit, ValueFits}
use Rattle.row_core.specs.Values.{width_limit}
use Rattle.bag_laws.specs.Rows.{OneRow as Row}
use Rattle.plan_model.specs.Joins.{nulls, or_padded, if_matched, if_unmatched}
use Rattle.plan_model.specs.declared.op.Op.{Op}
use Rattle.plan_model.specs.declared.side.Side.{Side}
use Rattle.plan_model.specs.declared.side.Side.TheVariants.{Left, Right}
use Rattle.row_collector.specs.Collecting.{Collects}
use Rattle.row_steps.specs.Chained.{chained, StepsFit}
use Rattle.row_steps.proofs.Laws.{collects_as, nothing_pushed}
use Rattle.row_set.proofs.Laws.{rows_fit}
use Rattle.row_view.specs.Encoded.{RowOf, Spells}
use Rattle.hash_join.specs.Joined.{probe_gives, row_gives}
use Rattle.hash_join.specs.Rules.{pair}
use Rattle.hash_join.specs.declared.probing.Probe.{Probe}

-- ---- two rows as one

pub pair_long : (side : Side) (row other : Row) → length (pair side row other) ≡ length row + length other
pair_long Left row other = length-append row other
pair_long Right row other = omega (arith, length-append other row)

both_fit : (row other : Row) → AllByRecursion ValueFits row → AllByRecursion ValueFits other → AllByRecursion ValueFits (row ++ other)
both_fit [] other fit more = more
both_fit (value ∷ row) other fit more = (fit.0, both_fit row other fit.1 more)

pub pair_fits : (side : Side) (row other : Row) → AllByRecursion ValueFits row → AllByRecursion ValueFits other → length row + length other ≤ width_limit → RowFits (pair side row other)
pair_fits Left row other fit more narrow = record { width = omega (arith, length-append row other, narrow); values = both_fit row other fit more }
pair_fits Right row other fit more narrow = record { width = omega (arith, length-append other row, narrow); values = both_fit other row more fit }

pub nulls_fit : (width : ℕ) → AllByRecursion ValueFits (nulls width)
nulls_fit zero = tt
nulls_fit (suc width) = (tt, nulls_fit width)

-- ---- rows that bytes spell

pub one_spelling : (width : ℕ) (bytes : List ℕ) (rows read : List Row) → Spells width bytes rows → RowsFit read → bytes ≡ rows_bytes read → rows ≡ read
one_spelling width bytes rows read spelled fit is = rows_same rows read (rows_fit width rows spelled.0) fit (sym spelled.1 ∙ is)

pub read_wide : (width : ℕ) (bytes : List ℕ) (rows read : List Row) → Spells width bytes rows → RowsFit read → bytes ≡ rows_bytes read → AllByRecursion (RowOf width) read
read_wide width bytes rows read spelled fit is = subst (AllByRecursion (RowOf width)) (one_spelling width bytes rows read spelled fit is) spelled.0

-- ---- probe rows

pub gives_more : (probe : Probe) (built rows : List Row) (row : Row) → probe_gives probe built (rows ++ row ∷ []) ≡ probe_gives probe built rows ++ row_gives probe built row
gives_more probe built rows row =
    flat_map-append (row_gives probe built) rows (row ∷ []) ∙ ap (λ (l : List Row). probe_gives probe built rows ++ l) (append-nil (row_gives probe built row))

-- ---- rows of which nothing comes

pub nothing_given : {S : Type 0} (holds : S → List Row → Type 0) (out : S) (ops : List Op) (width last : ℕ) (given : List Row) → StepsFit width ops last → given ≡ [] → Collects holds out out (chained ops given)
nothing_given holds out ops width last given fit none =
    collects_as holds out out (chained ops []) (chained ops given) (ap (chained ops) (sym none)) (nothing_pushed holds out ops width last fit)

pub none_unmatched : (row : Row) (rows : List Row) → 0 < length rows → if_unmatched row rows ≡ []
none_unmatched row [] some = absurd (omega arith)
none_unmatched row (first ∷ rows) some = refl

pub one_matched : (row : Row) (rows : List Row) → 0 < length rows → if_matched row rows ≡ row ∷ []
one_matched row [] some = absurd (omega arith)
one_matched row (first ∷ rows) some = refl

pub none_padded : (padded : Row) (f : Row → Row) (rows : List Row) → 0 < length rows → or_padded padded (map f rows) ≡ map f rows
none_padded padded f [] some = absurd (omega arith)
none_padded padded f (first ∷ rows) some = refl

-- ---- rows that are read one after another

-- the row that comes next is one of the rows
pub next_taken : (P : Row → Type 0) (rows done left after : List Row) (row : Row) → AllByRecursion P rows → rows ≡ done ++ left → left ≡ row ∷ after → P row
next_taken P rows done left after row all had is = in_middle done (subst (AllByRecursion P) (had ∙ ap (λ (l : List Row). done ++ l) is) all)
  where
    in_middle : (done : List Row) → AllByRecursion P (done ++ row ∷ after) → P row
    in_middle [] all = all.0
    in_middle (first ∷ done) all = in_middle done all.1

pub one_more : (rows done left after : List Row) (row : Row) → rows ≡ done ++ left → left ≡ row ∷ after → rows ≡ (done ++ row ∷ []) ++ after
one_more rows done left after row had is = had ∙ ap (λ (l : List Row). done ++ l) is ∙ sym (append_assoc done (row ∷ []) after)
