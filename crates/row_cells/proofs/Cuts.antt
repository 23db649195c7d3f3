-- A row more in one of the cells.
use Rattle.std.proofs.Common.{◌≡◌, ◌<◌, ◌≤◌, ◌+◌, ◌%◌, ◌++◌, ℕ, zero, suc, Bool, true, false, List, [], ◌∷◌, length, get_or, set, replicate, IsTrue, refl, sym, ap, subst, ◌∙◌, append_assoc, arith, add-one, if◌then◌else◌}
use Rattle.std.specs.Prelude.{nat_eq, All, ◌==◌, cond}
use Rattle.std.specs.List.{AllByRecursion, range_with_len, sum_by}
use Rattle.std.proofs.lemmas.Bool.{eqb-true, eqb-false}
use Rattle.std.proofs.lemmas.List.{length-append, length-set, length-replicate, append-nil, get_or-set_same, get_or-set_other, get_or-replicate}
use Rattle.std.proofs.lemmas.List.Concat.{flat_map-append}
use Rattle.std.proofs.lemmas.List.Elements.{All-append, All-from_recursion}
use Rattle.std.proofs.lemmas.List.Sums.{sum_by_push}
use Rattle.std.proofs.Math.Nat.{mod-add-mod}
use Rattle.row_core.specs.Bags.{SameBag}
use Rattle.row_core.specs.Encoding.{row_bytes, rows_bytes}
use Rattle.bag_laws.specs.Rows.{OneRow as Row}
use Rattle.bag_laws.proofs.Laws.{same_refl, same_on, SameBag-append, append_swap}
use Rattle.plan_model.specs.declared.ship.Ship.{Ship}
use Rattle.plan_model.specs.declared.ship.Ship.TheVariants.{Forward, Hash, Rebalance, Broadcast}
use Rattle.rect_cover.specs.Cells.{gathered}
use Rattle.row_view.specs.Encoded.{RowOf, Spells}
use Rattle.task_parts.specs.Tasks.{GoesBy, dealt, hash_cell}
use Rattle.vertex_builder.specs.declared.vertex_output.VertexOutput.{VertexOutput}
use Rattle.row_cells.specs.Cutting.{ships_to, place_of, IsCutInto}

-- the cells with this row at the end of one of them
abbrev with_row : (ℕ → List Row) → ℕ → Row → ℕ → List Row
with_row cells place row cell = if nat_eq cell place then cells cell ++ row ∷ [] else cells cell

-- ---- the sum of the cells

same_before : (cells : ℕ → List Row) (place : ℕ) (row : Row) (n : ℕ) → n ≤ place → gathered n (with_row cells place row) ≡ gathered n cells
same_before cells place row zero le = refl
same_before cells place row (suc n) le = by (nat_eq n place) refl (same_before cells place row n (omega arith))
  where
    by : (b : Bool) → nat_eq n place ≡ b → gathered n (with_row cells place row) ≡ gathered n cells
        → gathered n (with_row cells place row) ++ (if b then cells n ++ row ∷ [] else cells n) ≡ gathered n cells ++ cells n
    by true e before = absurd (omega (arith, eqb-true n place e))
    by false e before = ap (λ (rows : List Row). rows ++ cells n) before

-- of three lists the last may come before the one in the middle
moved : (xs ys zs : List Row) → SameBag ((xs ++ ys) ++ zs) ((xs ++ zs) ++ ys)
moved xs ys zs =
    subst (λ (l : List Row). SameBag ((xs ++ ys) ++ zs) l) (sym (append_assoc xs zs ys))
    (subst (λ (l : List Row). SameBag l (xs ++ (zs ++ ys))) (sym (append_assoc xs ys zs))
    (SameBag-append xs (ys ++ zs) xs (zs ++ ys) (same_refl xs) (append_swap ys zs)))

sum_more : (cells : ℕ → List Row) (place : ℕ) (row : Row) (n : ℕ) → place < n → SameBag (gathered n (with_row cells place row)) (gathered n cells ++ row ∷ [])
sum_more cells place row zero lt = absurd (omega arith)
sum_more cells place row (suc n) lt = by (nat_eq n place) refl (sum_more cells place row n)
  where
    by : (b : Bool) → nat_eq n place ≡ b → (place < n → SameBag (gathered n (with_row cells place row)) (gathered n cells ++ row ∷ []))
        → SameBag (gathered n (with_row cells place row) ++ (if b then cells n ++ row ∷ [] else cells n)) ((gathered n cells ++ cells n) ++ row ∷ [])
    by true e before =
        let here : n ≡ place = eqb-true n place e in
        let same : gathered n (with_row cells place row) ≡ gathered n cells = same_before cells place row n (omega (arith, here)) in
        subst (λ (l : List Row). SameBag (l ++ (cells n ++ row ∷ [])) ((gathered n cells ++ cells n) ++ row ∷ [])) (sym same)
        (subst (λ (l : List Row). SameBag (gathered n cells ++ (cells n ++ row ∷ [])) l) (sym (append_assoc (gathered n cells) (cells n) (row ∷ []))) (same_refl (gathered n cells ++ (cells n ++ row ∷ []))))
    by false e before =
        let other : n ≡ place → ⊥ = eqb-false n place e in
        let apart : place < n = omega (arith, other) in
        same_on (SameBag-append (gathered n (with_row cells place row)) (cells n) (gathered n cells ++ row ∷ []) (cells n) (before apart) (same_refl (cells n)))
        (moved (gathered n cells) (row ∷ []) (cells n))

-- ---- which cell a row goes to

range_more : (a n : ℕ) → range_with_len a (suc n) ≡ range_with_len a n ++ (a + n) ∷ []
range_more a zero = let same : a ≡ a + zero = omega arith in ap (λ (k : ℕ). k ∷ []) same
range_more a (suc n) =
    let same : (a + 1) + n ≡ a + suc n = omega arith in
    ap (λ (l : List ℕ). a ∷ l) (range_more (a + 1) n ∙ ap (λ (k : ℕ). range_with_len (a + 1) n ++ k ∷ []) same)

dealt_more : (attempt count n cell : ℕ) → dealt attempt count (suc n) cell ≡ dealt attempt count n cell + cond ((n + attempt) % count == cell) 1 0
dealt_more attempt count n cell =
    let f = λ (j : ℕ). cond ((j + attempt) % count == cell) 1 0 in
    let one : 0 + n ≡ n = omega arith in
    ap (sum_by f) (range_more 0 n) ∙ sum_by_push f (range_with_len 0 n) (0 + n) ∙ ap (λ (k : ℕ). sum_by f (range_with_len 0 n) + f k) one

dealt_here : (attempt count n cell turn : ℕ) → turn ≡ (n + attempt) % count → cell ≡ turn → dealt attempt count (suc n) cell ≡ dealt attempt count n cell + 1
dealt_here attempt count n cell turn is here = dealt_more attempt count n cell ∙ by ((n + attempt) % count == cell) refl
  where
    by : (b : Bool) → ((n + attempt) % count == cell) ≡ b → dealt attempt count n cell + cond b 1 0 ≡ dealt attempt count n cell + 1
    by true e = refl
    by false e = absurd (eqb-false ((n + attempt) % count) cell e (sym is ∙ sym here))

dealt_apart : (attempt count n cell turn : ℕ) → turn ≡ (n + attempt) % count → (cell ≡ turn → ⊥) → dealt attempt count (suc n) cell ≡ dealt attempt count n cell
dealt_apart attempt count n cell turn is apart = dealt_more attempt count n cell ∙ by ((n + attempt) % count == cell) refl
  where
    by : (b : Bool) → ((n + attempt) % count == cell) ≡ b → dealt attempt count n cell + cond b 1 0 ≡ dealt attempt count n cell
    by true e = absurd (apart (sym (eqb-true ((n + attempt) % count) cell e) ∙ sym is))
    by false e = omega arith

one_longer : (rows : List Row) (row : Row) → length (rows ++ row ∷ []) ≡ suc (length rows)
one_longer rows row = length-append rows (row ∷ []) ∙ omega arith

goes_more : (ship : Ship) (attempt count : ℕ) (rows : List Row) (row : Row) (cells : ℕ → List Row) (turn : ℕ) → turn ≡ (length rows + attempt) % count → GoesBy ship attempt count (length rows) cells
    → GoesBy ship attempt count (length (rows ++ row ∷ [])) (with_row cells (place_of ship count turn row) row)
goes_more (Hash columns) attempt count rows row cells turn is goes = λ cell lt. by cell lt (nat_eq cell (hash_cell columns count row)) refl
  where
    by : (cell : ℕ) → cell < count → (b : Bool) → nat_eq cell (hash_cell columns count row) ≡ b
        → All (λ row. hash_cell columns count row ≡ cell) (if b then cells cell ++ row ∷ [] else cells cell)
    by cell lt true e =
        let here : hash_cell columns count row ≡ cell = sym (eqb-true cell (hash_cell columns count row) e) in
        All-append (λ row. hash_cell columns count row ≡ cell) (cells cell) (row ∷ []) (goes cell lt) (All-from_recursion (λ row. hash_cell columns count row ≡ cell) (row ∷ []) (here, tt))
    by cell lt false e = goes cell lt
goes_more Rebalance attempt count rows row cells turn is goes = λ cell lt. by cell lt (nat_eq cell turn) refl
  where
    by : (cell : ℕ) → cell < count → (b : Bool) → nat_eq cell turn ≡ b
        → length (if b then cells cell ++ row ∷ [] else cells cell) ≡ dealt attempt count (length (rows ++ row ∷ [])) cell
    by cell lt true e =
        one_longer (cells cell) row ∙ ap suc (goes cell lt) ∙ sym (add-one (dealt attempt count (length rows) cell))
        ∙ sym (dealt_here attempt count (length rows) cell turn is (eqb-true cell turn e))
        ∙ ap (λ (n : ℕ). dealt attempt count n cell) (sym (one_longer rows row))
    by cell lt false e =
        goes cell lt ∙ sym (dealt_apart attempt count (length rows) cell turn is (eqb-false cell turn e))
        ∙ ap (λ (n : ℕ). dealt attempt count n cell) (sym (one_longer rows row))
goes_more Forward attempt count rows row cells turn is goes = goes
goes_more Broadcast attempt count rows row cells turn is goes = goes

-- ---- the bytes

spelled_more : (width : ℕ) (bytes : List ℕ) (rows : List Row) (row : Row) → RowOf width row → Spells width bytes rows → Spells width (bytes ++ row_bytes row) (rows ++ row ∷ [])
spelled_more width bytes rows row one spelled = (
  all_more rows spelled.0,
  ap (λ (l : List ℕ). l ++ row_bytes row) spelled.1 ∙ ap (λ (l : List ℕ). rows_bytes rows ++ l) (sym (append-nil (row_bytes row))) ∙ sym (flat_map-append row_bytes rows (row ∷ [])),
)
  where
    all_more : (rows : List Row) → AllByRecursion (RowOf width) rows → AllByRecursion (RowOf width) (rows ++ row ∷ [])
    all_more [] all = (one, tt)
    all_more (first ∷ rows) all = (all.0, all_more rows all.1)

each_spelled : (width place : ℕ) (bytes now : List (List ℕ)) (cells : ℕ → List Row) (row : Row) → RowOf width row → place < length bytes → now ≡ set bytes place (get_or bytes place [] ++ row_bytes row)
    → (cell : ℕ) → Spells width (get_or bytes cell []) (cells cell) → Spells width (get_or now cell []) (with_row cells place row cell)
each_spelled width place bytes now cells row one lt is cell spelled = by (nat_eq cell place) refl
  where
    by : (b : Bool) → nat_eq cell place ≡ b → Spells width (get_or now cell []) (if b then cells cell ++ row ∷ [] else cells cell)
    by true e =
        let here : cell ≡ place = eqb-true cell place e in
        let found : get_or now cell [] ≡ get_or bytes cell [] ++ row_bytes row =
        ap (λ (l : List (List ℕ)). get_or l cell []) is ∙ ap (λ (k : ℕ). get_or (set bytes place (get_or bytes place [] ++ row_bytes row)) k []) here
        ∙ get_or-set_same bytes place (get_or bytes place [] ++ row_bytes row) [] lt ∙ ap (λ (k : ℕ). get_or bytes k [] ++ row_bytes row) (sym here) in
        subst (λ (l : List ℕ). Spells width l (cells cell ++ row ∷ [])) (sym found) (spelled_more width (get_or bytes cell []) (cells cell) row one spelled)
    by false e =
        let found : get_or now cell [] ≡ get_or bytes cell [] =
        ap (λ (l : List (List ℕ)). get_or l cell []) is ∙ get_or-set_other bytes place cell (get_or bytes place [] ++ row_bytes row) [] (eqb-false cell place e) in
        subst (λ (l : List ℕ). Spells width l (cells cell)) (sym found) spelled

-- ---- the whole

pub cut_more : (width attempt : ℕ) (output : VertexOutput) (rows : List Row) (row : Row) (bytes now : List (List ℕ)) (turn : ℕ) → RowOf width row → IsCutInto width attempt output rows bytes
    → turn ≡ (length rows + attempt) % output.cells → place_of output.ship output.cells turn row < output.cells
    → now ≡ set bytes (place_of output.ship output.cells turn row) (get_or bytes (place_of output.ship output.cells turn row) [] ++ row_bytes row)
    → IsCutInto width attempt output (rows ++ row ∷ []) now
cut_more width attempt output rows row bytes now turn one into is lt put =
    let place = place_of output.ship output.cells turn row in
    let there : place < length bytes = omega (arith, lt, into.count) in
    record {
      count = ap length put ∙ length-set bytes place (get_or bytes place [] ++ row_bytes row) ∙ into.count;
      cells = with_row into.cells place row;
      spelled = λ cell within. each_spelled width place bytes now into.cells row one there put cell (into.spelled cell within);
      cut = record {
        sum = same_on (sum_more into.cells place row output.cells lt) (SameBag-append (gathered output.cells into.cells) (row ∷ []) rows (row ∷ []) into.cut.sum (same_refl (row ∷ [])));
        goes = goes_more output.ship attempt output.cells rows row into.cells turn is into.cut.goes;
      };
    }

none_gathered : (n : ℕ) → gathered n (λ cell. []) ≡ []
none_gathered zero = refl
none_gathered (suc n) = ap (λ (rows : List Row). rows ++ []) (none_gathered n)

none_goes : (ship : Ship) (width attempt count : ℕ) → IsTrue (ships_to width count ship) → GoesBy ship attempt count 0 (λ cell. [])
none_goes (Hash columns) width attempt count ships = λ cell lt k d within. absurd (omega arith)
none_goes Rebalance width attempt count ships = λ cell lt. refl
none_goes Forward width attempt count ships = eqb-true count 1 ships
none_goes Broadcast width attempt count ships = tt

pub none_cut : (width attempt : ℕ) (output : VertexOutput) → IsTrue (ships_to width output.cells output.ship) → IsCutInto width attempt output [] (replicate output.cells [])
none_cut width attempt output ships = record {
  count = length-replicate output.cells [];
  cells = λ cell. [];
  spelled = λ cell within. (tt, get_or-replicate output.cells cell [] [] within);
  cut = record {
    sum = subst (λ (l : List Row). SameBag l []) (sym (none_gathered output.cells)) (same_refl []);
    goes = none_goes output.ship width attempt output.cells ships;
  };
}

-- the cell in turn after a row
pub turn_more : (attempt count turn : ℕ) (rows : List Row) (row : Row) → turn ≡ (length rows + attempt) % count → (turn + 1) % count ≡ (length (rows ++ row ∷ []) + attempt) % count
turn_more attempt count turn rows row is =
    let longer : (length rows + attempt) + 1 ≡ length (rows ++ row ∷ []) + attempt = omega (arith, one_longer rows row) in
    ap (λ (t : ℕ). (t + 1) % count) is ∙ mod-add-mod (length rows + attempt) count 1 ∙ ap (λ (n : ℕ). n % count) longer
