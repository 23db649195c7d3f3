-- Where rows of a width stop: at one place at most, and nowhere in bytes that are such rows.
use Rattle.std.proofs.Common.{◌≡◌, ℕ, ◌+◌, ◌<◌, List, [], ◌∷◌, ◌++◌, length, drop, refl, sym, ap, subst, ◌∙◌, append_assoc, arith, inl, inr}
use Rattle.std.specs.List.{AllByRecursion}
use Rattle.std.proofs.lemmas.List.{append-nil, length-append, length-drop, take-append-drop}
use Rattle.row_core.specs.declared.value.Value.{Value}
use Rattle.row_core.specs.Encoding.{row_bytes, rows_bytes, RowFits}
use Rattle.row_core.proofs.Laws.{IsLonger, lists_front, rows_free}
use Rattle.row_view.specs.Encoded.{RowOf, Spells, StopsAtRow}
use Rattle.row_view.proofs.Fronts.{fits_of}

behind : {A : Type 0} (P : A → Type 0) (front back : List A) → AllByRecursion P (front ++ back) → AllByRecursion P back
behind P [] back all = all
behind P (item ∷ front) back all = behind P front back all.1

-- where rows stop, no rows go further
ended : (width : ℕ) (bytes : List ℕ) (at : ℕ) (stop : StopsAtRow width bytes at) (more : List (List Value)) (rest : List ℕ) → AllByRecursion (RowOf width) more → drop at bytes ≡ rows_bytes more ++ rest → more ≡ []
ended width bytes at stop [] rest fit h = refl
ended width bytes at stop (row ∷ more) rest fit h = absurd (stop.none row (rows_bytes more ++ rest) fit.0 (h ∙ append_assoc (row_bytes row) (rows_bytes more) rest))

stop_front : (width : ℕ) (bytes : List ℕ) (at : ℕ) (stop : StopsAtRow width bytes at) → rows_bytes stop.rows ++ drop at bytes ≡ bytes
stop_front width bytes at stop = ap (λ (front : List ℕ). front ++ drop at bytes) (sym stop.before.1) ∙ take-append-drop at bytes

-- rows whose spelling goes further than that of the rows before a stop
stops_first : (width : ℕ) (bytes : List ℕ) (at : ℕ) (stop : StopsAtRow width bytes at) (rows : List (List Value)) (rest : List ℕ) → AllByRecursion (RowOf width) rows → IsLonger row_bytes RowFits stop.rows rows (drop at bytes) rest → drop at bytes ≡ rest
stops_first width bytes at stop rows rest fit longer =
    let more_fit = behind (RowOf width) stop.rows longer.more (subst (AllByRecursion (RowOf width)) longer.list fit) in
    longer.rest ∙ ap (λ (more : List (List Value)). rows_bytes more ++ rest) (ended width bytes at stop longer.more rest more_fit longer.rest)

-- bytes that are such rows stop nowhere
pub never_stops : (width : ℕ) (bytes : List ℕ) (at : ℕ) → StopsAtRow width bytes at → (rows : List (List Value)) → Spells width bytes rows → ⊥
never_stops width bytes at stop rows spelled =
    let more = stop.more in
    let left = length-drop at bytes in
    elim (lists_front row_bytes RowFits rows_free stop.rows rows (drop at bytes) [] (fits_of width stop.rows stop.before.0) (fits_of width rows spelled.0) (stop_front width bytes at stop ∙ spelled.1 ∙ sym (append-nil (rows_bytes rows)))) [
      | inl longer ↦
          let nothing : length (drop at bytes) ≡ 0 = ap length (stops_first width bytes at stop rows [] spelled.0 longer) in
          absurd (omega arith)
      | inr longer ↦
          let nothing : 0 ≡ length (rows_bytes longer.more) + length (drop at bytes) = ap length longer.rest ∙ length-append (rows_bytes longer.more) (drop at bytes) in
          absurd (omega arith)
    ]

same_left : (bytes : List ℕ) (a b : ℕ) → a < length bytes → b < length bytes → drop a bytes ≡ drop b bytes → a ≡ b
same_left bytes a b in_a in_b h = omega (arith, ap length h, length-drop a bytes, length-drop b bytes)

-- they stop at one place
pub stops_once : (width : ℕ) (bytes : List ℕ) (a b : ℕ) → StopsAtRow width bytes a → StopsAtRow width bytes b → a ≡ b
stops_once width bytes a b stop other =
    elim (lists_front row_bytes RowFits rows_free stop.rows other.rows (drop a bytes) (drop b bytes) (fits_of width stop.rows stop.before.0) (fits_of width other.rows other.before.0) (stop_front width bytes a stop ∙ sym (stop_front width bytes b other))) [
      | inl longer ↦ same_left bytes a b stop.more other.more (stops_first width bytes a stop other.rows (drop b bytes) other.before.0 longer)
      | inr longer ↦ sym (same_left bytes b a other.more stop.more (stops_first width bytes b other stop.rows (drop a bytes) stop.before.0 longer))
    ]
