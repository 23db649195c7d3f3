-- Where decoding stops: there is one place at most, and none in bytes that are rows.
use Rattle.std.proofs.Common.{◌≡◌, ℕ, ◌+◌, ◌<◌, List, [], ◌∷◌, ◌++◌, length, drop, Result, Ok, Err, refl, sym, ap, ◌∙◌, append_assoc, arith, inl, inr}
use Rattle.std.specs.Prelude.{IfOk, IfErr}
use Rattle.std.proofs.lemmas.List.{append-nil, length-append, length-drop, take-append-drop}
use Rattle.row_core.specs.declared.value.Value.{Value}
use Rattle.row_core.specs.declared.row_error.RowError.{RowError}
use Rattle.row_core.specs.declared.row_error.RowError.TheVariants.{Bad, NoMemory}
use Rattle.row_core.specs.Encoding.{row_bytes, rows_bytes, RowFits, RowsFit, StopsAt}
use Rattle.row_core.specs.Decoding.{IsCause, GivesRows, GivesBad}
use Rattle.row_core.proofs.Fronts.{IsLonger, lists_front, rows_free, rows_same}

-- where rows stop, no rows go further
ended : (bytes : List ℕ) (at : ℕ) (stop : StopsAt bytes at) (more : List (List Value)) (rest : List ℕ) → RowsFit more → drop at bytes ≡ rows_bytes more ++ rest → more ≡ []
ended bytes at stop [] rest fit h = refl
ended bytes at stop (row ∷ more) rest fit h = absurd (stop.none row (rows_bytes more ++ rest) fit.0 (h ∙ append_assoc (row_bytes row) (rows_bytes more) rest))

stop_front : (bytes : List ℕ) (at : ℕ) (stop : StopsAt bytes at) → rows_bytes stop.rows ++ drop at bytes ≡ bytes
stop_front bytes at stop = ap (λ (front : List ℕ). front ++ drop at bytes) (sym stop.before) ∙ take-append-drop at bytes

-- rows whose spelling is followed by more than that of the rows before a stop
stops_first : (bytes : List ℕ) (at : ℕ) (stop : StopsAt bytes at) (rows : List (List Value)) (rest : List ℕ) → IsLonger row_bytes RowFits stop.rows rows (drop at bytes) rest → drop at bytes ≡ rest
stops_first bytes at stop rows rest longer = longer.rest ∙ ap (λ (more : List (List Value)). rows_bytes more ++ rest) (ended bytes at stop longer.more rest longer.fit longer.rest)

stops_not_whole : (bytes : List ℕ) (at : ℕ) → StopsAt bytes at → (rows : List (List Value)) → RowsFit rows → bytes ≡ rows_bytes rows → ⊥
stops_not_whole bytes at stop rows fit whole =
    let more = stop.more in
    let left = length-drop at bytes in
    elim (lists_front row_bytes RowFits rows_free stop.rows rows (drop at bytes) [] stop.fit fit (stop_front bytes at stop ∙ whole ∙ sym (append-nil (rows_bytes rows)))) [
      | inl longer ↦
          let nothing : length (drop at bytes) ≡ 0 = ap length (stops_first bytes at stop rows [] longer) in
          absurd (omega arith)
      | inr longer ↦
          let nothing : 0 ≡ length (rows_bytes longer.more) + length (drop at bytes) = ap length longer.rest ∙ length-append (rows_bytes longer.more) (drop at bytes) in
          absurd (omega arith)
    ]

same_left : (bytes : List ℕ) (a b : ℕ) → a < length bytes → b < length bytes → drop a bytes ≡ drop b bytes → a ≡ b
same_left bytes a b in_a in_b h = omega (arith, ap length h, length-drop a bytes, length-drop b bytes)

stops_once : (bytes : List ℕ) (a b : ℕ) → StopsAt bytes a → StopsAt bytes b → a ≡ b
stops_once bytes a b stop other =
    elim (lists_front row_bytes RowFits rows_free stop.rows other.rows (drop a bytes) (drop b bytes) stop.fit other.fit (stop_front bytes a stop ∙ sym (stop_front bytes b other))) [
      | inl longer ↦ same_left bytes a b stop.more other.more (stops_first bytes a stop other.rows (drop b bytes) longer)
      | inr longer ↦ sym (same_left bytes b a other.more stop.more (stops_first bytes b other stop.rows (drop a bytes) longer))
    ]

-- the rows that were read are those that the bytes spell, and a refusal is where the rows stop
pub only_rows : (bytes : List ℕ) (answer : Result (List (List Value)) RowError) → IfOk answer (λ rows. RowsFit rows × (bytes ≡ rows_bytes rows)) → IfErr answer (λ error. IsCause bytes error)
    → (rows : List (List Value)) → RowsFit rows → bytes ≡ rows_bytes rows → GivesRows answer rows
only_rows bytes (Ok read) found cause rows fit whole = rows_same read rows found.0 fit (sym found.1 ∙ whole)
only_rows bytes (Err NoMemory) found cause rows fit whole = tt
only_rows bytes (Err (Bad at)) found cause rows fit whole = stops_not_whole bytes at cause rows fit whole

pub only_stop : (bytes : List ℕ) (answer : Result (List (List Value)) RowError) → IfOk answer (λ rows. RowsFit rows × (bytes ≡ rows_bytes rows)) → IfErr answer (λ error. IsCause bytes error)
    → (at : ℕ) → StopsAt bytes at → GivesBad answer at
only_stop bytes (Ok read) found cause at stop = stops_not_whole bytes at stop read found.0 found.1
only_stop bytes (Err NoMemory) found cause at stop = tt
only_stop bytes (Err (Bad place)) found cause at stop = stops_once bytes place at cause stop

pub only_row : (bytes : List ℕ) (answer : Result (List (List Value)) RowError) → IfOk answer (λ rows. RowsFit rows × (bytes ≡ rows_bytes rows)) → IfErr answer (λ error. IsCause bytes error)
    → (row : List Value) → RowFits row → bytes ≡ row_bytes row → GivesRows answer (row ∷ [])
only_row bytes answer found cause row fit whole = only_rows bytes answer found cause (row ∷ []) (fit, tt) (whole ∙ sym (append-nil (row_bytes row)))
