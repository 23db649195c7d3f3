-- Greedy runs by what is left of the list: only the sum of the present run and the places of its ends matter.
use Rattle.std.proofs.Common.{◌≡◌, ℕ, ◌+◌, ◌<◌, ◌≤◌, ◌-◌, cond, leb, true, false, List, [], ◌∷◌, ◌++◌, length, get_or, take, drop, sum, refl, sym, ◌∙◌, ap, zero-add, arith}
use Rattle.std.proofs.lemmas.Bool.{cond-true, cond-false, le-leb, lt-leb}
use Rattle.std.proofs.lemmas.List.{length_push, drop_more, drop_all, take_all}
use Rattle.std.proofs.lemmas.List.Sums.{sum_by_push}
use Rattle.volume_split.specs.declared.group.Group.{Group}
use Rattle.volume_split.specs.Runs.{runs_from, greedy_runs}
use Rattle.volume_split.specs.Groups.{groups_from, groups_of}

pub sum_push : (run : List ℕ) (size : ℕ) → sum (run ++ size ∷ []) ≡ sum run + size
sum_push run size = sum_by_push (λ x. x) run size

pub sum_one : (size : ℕ) → sum (size ∷ []) ≡ size
sum_one size = zero-add size

-- the number of runs from the present one on
unfoldable pub count_from : ℕ → ℕ → List ℕ → ℕ
count_from limit total [] = 1
count_from limit total (size ∷ sizes) = cond (leb (total + size) limit) (count_from limit (total + size) sizes) (1 + count_from limit size sizes)

pub count_from-nil : (limit total : ℕ) → count_from limit total [] ≡ 1
unfolding count_from
count_from-nil limit total = refl

pub count_from-joins : (limit total size : ℕ) (sizes : List ℕ) → total + size ≤ limit → count_from limit total (size ∷ sizes) ≡ count_from limit (total + size) sizes
unfolding count_from
count_from-joins limit total size sizes le = cond-true (leb (total + size) limit) _ _ (le-leb (total + size) limit le)

pub count_from-begins : (limit total size : ℕ) (sizes : List ℕ) → limit < total + size → count_from limit total (size ∷ sizes) ≡ 1 + count_from limit size sizes
unfolding count_from
count_from-begins limit total size sizes lt = cond-false (leb (total + size) limit) _ _ (lt-leb (total + size) limit lt)

pub length-runs_from : (limit : ℕ) (run sizes : List ℕ) → length (runs_from limit run sizes) ≡ count_from limit (sum run) sizes
unfolding count_from
length-runs_from limit run [] = refl
length-runs_from limit run (size ∷ sizes) =
    elim (leb (sum run + size) limit) as (λ b. length (cond b (runs_from limit (run ++ size ∷ []) sizes) (run ∷ runs_from limit (size ∷ []) sizes))
    ≡ cond b (count_from limit (sum run + size) sizes) (1 + count_from limit size sizes)) [
      | true ↦ length-runs_from limit (run ++ size ∷ []) sizes ∙ ap (λ n. count_from limit n sizes) (sum_push run size)
      | false ↦
          let later : length (runs_from limit (size ∷ []) sizes) ≡ count_from limit size sizes
          = length-runs_from limit (size ∷ []) sizes ∙ ap (λ n. count_from limit n sizes) (sum_one size) in
          omega (arith, later)
    ]

pub length-greedy_runs : (limit size : ℕ) (sizes : List ℕ) → length (greedy_runs limit (size ∷ sizes)) ≡ count_from limit size sizes
length-greedy_runs limit size sizes = length-runs_from limit (size ∷ []) sizes ∙ ap (λ n. count_from limit n sizes) (sum_one size)

-- the groups from the present one on, which has a start, an end and a sum
unfoldable pub cut_from : ℕ → ℕ → ℕ → ℕ → List ℕ → List Group
cut_from limit start end total [] = record { start = start; end = end } ∷ []
cut_from limit start end total (size ∷ sizes) =
    cond (leb (total + size) limit) (cut_from limit start (end + 1) (total + size) sizes) (record { start = start; end = end } ∷ cut_from limit end (end + 1) size sizes)

pub cut_from-nil : (limit start end total : ℕ) → cut_from limit start end total [] ≡ record { start = start; end = end } ∷ []
unfolding cut_from
cut_from-nil limit start end total = refl

pub cut_from-joins : (limit start end total size : ℕ) (sizes : List ℕ) → total + size ≤ limit
    → cut_from limit start end total (size ∷ sizes) ≡ cut_from limit start (end + 1) (total + size) sizes
unfolding cut_from
cut_from-joins limit start end total size sizes le = cond-true (leb (total + size) limit) _ _ (le-leb (total + size) limit le)

pub cut_from-begins : (limit start end total size : ℕ) (sizes : List ℕ) → limit < total + size
    → cut_from limit start end total (size ∷ sizes) ≡ record { start = start; end = end } ∷ cut_from limit end (end + 1) size sizes
unfolding cut_from
cut_from-begins limit start end total size sizes lt = cond-false (leb (total + size) limit) _ _ (lt-leb (total + size) limit lt)

pub groups_from-runs_from : (limit start : ℕ) (run sizes : List ℕ) → groups_from start (runs_from limit run sizes) ≡ cut_from limit start (start + length run) (sum run) sizes
unfolding cut_from
groups_from-runs_from limit start run [] = refl
groups_from-runs_from limit start run (size ∷ sizes) =
    elim (leb (sum run + size) limit) as (λ b. groups_from start (cond b (runs_from limit (run ++ size ∷ []) sizes) (run ∷ runs_from limit (size ∷ []) sizes))
    ≡ cond b (cut_from limit start (start + length run + 1) (sum run + size) sizes)
    (record { start = start; end = start + length run } ∷ cut_from limit (start + length run) (start + length run + 1) size sizes)) [
      | true ↦
          groups_from-runs_from limit start (run ++ size ∷ []) sizes
          ∙ (λ i. cut_from limit start (place i) (sum_push run size i) sizes)
      | false ↦
          ap (λ (gs : List Group). record { start = start; end = start + length run } ∷ gs)
          (groups_from-runs_from limit (start + length run) (size ∷ []) sizes ∙ ap (λ n. cut_from limit (start + length run) (start + length run + 1) n sizes) (sum_one size))
    ]
  where
    place : start + length (run ++ size ∷ []) ≡ start + length run + 1
    place = ap (λ n. start + n) (length_push run size) ∙ omega arith

pub groups_of-greedy_runs : (limit size : ℕ) (sizes : List ℕ) → groups_of (greedy_runs limit (size ∷ sizes)) ≡ cut_from limit 0 1 size sizes
groups_of-greedy_runs limit size sizes = groups_from-runs_from limit 0 (size ∷ []) sizes ∙ ap (λ n. cut_from limit 0 1 n sizes) (sum_one size)

-- the step of a loop over the sizes after the first, at place i
module _ (limit total next i : ℕ) (rest : List ℕ) where
  pub count_joins : i < length rest → next ≡ total + get_or rest i 0 → next ≤ limit → count_from limit total (drop i rest) ≡ count_from limit next (drop (i + 1) rest)
  count_joins lt is le =
      ap (count_from limit total) (drop_more rest i 0 lt) ∙ count_from-joins limit total (get_or rest i 0) (drop (i + 1) rest) (omega arith)
      ∙ ap (λ n. count_from limit n (drop (i + 1) rest)) (sym is)

  pub count_begins : i < length rest → next ≡ get_or rest i 0 → limit < total + next → count_from limit total (drop i rest) ≡ 1 + count_from limit next (drop (i + 1) rest)
  count_begins lt is over =
      ap (count_from limit total) (drop_more rest i 0 lt) ∙ count_from-begins limit total (get_or rest i 0) (drop (i + 1) rest) (omega arith)
      ∙ ap (λ n. 1 + count_from limit n (drop (i + 1) rest)) (sym is)

  pub cut_joins : (start end : ℕ) → i < length rest → next ≡ total + get_or rest i 0 → next ≤ limit
      → cut_from limit start end total (drop i rest) ≡ cut_from limit start (end + 1) next (drop (i + 1) rest)
  cut_joins start end lt is le =
      ap (cut_from limit start end total) (drop_more rest i 0 lt) ∙ cut_from-joins limit start end total (get_or rest i 0) (drop (i + 1) rest) (omega arith)
      ∙ ap (λ n. cut_from limit start (end + 1) n (drop (i + 1) rest)) (sym is)

  pub cut_begins : (start end : ℕ) → i < length rest → next ≡ get_or rest i 0 → limit < total + next
      → cut_from limit start end total (drop i rest) ≡ record { start = start; end = end } ∷ cut_from limit end (end + 1) next (drop (i + 1) rest)
  cut_begins start end lt is over =
      ap (cut_from limit start end total) (drop_more rest i 0 lt) ∙ cut_from-begins limit start end total (get_or rest i 0) (drop (i + 1) rest) (omega arith)
      ∙ ap (λ n. record { start = start; end = end } ∷ cut_from limit end (end + 1) n (drop (i + 1) rest)) (sym is)

-- the end of such a loop
pub count_end : (limit total i : ℕ) (rest : List ℕ) → length rest ≤ i → count_from limit total (drop i rest) ≡ 1
count_end limit total i rest le = ap (count_from limit total) (drop_all i rest le) ∙ count_from-nil limit total

pub cut_end : (limit start end total i : ℕ) (rest : List ℕ) → length rest ≤ i → cut_from limit start end total (drop i rest) ≡ record { start = start; end = end } ∷ []
cut_end limit start end total i rest le = ap (cut_from limit start end total) (drop_all i rest le) ∙ cut_from-nil limit start end total

-- the whole list by its first size and the rest
pub count_whole : (limit : ℕ) (sizes : List ℕ) → 1 ≤ length sizes
    → length (greedy_runs limit sizes) ≡ count_from limit (get_or sizes 0 0) (take (length sizes - 1) (drop 1 sizes))
count_whole limit [] le = absurd (omega arith)
count_whole limit (size ∷ sizes) le =
    length-greedy_runs limit size sizes ∙ ap (count_from limit size) (sym (take_all (length (size ∷ sizes) - 1) sizes (omega arith)))

pub cut_whole : (limit : ℕ) (sizes : List ℕ) → 1 ≤ length sizes
    → groups_of (greedy_runs limit sizes) ≡ cut_from limit 0 1 (get_or sizes 0 0) (take (length sizes - 1) (drop 1 sizes))
cut_whole limit [] le = absurd (omega arith)
cut_whole limit (size ∷ sizes) le =
    groups_of-greedy_runs limit size sizes ∙ ap (cut_from limit 0 1 size) (sym (take_all (length (size ∷ sizes) - 1) sizes (omega arith)))
