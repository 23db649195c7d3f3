-- No cutting of a list into runs that are at most the limit, or of one size, has fewer runs than the greedy one.
use Rattle.std.proofs.Common.{◌≡◌, ℕ, ◌+◌, ◌≤◌, ◌⊎◌, inl, inr, leb, List, [], ◌∷◌, ◌++◌, length, sum, refl, sym, ◌∙◌, ap, subst, append_assoc, arith}
use Rattle.std.specs.List.{concat}
use Rattle.std.proofs.lemmas.Bool.{cases_lt, cond_both, leb-true}
use Rattle.std.proofs.lemmas.List.{append-nil}
use Rattle.std.proofs.lemmas.List.Sums.{sum_by-cons}
use Rattle.volume_split.specs.Runs.{runs_from, greedy_runs}
use Rattle.volume_split.proofs.Filling.{sum_push, count_from, count_from-nil, count_from-joins, count_from-begins, length-greedy_runs}

pub sum-cons : (size : ℕ) (sizes : List ℕ) → sum (size ∷ sizes) ≡ size + sum sizes
sum-cons size sizes = sum_by-cons (λ x. x) size sizes

-- a run that the greedy one might have made
abbrev pub Fits : ℕ → List ℕ → Type 0
Fits limit run = (sum run ≤ limit) ⊎ (length run ≤ 1)

abbrev pub AllFit : ℕ → List (List ℕ) → Type 0
AllFit limit [] = Unit {0}
AllFit limit (run ∷ runs) = Fits limit run × AllFit limit runs

pub AllFit-above : (low high : ℕ) (runs : List (List ℕ)) → low ≤ high → AllFit low runs → AllFit high runs
AllFit-above low high [] le fit = tt
AllFit-above low high (run ∷ runs) le (inl within, rest) = (inl (omega arith), AllFit-above low high runs le rest)
AllFit-above low high (run ∷ runs) le (inr one, rest) = (inr one, AllFit-above low high runs le rest)

pub AllFit-runs_from : (limit : ℕ) (run sizes : List ℕ) → Fits limit run → AllFit limit (runs_from limit run sizes)
AllFit-runs_from limit run [] fit = (fit, tt)
AllFit-runs_from limit run (size ∷ sizes) fit =
    cond_both (leb (sum run + size) limit) (runs_from limit (run ++ size ∷ []) sizes) (run ∷ runs_from limit (size ∷ []) sizes) (λ runs. AllFit limit runs)
    (λ yes. AllFit-runs_from limit (run ++ size ∷ []) sizes (inl (subst (λ n. n ≤ limit) (sym (sum_push run size)) (leb-true (sum run + size) limit yes))))
    (λ no. (fit, AllFit-runs_from limit (size ∷ []) sizes (inr (omega arith))))

pub AllFit-greedy_runs : (limit : ℕ) (sizes : List ℕ) → AllFit limit (greedy_runs limit sizes)
AllFit-greedy_runs limit [] = tt
AllFit-greedy_runs limit (size ∷ sizes) = AllFit-runs_from limit (size ∷ []) sizes (inr (omega arith))

pub concat-runs_from : (limit : ℕ) (run sizes : List ℕ) → concat (runs_from limit run sizes) ≡ run ++ sizes
concat-runs_from limit run [] = refl
concat-runs_from limit run (size ∷ sizes) =
    cond_both (leb (sum run + size) limit) (runs_from limit (run ++ size ∷ []) sizes) (run ∷ runs_from limit (size ∷ []) sizes) (λ runs. concat runs ≡ run ++ size ∷ sizes)
    (λ yes. concat-runs_from limit (run ++ size ∷ []) sizes ∙ append_assoc run (size ∷ []) sizes)
    (λ no. ap (λ (rest : List ℕ). run ++ rest) (concat-runs_from limit (size ∷ []) sizes))

pub concat-greedy_runs : (limit : ℕ) (sizes : List ℕ) → concat (greedy_runs limit sizes) ≡ sizes
concat-greedy_runs limit [] = refl
concat-greedy_runs limit (size ∷ sizes) = concat-runs_from limit (size ∷ []) sizes

-- a present run with a smaller sum makes no more runs, and any present run at most one more
record CountsClose (limit : ℕ) (sizes : List ℕ) : Type 0 where
  smaller : (a b : ℕ) → a ≤ b → count_from limit a sizes ≤ count_from limit b sizes
  any : (a b : ℕ) → count_from limit a sizes ≤ 1 + count_from limit b sizes

module _ (limit : ℕ) where
  count_smaller : (size : ℕ) (sizes : List ℕ) → CountsClose limit sizes → (a b : ℕ) → a ≤ b → count_from limit a (size ∷ sizes) ≤ count_from limit b (size ∷ sizes)
  count_smaller size sizes close a b le =
      elim (cases_lt limit (a + size)) [
        | inl over ↦ omega (arith, count_from-begins limit a size sizes over, count_from-begins limit b size sizes (omega arith))
        | inr within ↦
            elim (cases_lt limit (b + size)) [
              | inl over ↦ omega (arith, count_from-joins limit a size sizes within, count_from-begins limit b size sizes over, close.any (a + size) size)
              | inr both ↦ omega (arith, count_from-joins limit a size sizes within, count_from-joins limit b size sizes both, close.smaller (a + size) (b + size) (omega arith))
            ]
      ]

  count_any : (size : ℕ) (sizes : List ℕ) → CountsClose limit sizes → (a b : ℕ) → count_from limit a (size ∷ sizes) ≤ 1 + count_from limit b (size ∷ sizes)
  count_any size sizes close a b =
      elim (cases_lt limit (a + size)) [
        | inl over ↦
            elim (cases_lt limit (b + size)) [
              | inl both ↦ omega (arith, count_from-begins limit a size sizes over, count_from-begins limit b size sizes both)
              | inr within ↦ omega (arith, count_from-begins limit a size sizes over, count_from-joins limit b size sizes within, close.smaller size (b + size) (omega arith))
            ]
        | inr within ↦
            elim (cases_lt limit (b + size)) [
              | inl over ↦ omega (arith, count_from-joins limit a size sizes within, count_from-begins limit b size sizes over, close.any (a + size) size)
              | inr both ↦ omega (arith, count_from-joins limit a size sizes within, count_from-joins limit b size sizes both, close.any (a + size) (b + size))
            ]
      ]

  counts_close : (sizes : List ℕ) → CountsClose limit sizes
  counts_close [] = record {
    smaller = λ a b le. omega (arith, count_from-nil limit a, count_from-nil limit b);
    any = λ a b. omega (arith, count_from-nil limit a, count_from-nil limit b);
  }
  counts_close (size ∷ sizes) = record { smaller = count_smaller size sizes (counts_close sizes); any = count_any size sizes (counts_close sizes) }

  -- a present run ahead of a list makes at most one run more than the list alone
  count_ahead : (total : ℕ) (sizes : List ℕ) → count_from limit total sizes ≤ 1 + length (greedy_runs limit sizes)
  count_ahead total [] = omega (arith, count_from-nil limit total)
  count_ahead total (size ∷ sizes) =
      elim (cases_lt limit (total + size)) [
        | inl over ↦ omega (arith, count_from-begins limit total size sizes over, length-greedy_runs limit size sizes)
        | inr within ↦ omega (arith, count_from-joins limit total size sizes within, length-greedy_runs limit size sizes, (counts_close sizes).any (total + size) size)
      ]

  -- the same past sizes that join the present run
  count_along : (total : ℕ) (run sizes : List ℕ) → total + sum run ≤ limit → count_from limit total (run ++ sizes) ≤ 1 + length (greedy_runs limit sizes)
  count_along total [] sizes le = count_ahead total sizes
  count_along total (size ∷ run) sizes le =
      let whole : sum (size ∷ run) ≡ size + sum run = sum-cons size run in
      omega (arith, count_from-joins limit total size (run ++ sizes) (omega arith), count_along (total + size) run sizes (omega arith))

  count_past : (size : ℕ) (run sizes : List ℕ) → Fits limit (size ∷ run) → count_from limit size (run ++ sizes) ≤ 1 + length (greedy_runs limit sizes)
  count_past size run sizes (inl within) = let whole : sum (size ∷ run) ≡ size + sum run = sum-cons size run in count_along size run sizes (omega arith)
  count_past size [] sizes (inr one) = count_ahead size sizes
  count_past size (other ∷ run) sizes (inr one) = absurd (omega arith)

  pub fewest : (runs : List (List ℕ)) → AllFit limit runs → length (greedy_runs limit (concat runs)) ≤ length runs
  fewest [] fit = omega arith
  fewest ([] ∷ runs) fit = let rest : length (greedy_runs limit (concat runs)) ≤ length runs = fewest runs fit.1 in omega arith
  fewest ((size ∷ run) ∷ runs) fit =
      let rest : length (greedy_runs limit (concat runs)) ≤ length runs = fewest runs fit.1 in
      omega (arith, length-greedy_runs limit size (run ++ concat runs), count_past size run (concat runs) fit.0)

pub fewest_of : (limit : ℕ) (runs : List (List ℕ)) (sizes : List ℕ) → concat runs ≡ sizes → AllFit limit runs → length (greedy_runs limit sizes) ≤ length runs
fewest_of limit runs sizes is fit = subst (λ (s : List ℕ). length (greedy_runs limit s) ≤ length runs) is (fewest limit runs fit)

-- a greater limit makes no more runs
pub count_antitone : (low high : ℕ) (sizes : List ℕ) → low ≤ high → length (greedy_runs high sizes) ≤ length (greedy_runs low sizes)
count_antitone low high sizes le = fewest_of high (greedy_runs low sizes) sizes (concat-greedy_runs low sizes) (AllFit-above low high (greedy_runs low sizes) le (AllFit-greedy_runs low sizes))

-- the whole list is one run at its sum
pub count_at_sum : (sizes : List ℕ) → length (greedy_runs (sum sizes) sizes) ≤ 1
count_at_sum sizes = fewest_of (sum sizes) (sizes ∷ []) sizes (append-nil sizes) (inl (omega arith), tt)
