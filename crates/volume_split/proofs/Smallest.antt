-- At the least limit that gives few enough runs, no cutting into as few runs has a smaller largest run.
use Rattle.std.proofs.Common.{◌≡◌, ℕ, ◌+◌, ◌<◌, ◌≤◌, max, inl, inr, List, [], ◌∷◌, ◌++◌, length, sum, sym, subst, arith}
use Rattle.std.proofs.lemmas.Bool.{cases_lt}
use Rattle.std.proofs.Math.Nat.{le-max_left, le-max_right, max-le}
use Rattle.std.specs.List.{concat}
use Rattle.volume_split.specs.Runs.{greedy_runs, largest_run}
use Rattle.volume_split.specs.Choices.{IsLeastLimit}
use Rattle.volume_split.proofs.Filling.{sum_one}
use Rattle.volume_split.proofs.Fewest.{sum-cons, Fits, AllFit, AllFit-greedy_runs, concat-greedy_runs, count_antitone, fewest_of}

-- no size is above a bound
abbrev EachWithin : ℕ → List ℕ → Type 0
EachWithin bound [] = Unit {0}
EachWithin bound (size ∷ sizes) = (size ≤ bound) × EachWithin bound sizes

within_sum : (bound : ℕ) (run : List ℕ) → sum run ≤ bound → EachWithin bound run
within_sum bound [] le = tt
within_sum bound (size ∷ run) le = let whole : sum (size ∷ run) ≡ size + sum run = sum-cons size run in (omega arith, within_sum bound run (omega arith))

within_both : (bound : ℕ) (xs ys : List ℕ) → EachWithin bound xs → EachWithin bound ys → EachWithin bound (xs ++ ys)
within_both bound [] ys first second = second
within_both bound (x ∷ xs) ys first second = (first.0, within_both bound xs ys first.1 second)

within_first : (bound : ℕ) (xs ys : List ℕ) → EachWithin bound (xs ++ ys) → EachWithin bound xs
within_first bound [] ys both = tt
within_first bound (x ∷ xs) ys both = (both.0, within_first bound xs ys both.1)

within_second : (bound : ℕ) (xs ys : List ℕ) → EachWithin bound (xs ++ ys) → EachWithin bound ys
within_second bound [] ys both = both
within_second bound (x ∷ xs) ys both = within_second bound xs ys both.1

within_largest : (bound : ℕ) (runs : List (List ℕ)) → largest_run runs ≤ bound → EachWithin bound (concat runs)
within_largest bound [] le = tt
within_largest bound (run ∷ runs) le =
    let here : sum run ≤ max (sum run) (largest_run runs) = le-max_left (sum run) (largest_run runs) in
    let later : largest_run runs ≤ max (sum run) (largest_run runs) = le-max_right (sum run) (largest_run runs) in
    within_both bound run (concat runs) (within_sum bound run (omega arith)) (within_largest bound runs (omega arith))

fit_largest : (bound : ℕ) (runs : List (List ℕ)) → largest_run runs ≤ bound → AllFit bound runs
fit_largest bound [] le = tt
fit_largest bound (run ∷ runs) le =
    let here : sum run ≤ max (sum run) (largest_run runs) = le-max_left (sum run) (largest_run runs) in
    let later : largest_run runs ≤ max (sum run) (largest_run runs) = le-max_right (sum run) (largest_run runs) in
    (inl (omega arith), fit_largest bound runs (omega arith))

-- no cutting into runs within a limit has fewer runs
pub fewest_within : (limit : ℕ) (runs : List (List ℕ)) (sizes : List ℕ) → concat runs ≡ sizes → largest_run runs ≤ limit → length (greedy_runs limit sizes) ≤ length runs
fewest_within limit runs sizes is le = fewest_of limit runs sizes is (fit_largest limit runs le)

-- a run that is above the limit is one size alone
run_within : (limit bound : ℕ) (run : List ℕ) → limit ≤ bound → EachWithin bound run → Fits limit run → sum run ≤ bound
run_within limit bound run le each (inl within) = omega arith
run_within limit bound [] le each (inr one) = omega arith
run_within limit bound (size ∷ []) le each (inr one) = omega (arith, sum_one size, each.0)
run_within limit bound (size ∷ other ∷ run) le each (inr one) = absurd (omega arith)

runs_within : (limit bound : ℕ) (runs : List (List ℕ)) → limit ≤ bound → EachWithin bound (concat runs) → AllFit limit runs → largest_run runs ≤ bound
runs_within limit bound [] le each fit = omega arith
runs_within limit bound (run ∷ runs) le each fit =
    max-le (run_within limit bound run le (within_first bound run (concat runs) each) fit.0)
    (runs_within limit bound runs le (within_second bound run (concat runs) each) fit.1)

-- the least limit comes to the smallest largest run
pub smallest_largest : (most limit : ℕ) (sizes : List ℕ) → IsLeastLimit most sizes limit
    → (runs : List (List ℕ)) → concat runs ≡ sizes → length runs ≤ most → largest_run (greedy_runs limit sizes) ≤ largest_run runs
smallest_largest most limit sizes is_least runs is few =
    runs_within limit (largest_run runs) (greedy_runs limit sizes) below
    (subst (λ (s : List ℕ). EachWithin (largest_run runs) s) (sym (concat-greedy_runs limit sizes))
    (subst (λ (s : List ℕ). EachWithin (largest_run runs) s) is (within_largest (largest_run runs) runs (omega arith))))
    (AllFit-greedy_runs limit sizes)
  where
    below : limit ≤ largest_run runs
    below =
        let fewer : length (greedy_runs (largest_run runs) sizes) ≤ length runs
        = fewest_of (largest_run runs) runs sizes is (fit_largest (largest_run runs) runs (omega arith)) in
        is_least.least (largest_run runs) (omega arith)

-- a limit that gives few enough runs is the least, if the one below it does not
pub least_from : (most low high : ℕ) (sizes : List ℕ) → high ≤ low + 1 → most < length (greedy_runs low sizes) → length (greedy_runs high sizes) ≤ most → IsLeastLimit most sizes high
least_from most low high sizes next many few = record {
  fits = few;
  least = λ other fits.
      elim (cases_lt low other) [
        | inl above ↦ omega arith
        | inr below ↦ absurd (omega (arith, count_antitone other low sizes below))
      ];
}
