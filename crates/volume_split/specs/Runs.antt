-- Runs of neighbouring sizes. A greedy run is filled as far as a limit lets it, then the next.
use Rattle.std.specs.Prelude.{ℕ, ◌+◌, max, nat_le, sum, List, [], ◌∷◌, ◌++◌, if◌then◌else◌}

-- the runs from this one on: a size joins it if the sum stays at most the limit, else begins a new
abbrev pub runs_from : ℕ → List ℕ → List ℕ → List (List ℕ)
runs_from limit run [] = run ∷ []
runs_from limit run (size ∷ sizes) =
    if nat_le (sum run + size) limit then runs_from limit (run ++ size ∷ []) sizes
    else run ∷ runs_from limit (size ∷ []) sizes

-- the greedy runs of a list of sizes
abbrev pub greedy_runs : ℕ → List ℕ → List (List ℕ)
greedy_runs limit [] = []
greedy_runs limit (size ∷ sizes) = runs_from limit (size ∷ []) sizes

-- the largest sum of a run, or 0 where there is none
abbrev pub largest_run : List (List ℕ) → ℕ
largest_run [] = 0
largest_run (run ∷ runs) = max (sum run) (largest_run runs)
