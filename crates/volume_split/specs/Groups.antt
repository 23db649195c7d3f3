-- Groups are runs by their places in the list.
use Rattle.std.specs.Prelude.{◌≡◌, ℕ, ◌+◌, ◌*◌, ◌/◌, ◌≤◌, List, [], ◌∷◌, length, map, slice_range}
use Rattle.std.specs.List.{range_with_len}
use Rattle.volume_split.specs.declared.group.Group.{Group}

-- the groups of runs, the first of which starts at a place
abbrev pub groups_from : ℕ → List (List ℕ) → List Group
groups_from start [] = []
groups_from start (run ∷ runs) =
    record { start = start; end = start + length run } ∷ groups_from (start + length run) runs

-- the groups of the runs of a whole list
abbrev pub groups_of : List (List ℕ) → List Group
groups_of runs = groups_from 0 runs

-- the runs of groups: what stands at the places of each
abbrev pub runs_of : List ℕ → List Group → List (List ℕ)
runs_of sizes groups = map (λ group. slice_range sizes group.start group.end) groups

-- groups that part the places from one up to another: each starts where the one before it ends
abbrev pub Parts : ℕ → ℕ → List Group → Type 0
Parts start end [] = start ≡ end
Parts start end (group ∷ groups) =
    (group.start ≡ start) × (group.start ≤ group.end) × Parts group.end end groups

-- group k of m groups of n items, whose lengths differ by at most one
abbrev pub even_group : ℕ → ℕ → ℕ → Group
even_group n m k = record { start = k * n / m; end = (k + 1) * n / m }

-- m groups of n items
abbrev pub even_groups : ℕ → ℕ → List Group
even_groups n m = map (even_group n m) (range_with_len 0 m)
