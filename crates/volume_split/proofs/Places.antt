-- The places of groups, and the runs that stand there.
use Rattle.std.proofs.Common.{◌≡◌, ◌⊎◌, inl, inr, ℕ, zero, suc, ◌+◌, ◌-◌, ◌*◌, ◌/◌, ◌<◌, ◌≤◌, leb, List, [], ◌∷◌, ◌++◌, All, length, sum, map, take, drop, refl, sym, ◌∙◌, ap, subst, append_assoc, length-append, arith}
use Rattle.std.specs.List.{concat, range_with_len, slice_range}
use Rattle.std.proofs.lemmas.Bool.{cond_both}
use Rattle.std.proofs.lemmas.List.{take_at, drop_at, drop_all, drop-drop, take-append-drop, length_push}
use Rattle.std.proofs.lemmas.List.Elements.{All-nil, All-cons}
use Rattle.std.proofs.lemmas.Nat.{le-div}
use Rattle.std.proofs.Math.Nat.{div-mul-le_self}
use Rattle.volume_split.specs.declared.group.Group.{Group}
use Rattle.volume_split.specs.Runs.{runs_from, greedy_runs}
use Rattle.volume_split.specs.Groups.{groups_from, groups_of, runs_of, Parts, even_group, even_groups}
use Rattle.volume_split.proofs.Fewest.{Fits, AllFit, AllFit-greedy_runs, concat-greedy_runs}

Parts-groups_from : (start : ℕ) (runs : List (List ℕ)) → Parts start (start + length (concat runs)) (groups_from start runs)
Parts-groups_from start [] = omega arith
Parts-groups_from start (run ∷ runs) = (
  refl,
  omega arith,
  subst (λ n. Parts (start + length run) n (groups_from (start + length run) runs))
      (let joined : length (run ++ concat runs) ≡ length run + length (concat runs) = length-append run (concat runs) in
      let whole : start + length run + length (concat runs) ≡ start + length (run ++ concat runs) = omega arith in whole)
      (Parts-groups_from (start + length run) runs),
)

pub Parts-greedy : (limit : ℕ) (sizes : List ℕ) → Parts 0 (length sizes) (groups_of (greedy_runs limit sizes))
Parts-greedy limit sizes =
    subst (λ n. Parts 0 n (groups_of (greedy_runs limit sizes)))
    (let whole : 0 + length (concat (greedy_runs limit sizes)) ≡ length sizes = omega (arith, ap length (concat-greedy_runs limit sizes)) in whole)
    (Parts-groups_from 0 (greedy_runs limit sizes))

run_at : (before run later : List ℕ) → slice_range (before ++ (run ++ later)) (length before) (length before + length run) ≡ run
run_at before run later =
    ap (λ (xs : List ℕ). take (length before + length run - length before) xs) (drop_at before (run ++ later) (length before) refl)
    ∙ take_at run later (length before + length run - length before) (omega arith)

runs_of-groups_from : (before : List ℕ) (runs : List (List ℕ)) → runs_of (before ++ concat runs) (groups_from (length before) runs) ≡ runs
runs_of-groups_from before [] = refl
runs_of-groups_from before (run ∷ runs) =
    let later : runs_of (before ++ (run ++ concat runs)) (groups_from (length before + length run) runs) ≡ runs
    = (λ i. runs_of (sym (append_assoc before run (concat runs)) i) (groups_from (sym (length-append before run) i) runs)) ∙ runs_of-groups_from (before ++ run) runs in
    λ i. run_at before run (concat runs) i ∷ later i

pub runs_of-greedy : (limit : ℕ) (sizes : List ℕ) → runs_of sizes (groups_of (greedy_runs limit sizes)) ≡ greedy_runs limit sizes
runs_of-greedy limit sizes =
    ap (λ (s : List ℕ). runs_of s (groups_of (greedy_runs limit sizes))) (sym (concat-greedy_runs limit sizes)) ∙ runs_of-groups_from [] (greedy_runs limit sizes)

pub length-groups_from : (start : ℕ) (runs : List (List ℕ)) → length (groups_from start runs) ≡ length runs
length-groups_from start [] = refl
length-groups_from start (run ∷ runs) = ap suc (length-groups_from (start + length run) runs)

slice_range-drop : (sizes : List ℕ) (a b : ℕ) → a ≤ b → slice_range sizes a b ++ drop b sizes ≡ drop a sizes
slice_range-drop sizes a b le =
    ap (λ (rest : List ℕ). take (b - a) (drop a sizes) ++ rest) (ap (λ n. drop n sizes) (let e : b ≡ a + (b - a) = omega arith in e) ∙ sym (drop-drop (b - a) a sizes))
    ∙ take-append-drop (b - a) (drop a sizes)

-- groups that part the places leave out nothing and take nothing twice
pub concat-runs_of : (sizes : List ℕ) (start : ℕ) (groups : List Group) → Parts start (length sizes) groups → concat (runs_of sizes groups) ≡ drop start sizes
concat-runs_of sizes start [] at_end = sym (drop_all start sizes (omega arith))
concat-runs_of sizes start (group ∷ groups) (at, ordered, rest) =
    ap (λ (later : List ℕ). slice_range sizes group.start group.end ++ later) (concat-runs_of sizes group.end groups rest)
    ∙ slice_range-drop sizes group.start group.end ordered
    ∙ ap (λ n. drop n sizes) at

-- no group is empty
abbrev pub Filled : List Group → Type 0
Filled [] = Unit {0}
Filled (group ∷ groups) = (group.start < group.end) × Filled groups

pub All-Filled : (groups : List Group) → Filled groups → All (λ group. group.start < group.end) groups
All-Filled [] filled = All-nil (λ group. group.start < group.end)
All-Filled (group ∷ groups) filled = All-cons (λ g. g.start < g.end) group groups filled.0 (All-Filled groups filled.1)

abbrev NoneEmpty : List (List ℕ) → Type 0
NoneEmpty [] = Unit {0}
NoneEmpty (run ∷ runs) = (0 < length run) × NoneEmpty runs

NoneEmpty-runs_from : (limit : ℕ) (run sizes : List ℕ) → 0 < length run → NoneEmpty (runs_from limit run sizes)
NoneEmpty-runs_from limit run [] some = (some, tt)
NoneEmpty-runs_from limit run (size ∷ sizes) some =
    cond_both (leb (sum run + size) limit) (runs_from limit (run ++ size ∷ []) sizes) (run ∷ runs_from limit (size ∷ []) sizes) (λ runs. NoneEmpty runs)
    (λ yes. NoneEmpty-runs_from limit (run ++ size ∷ []) sizes (omega (arith, length_push run size)))
    (λ no. (some, NoneEmpty-runs_from limit (size ∷ []) sizes (omega arith)))

NoneEmpty-greedy_runs : (limit : ℕ) (sizes : List ℕ) → NoneEmpty (greedy_runs limit sizes)
NoneEmpty-greedy_runs limit [] = tt
NoneEmpty-greedy_runs limit (size ∷ sizes) = NoneEmpty-runs_from limit (size ∷ []) sizes (omega arith)

Filled-groups_from : (start : ℕ) (runs : List (List ℕ)) → NoneEmpty runs → Filled (groups_from start runs)
Filled-groups_from start [] none = tt
Filled-groups_from start (run ∷ runs) none = (omega (arith, none.0), Filled-groups_from (start + length run) runs none.1)

pub Filled-greedy : (limit : ℕ) (sizes : List ℕ) → Filled (groups_of (greedy_runs limit sizes))
Filled-greedy limit sizes = Filled-groups_from 0 (greedy_runs limit sizes) (NoneEmpty-greedy_runs limit sizes)

one_size : (limit : ℕ) (run : List ℕ) → 0 < length run → Fits limit run → (sum run ≤ limit) ⊎ (length run ≡ 1)
one_size limit run some (inl within) = inl within
one_size limit run some (inr one) = inr (omega arith)

All-one_size : (limit : ℕ) (runs : List (List ℕ)) → NoneEmpty runs → AllFit limit runs → All (λ run. (sum run ≤ limit) ⊎ (length run ≡ 1)) runs
All-one_size limit [] none fit = All-nil (λ run. (sum run ≤ limit) ⊎ (length run ≡ 1))
All-one_size limit (run ∷ runs) none fit =
    All-cons (λ (r : List ℕ). (sum r ≤ limit) ⊎ (length r ≡ 1)) run runs (one_size limit run none.0 fit.0) (All-one_size limit runs none.1 fit.1)

-- a greedy run that is above the limit is one size alone
pub All-greedy_runs : (limit : ℕ) (sizes : List ℕ) → All (λ run. (sum run ≤ limit) ⊎ (length run ≡ 1)) (runs_of sizes (groups_of (greedy_runs limit sizes)))
All-greedy_runs limit sizes =
    subst (λ (runs : List (List ℕ)). All (λ run. (sum run ≤ limit) ⊎ (length run ≡ 1)) runs) (sym (runs_of-greedy limit sizes))
    (All-one_size limit (greedy_runs limit sizes) (NoneEmpty-greedy_runs limit sizes) (AllFit-greedy_runs limit sizes))

even_le : (n m k : ℕ) → 0 < m → k * n / m ≤ (k + 1) * n / m
even_le n m k some =
    let under : k * n / m * m ≤ k * n = div-mul-le_self (k * n) m in
    le-div (k * n / m) ((k + 1) * n) m some (omega arith)

even_lt : (n m k : ℕ) → 0 < m → m ≤ n → k * n / m < (k + 1) * n / m
even_lt n m k some le =
    let under : k * n / m * m ≤ k * n = div-mul-le_self (k * n) m in
    let above : k * n / m + 1 ≤ (k + 1) * n / m = le-div (k * n / m + 1) ((k + 1) * n) m some (omega arith) in
    omega arith

even_end : (n m : ℕ) → 0 < m → m * n / m ≡ n
even_end n m some = grind arith

Parts-even : (n m j k : ℕ) → 0 < m → k + j ≡ m → Parts (k * n / m) n (map (even_group n m) (range_with_len k j))
Parts-even n m zero k some is = ap (λ h. h * n / m) (let e : k ≡ m = omega arith in e) ∙ even_end n m some
Parts-even n m (suc j) k some is = (refl, even_le n m k some, Parts-even n m j (k + 1) some (omega arith))

pub Parts-even_groups : (n m : ℕ) → 0 < m → Parts 0 n (even_groups n m)
Parts-even_groups n m some = subst (λ start. Parts start n (even_groups n m)) (let e : 0 * n / m ≡ 0 = grind arith in e) (Parts-even n m m 0 some (omega arith))

Filled-even : (n m j k : ℕ) → 0 < m → m ≤ n → Filled (map (even_group n m) (range_with_len k j))
Filled-even n m zero k some le = tt
Filled-even n m (suc j) k some le = (even_lt n m k some le, Filled-even n m j (k + 1) some le)

pub Filled-even_groups : (n m : ℕ) → 0 < m → m ≤ n → Filled (even_groups n m)
Filled-even_groups n m some le = Filled-even n m m 0 some le
