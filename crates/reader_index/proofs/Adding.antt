-- Tasks that are added one after the other.
use Rattle.std.proofs.Common.{◌≡◌, ℕ, zero, suc, ◌+◌, ◌<◌, List, [], ◌∷◌, ◌++◌, length, drop, get_or, refl, subst, arith, false}
use Rattle.std.specs.List.{sum_by}
use Rattle.std.proofs.lemmas.List.{length_push}
use Rattle.std.proofs.lemmas.List.Sums.{sum_by-cons}
use Rattle.reader_index.specs.Tasks.{Tasks, with_task, with_tasks}

pub tasks_push : (tasks : Tasks) (lists : List (List ℕ)) (producers : List ℕ) → with_tasks tasks (lists ++ producers ∷ []) ≡ with_task (with_tasks tasks lists) producers
tasks_push tasks [] producers = refl
tasks_push tasks (first ∷ lists) producers = tasks_push (with_task tasks first) lists producers

pub tasks_count : (tasks : Tasks) (lists : List (List ℕ)) → length (with_tasks tasks lists).done ≡ length tasks.done + length lists
tasks_count tasks [] = omega arith
tasks_count tasks (first ∷ lists) = let rest = tasks_count (with_task tasks first) lists in let one = length_push tasks.done false in omega (arith, rest, one)

pub sum_drop : (lists : List (List ℕ)) (k : ℕ) → k < length lists → sum_by length (drop k lists) ≡ length (get_or lists k []) + sum_by length (drop (k + 1) lists)
sum_drop [] k lt = absurd (omega (arith, lt))
sum_drop (first ∷ lists) zero lt = sum_by-cons (length {A = ℕ}) first lists
sum_drop (first ∷ lists) (suc k) lt =
    let on : suc (k + 1) ≡ suc k + 1 = omega arith in
    subst (λ (m : ℕ). sum_by length (drop k lists) ≡ length (get_or lists k []) + sum_by length (drop m (first ∷ lists))) on (sum_drop lists k (omega (arith, lt)))
