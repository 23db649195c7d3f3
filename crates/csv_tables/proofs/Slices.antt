-- Slices in the order of what they point to.
use Rattle.std.proofs.Common.{◌+◌, ◌<◌, Bool, Bor, List, [], ◌∷◌, length, map, arith}
use Rattle.std.proofs.lemmas.List.{get_or-map, length-map}
use Rattle.std.specs.List.Sorted.{IsSortedBy}

pub sorted_by_now : {X : Type 0} (less : X → X → Bool) (slices : List (Bor X)) → IsSortedBy (λ a b. less a.now b.now) slices → IsSortedBy less (map (λ slice. slice.now) slices)
sorted_by_now less [] sorted k d low high = absurd (omega arith)
sorted_by_now less (first ∷ slices) sorted k d low high =
    let all = first ∷ slices in
    let size = length-map all (λ slice. slice.now) in
    let here : k + 1 < length all = omega (arith, size) in
    rw (get_or-map (λ slice. slice.now) all (k + 1) first d here, get_or-map (λ slice. slice.now) all k first d (omega arith)) (sorted k first low here)
