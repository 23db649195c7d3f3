-- The least and the greatest number of rects' producers.
use Rattle.std.proofs.Common.{ℕ, ◌≤◌, List, [], ◌∷◌, fold, max, min, arith, All}
use Rattle.std.proofs.lemmas.List.Elements.{All-cons, All-nil}
use Rattle.rect_cover.specs.declared.rect.Rect.{Rect}

abbrev least_of : List Rect → ℕ → ℕ
least_of rects count = fold (λ least rect. min least rect.p0) count rects

abbrev end_of : List Rect → ℕ → ℕ
end_of rects end = fold (λ end rect. max end rect.p1) end rects

pub least_within : (rects : List Rect) (count : ℕ) → least_of rects count ≤ count
least_within [] count = omega arith
least_within (rect ∷ rects) count = let rest = least_within rects (min count rect.p0) in omega (arith, rest)

pub least_below : (rects : List Rect) (count : ℕ) → All (λ rect. least_of rects count ≤ rect.p0) rects
least_below [] count = All-nil (λ (rect : Rect). count ≤ rect.p0)
least_below (rect ∷ rects) count =
    let least = least_of rects (min count rect.p0) in
    let within = least_within rects (min count rect.p0) in
    All-cons (λ (r : Rect). least ≤ r.p0) rect rects (omega (arith, within)) (least_below rects (min count rect.p0))

end_after : (rects : List Rect) (end : ℕ) → end ≤ end_of rects end
end_after [] end = omega arith
end_after (rect ∷ rects) end = let rest = end_after rects (max end rect.p1) in omega (arith, rest)

pub ends_within : (rects : List Rect) (end : ℕ) → All (λ rect. rect.p1 ≤ end_of rects end) rects
ends_within [] end = All-nil (λ (rect : Rect). rect.p1 ≤ end)
ends_within (rect ∷ rects) end =
    let last = end_of rects (max end rect.p1) in
    let after = end_after rects (max end rect.p1) in
    All-cons (λ (r : Rect). r.p1 ≤ last) rect rects (omega (arith, after)) (ends_within rects (max end rect.p1))
