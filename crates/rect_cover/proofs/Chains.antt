-- What is chained after the head goes row by row.
use Rattle.std.proofs.Common.{All, List, [], ◌∷◌, sym, ◌∙◌}
use Rattle.std.specs.List.{flat_map, AllZip}
use Rattle.row_core.specs.Bags.{SameBag}
use Rattle.bag_laws.specs.Rows.{OneRow as Row}
use Rattle.bag_laws.proofs.Laws.{total, total-where, total-flat_map, by_weights, weighs, same_refl, same_on, same_flat_map, flat_map-joined}
use Rattle.rect_cover.specs.Chains.{chained, GivesSame}

pub chained-same : (fs gs : List (Row → List Row)) {xs ys : List Row} → AllZip GivesSame fs gs → SameBag xs ys → SameBag (chained fs xs) (chained gs ys)
chained-same [] [] each same = same
chained-same [] (g ∷ gs) each same = absurd each
chained-same (f ∷ fs) [] each same = absurd each
chained-same (f ∷ fs) (g ∷ gs) {xs} {ys} each same = chained-same fs gs each.1 (same_flat_map f g xs ys (each.0).each same)

itself : (gs : List (Row → List Row)) → AllZip GivesSame gs gs
itself [] = tt
itself (g ∷ gs) = (record { each = λ x. same_refl (g x) }, itself gs)

chained-joined : {T : Type 0} (gs : List (Row → List Row)) (heads : T → List Row) (ts : List T) → SameBag (flat_map (λ t. chained gs (heads t)) ts) (chained gs (flat_map heads ts))
chained-joined [] heads ts = same_refl (flat_map heads ts)
chained-joined (g ∷ gs) heads ts =
    same_on (chained-joined gs (λ t. flat_map g (heads t)) ts) (chained-same gs gs (itself gs) (flat_map-joined g heads ts))

-- the subtasks' chains on what their heads give are the chain on what the head gives on the whole
pub chain_law : {T : Type 0} (chain : T → List (Row → List Row)) (gs : List (Row → List Row)) (heads : T → List Row) (all : List Row) (ts : List T)
    → All (λ t. AllZip GivesSame (chain t) gs) ts → SameBag (flat_map heads ts) all
    → SameBag (flat_map (λ t. chained (chain t) (heads t)) ts) (chained gs all)
chain_law chain gs heads all ts same head = by_weights (λ w.
    total-flat_map w (λ t. chained (chain t) (heads t)) ts
    ∙ total-where (λ t. AllZip GivesSame (chain t) gs) (λ t. total w (chained (chain t) (heads t))) (λ t. total w (chained gs (heads t))) ts
    (λ t links. weighs (chained-same (chain t) gs links (same_refl (heads t))) w) same
    ∙ sym (total-flat_map w (λ t. chained gs (heads t)) ts)
    ∙ weighs (chained-joined gs heads ts) w
    ∙ weighs (chained-same gs gs (itself gs) head) w)
