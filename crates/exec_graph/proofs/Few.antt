-- There are no more vertices than nodes.
use Rattle.std.proofs.Common.{◌≡◌, ℕ, ◌<◌, ◌≤◌, Bool, true, false, ◌||◌, List, [], ◌∷◌, length, map, get_or, slice_get, Some, All, refl, sym, ◌∙◌, ap, subst, arith, nat_eq}
use Rattle.std.specs.List.{IsDistinct, list_any}
use Rattle.std.proofs.lemmas.Bool.{false≢true}
use Rattle.std.proofs.lemmas.Bool.Decides.{nat_tests}
use Rattle.std.proofs.lemmas.List.{length-map}
use Rattle.std.proofs.lemmas.List.Elements.{All-head, All-tail}
use Rattle.std.proofs.lemmas.Map.Keys.{IsDistinct-from_apart}
use Rattle.std.proofs.lemmas.Map.Steps.{length-le_from_distinct_below}
use Rattle.vertex_builder.specs.Chains.{is_among}
use Rattle.vertex_builder.specs.Vertices.{head_of}
use Rattle.graph_model.specs.declared.made_vertex.MadeVertex.{MadeVertex}
use Rattle.graph_model.specs.States.{Given, State, no_vertex, vertex_at}
use Rattle.graph_model.specs.Valid.{IsValid}
use Rattle.graph_model.proofs.Laws.{none_is_some, some_is}
use Rattle.graph_vertices.proofs.Laws.{at_map}

same_number : (m n : ℕ) → nat_eq m n ≡ true → m ≡ n
same_number m n e = grind (arith, nat_tests)

same_yes : (n : ℕ) → nat_eq n n ≡ true
same_yes n = grind (arith, nat_tests)

-- the first of a list stands in it
head_among : (nodes : List ℕ) (head : ℕ) → slice_get nodes 0 ≡ Some head → is_among nodes head ≡ true
head_among [] head is = absurd (none_is_some head is)
head_among (node ∷ nodes) head is = ap (λ (n : ℕ). nat_eq n node || is_among nodes n) (sym (some_is node head is)) ∙ ap (λ (b : Bool). b || is_among nodes node) (same_yes node)

-- what is among small numbers is small
among_small : (xs : List ℕ) (n q : ℕ) → All (λ x. x < n) xs → list_any (nat_eq q) xs ≡ true → q < n
among_small [] n q all e = absurd (false≢true e)
among_small (x ∷ xs) n q all e = by (among_small xs n q (All-tail (λ m. m < n) x xs all)) (nat_eq q x) refl e
  where
    by : (list_any (nat_eq q) xs ≡ true → q < n) → (b : Bool) → nat_eq q x ≡ b → (b || list_any (nat_eq q) xs) ≡ true → q < n
    by later true is h = subst (λ (m : ℕ). m < n) (sym (same_number q x is)) (All-head (λ m. m < n) x xs all)
    by later false is h = later h

is_false : (b : Bool) → (b ≡ true → ⊥) → b ≡ false
is_false true never = absurd (never refl)
is_false false never = refl

abbrev heads : List MadeVertex → List ℕ
heads vertices = map (λ made. head_of made.vertex) vertices

pub few_vertices : (given : Given) (state : State) → IsValid given state → length state.vertices ≤ length given.nodes
few_vertices given state valid =
    let vs = state.vertices in
    let long : length (heads vs) ≡ length vs = length-map vs (λ made. head_of made.vertex) in
    let head_at : (v d : ℕ) → v < length vs → get_or (heads vs) v d ≡ head_of (vertex_at vs v).vertex = λ v d lt. at_map (λ made. head_of made.vertex) vs v no_vertex d lt in
    let distinct : IsDistinct nat_eq (heads vs) = IsDistinct-from_apart nat_eq (heads vs) (λ u v d before inside.
    let lt : v < length vs = omega (arith, inside, long) in
    let less : u < length vs = omega (arith, lt, before) in
    let one = head_of (vertex_at vs u).vertex in
    let other = head_of (vertex_at vs v).vertex in
    let mine : is_among (vertex_at vs u).vertex.nodes one ≡ true = head_among (vertex_at vs u).vertex.nodes one (valid.made u less).is.chain.first in
    let apart : is_among (vertex_at vs u).vertex.nodes other ≡ false = valid.apart u v before lt in
    ap (λ (n : ℕ). nat_eq n (get_or (heads vs) v d)) (head_at u d less) ∙ ap (nat_eq one) (head_at v d lt)
    ∙ is_false (nat_eq one other) (λ is. false≢true (sym apart ∙ ap (is_among (vertex_at vs u).vertex.nodes) (sym (same_number one other is)) ∙ mine))) in
    let small : All (λ n. n < length given.nodes) (heads vs) = λ v d inside.
    let lt : v < length vs = omega (arith, inside, long) in
    subst (λ (n : ℕ). n < length given.nodes) (sym (head_at v d lt)) (valid.made v lt).within in
    let few = length-le_from_distinct_below (heads vs) (length given.nodes) distinct (λ q e. among_small (heads vs) (length given.nodes) q small e) in
    omega (arith, few, long)
