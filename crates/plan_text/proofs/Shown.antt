-- Each node of a plan is in a vertex that is made.
use Rattle.std.proofs.Common.{◌≡◌, ℕ, ◌<◌, nat_eq, nat_lt, Bool, true, false, ◌||◌, List, [], ◌∷◌, length, refl, sym, ◌∙◌, ap, subst, arith}
use Rattle.std.specs.List.{flat_map, AllByRecursion, IsDistinct}
use Rattle.std.proofs.lemmas.Bool.{false≢true}
use Rattle.std.proofs.lemmas.List.Folds.{list_any-append}
use Rattle.std.proofs.lemmas.Map.Keys.{IsDistinct-head, IsDistinct-tail}
use Rattle.plan_model.specs.Checks.{plan_faults}
use Rattle.vertex_builder.specs.declared.widening.Widening.{Widening}
use Rattle.plan_model.specs.declared.node.Node.{Node}
use Rattle.vertex_builder.specs.Chains.{is_among, chain_of, ChainsPart}
use Rattle.vertex_builder.proofs.Laws.{chains_part, either_left, either_right, same_number, same_yes}
use Rattle.plan_text.specs.Making.{nodes_of_vertices, making_order}
use Rattle.plan_text.specs.OrderLaws.{EachNodeIsShown}
use Rattle.plan_text.proofs.EachHead.{are_heads, made_each, same_truth}
use Rattle.plan_text.proofs.Membership.{below_yes, below_is, among_pieces, distinct_append, distinct_range}

-- what stands in one of two lists
in_either : (a b : Bool) (P : Type 0) → (a ≡ true → P) → (b ≡ true → P) → (a || b) ≡ true → P
in_either true b P f g e = f refl
in_either false b P f g e = g e

pieces_within : (f : ℕ → List ℕ) (n q : ℕ) (xs : List ℕ) → ((x : ℕ) → is_among xs x ≡ true → is_among (f x) q ≡ true → q < n) → is_among (flat_map f xs) q ≡ true → q < n
pieces_within f n q [] h e = absurd (false≢true e)
pieces_within f n q (x ∷ xs) h e =
    in_either (is_among (f x) q) (is_among (flat_map f xs) q) (q < n)
    (h x (either_left (nat_eq x x) (is_among xs x) (same_yes x)))
    (pieces_within f n q xs (λ y is. h y (either_right (nat_eq y x) (is_among xs y) is)))
    (sym (list_any-append (nat_eq q) (f x) (flat_map f xs)) ∙ e)

-- ---- no number twice in pieces

each_among : (P : ℕ → Type 0) (xs : List ℕ) (z : ℕ) → AllByRecursion P xs → is_among xs z ≡ true → P z
each_among P [] z all e = absurd (false≢true e)
each_among P (x ∷ xs) z all e = at (nat_eq z x) refl (each_among P xs z all.1)
  where
    at : (b : Bool) → nat_eq z x ≡ b → (is_among xs z ≡ true → P z) → P z
    at true is rest = subst P (sym (same_number z x is)) all.0
    at false is rest = rest (sym (ap (λ (b : Bool). b || is_among xs z) is) ∙ e)

all_among : (P : ℕ → Type 0) (xs : List ℕ) → ((z : ℕ) → is_among xs z ≡ true → P z) → AllByRecursion P xs
all_among P [] h = tt
all_among P (x ∷ xs) h = (h x (either_left (nat_eq x x) (is_among xs x) (same_yes x)), all_among P xs (λ z e. h z (either_right (nat_eq z x) (is_among xs z) e)))

record InPiece (f : ℕ → List ℕ) (xs : List ℕ) (q : ℕ) : Type 0 where
  pub item : ℕ
  pub among : is_among xs item ≡ true
  pub inside : is_among (f item) q ≡ true

in_piece : (f : ℕ → List ℕ) (xs : List ℕ) (q : ℕ) → is_among (flat_map f xs) q ≡ true → InPiece f xs q
in_piece f [] q e = absurd (false≢true e)
in_piece f (x ∷ xs) q e = at (is_among (f x) q) refl (in_piece f xs q) (sym (list_any-append (nat_eq q) (f x) (flat_map f xs)) ∙ e)
  where
    at : (b : Bool) → is_among (f x) q ≡ b → (is_among (flat_map f xs) q ≡ true → InPiece f xs q) → (b || is_among (flat_map f xs) q) ≡ true → InPiece f (x ∷ xs) q
    at true is rest says = record { item = x; among = either_left (nat_eq x x) (is_among xs x) (same_yes x); inside = is }
    at false is rest says = let r = rest says in record { item = r.item; among = either_right (nat_eq r.item x) (is_among xs r.item) r.among; inside = r.inside }

-- no number stands in the pieces of two items
abbrev ArePiecesApart : (ℕ → List ℕ) → List ℕ → Type 0
ArePiecesApart f xs = (a b q : ℕ) → is_among xs a ≡ true → is_among xs b ≡ true → is_among (f a) q ≡ true → is_among (f b) q ≡ true → a ≡ b

pieces_distinct : (f : ℕ → List ℕ) (xs : List ℕ) → IsDistinct nat_eq xs → ((x : ℕ) → IsDistinct nat_eq (f x)) → ArePiecesApart f xs → IsDistinct nat_eq (flat_map f xs)
pieces_distinct f [] d each apart = distinct_range 0
pieces_distinct f (x ∷ xs) d each apart =
    distinct_append (f x) (flat_map f xs) (each x)
    (pieces_distinct f xs (IsDistinct-tail nat_eq x xs d) each (λ a b q in_a in_b. apart a b q (either_right (nat_eq a x) (is_among xs a) in_a) (either_right (nat_eq b x) (is_among xs b) in_b)))
    (all_among (λ q. is_among (f x) q ≡ false) (flat_map f xs) (λ q e. at q (is_among (f x) q) refl (in_piece f xs q e)))
  where
    at : (q : ℕ) (b : Bool) → is_among (f x) q ≡ b → InPiece f xs q → is_among (f x) q ≡ false
    at q true is by =
        let same = apart x by.item q (either_left (nat_eq x x) (is_among xs x) (same_yes x)) (either_right (nat_eq by.item x) (is_among xs by.item) by.among) is by.inside in
        let other = each_among (λ y. nat_eq x y ≡ false) xs by.item (IsDistinct-head nat_eq x xs d) by.among in
        absurd (false≢true (sym other ∙ ap (λ (n : ℕ). nat_eq x n) (sym same) ∙ same_yes x))
    at q false is by = is

-- ---- all chains

module _ (nodes : List Node) (widened : List Widening) (good : plan_faults nodes ≡ []) where
  part : ChainsPart nodes widened
  part = chains_part nodes widened good

  all_shown : (q : ℕ) → is_among (nodes_of_vertices nodes widened (making_order nodes widened)) q ≡ nat_lt q (length nodes)
  all_shown q =
      let made = making_order nodes widened in
      same_truth (is_among (nodes_of_vertices nodes widened made) q) (nat_lt q (length nodes))
      (λ e. below_yes q (length nodes) (pieces_within (chain_of nodes widened) (length nodes) q made
      (λ head is. part.inside head q ((are_heads nodes widened (length nodes)).heads head is).within) e))
      (λ e.
      let of = part.each q (below_is q (length nodes) e) in
      let within : of.head < length nodes = let lt = below_is q (length nodes) e in omega (arith, of.before, lt) in
      among_pieces (chain_of nodes widened) made of.head q (made_each nodes widened good of.head within of.is) of.inside)

  shown_once : IsDistinct nat_eq (nodes_of_vertices nodes widened (making_order nodes widened))
  shown_once =
      let all = are_heads nodes widened (length nodes) in
      pieces_distinct (chain_of nodes widened) (making_order nodes widened) all.distinct part.once
      (λ a b q in_a in_b. part.one q a b (all.heads a in_a).head (all.heads b in_b).head)

pub each_node_is_shown : EachNodeIsShown
each_node_is_shown nodes widened good = record { all = all_shown nodes widened good; once = shown_once nodes widened good }
