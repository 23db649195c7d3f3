-- Looking up winners, and the vertices of nodes.
use Rattle.std.proofs.Common.{◌≡◌, ℕ, zero, suc, ◌+◌, ◌<◌, ◌≤◌, Bool, not, cond, List, [], ◌∷◌, length, map, get_or, Some, refl, sym, ◌∙◌, ap, subst, arith, true, false}
use Rattle.std.specs.List.{AllZip}
use Rattle.std.proofs.lemmas.Bool.{false≢true}
use Rattle.std.proofs.lemmas.List.{get_or_default, length-map}
use Rattle.graph_model.specs.Legal.{IsNamed}
use Rattle.graph_model.specs.Reads.{ReadEdge}
use Rattle.std.proofs.lemmas.List.Sums.{position_or_len_is}
use Rattle.estate.specs.declared.part_name.PartName.{PartName}
use Rattle.vertex_builder.specs.Chains.{is_among}
use Rattle.graph_model.specs.declared.sub.Sub.{Sub}
use Rattle.graph_model.specs.declared.made_vertex.MadeVertex.{MadeVertex}
use Rattle.graph_model.specs.States.{no_vertex, vertex_at, winner_name, maker}
use Rattle.graph_model.proofs.Laws.{get_or-map}
use Rattle.graph_vertices.specs.Winning.{IsWonBy}

pub at_map : {X Y : Type 0} (f : X → Y) (xs : List X) (k : ℕ) (d : X) (e : Y) → k < length xs → get_or (map f xs) k e ≡ f (get_or xs k d)
at_map f xs k d e lt = get_or_default (map f xs) k e (f d) (omega (arith, lt, length-map xs f)) ∙ get_or-map f xs k d

pub all_won : (vs : List MadeVertex) (subs : List Sub) (names : List PartName) → length subs ≡ length names
    → ((k : ℕ) (sub : Sub) (name : PartName) → k < length subs → winner_name vs (get_or subs k sub) ≡ Some (get_or names k name)) → AllZip (IsWonBy vs) subs names
all_won vs [] [] long each = tt
all_won vs [] (name ∷ names) long each = absurd (omega (arith, long))
all_won vs (sub ∷ subs) [] long each = absurd (omega (arith, long))
all_won vs (sub ∷ subs) (name ∷ names) long each =
    (each 0 sub name (omega arith), all_won vs subs names (omega (arith, long)) (λ k s n lt. each (suc k) s n (omega (arith, lt))))

pub won_in : (vs : List MadeVertex) (subs : List Sub) (names : List PartName) → AllZip (IsWonBy vs) subs names → (k : ℕ) (sub : Sub) (name : PartName) → k < length subs → winner_name vs (get_or subs k sub) ≡ Some (get_or names k name)
won_in vs [] [] are k sub name lt = absurd (omega (arith, lt))
won_in vs [] (n ∷ names) are k sub name lt = absurd are
won_in vs (s ∷ subs) [] are k sub name lt = absurd are
won_in vs (s ∷ subs) (n ∷ names) (here, rest) zero sub name lt = here
won_in vs (s ∷ subs) (n ∷ names) (here, rest) (suc k) sub name lt = won_in vs subs names rest k sub name (omega (arith, lt))

pub same_long : (vs : List MadeVertex) (subs : List Sub) (names : List PartName) → AllZip (IsWonBy vs) subs names → length subs ≡ length names
same_long vs [] [] are = refl
same_long vs [] (n ∷ names) are = absurd are
same_long vs (s ∷ subs) [] are = absurd are
same_long vs (s ∷ subs) (n ∷ names) (here, rest) = ap (λ (k : ℕ). suc k) (same_long vs subs names rest)

-- by edges and by their subtasks
pub named_won : (vs : List MadeVertex) (edges : List ReadEdge) (names : List PartName) → AllZip (IsNamed vs) edges names → AllZip (IsWonBy vs) (map (λ edge. edge.sub) edges) names
named_won vs [] [] h = tt
named_won vs [] (n ∷ names) h = absurd h
named_won vs (e ∷ edges) [] h = absurd h
named_won vs (e ∷ edges) (n ∷ names) (here, rest) = (here, named_won vs edges names rest)

pub won_named : (vs : List MadeVertex) (edges : List ReadEdge) (names : List PartName) → AllZip (IsWonBy vs) (map (λ edge. edge.sub) edges) names → AllZip (IsNamed vs) edges names
won_named vs [] [] h = tt
won_named vs [] (n ∷ names) h = absurd h
won_named vs (e ∷ edges) [] h = absurd h
won_named vs (e ∷ edges) (n ∷ names) (here, rest) = (here, won_named vs edges names rest)

pub maker_found : (vs : List MadeVertex) (node place : ℕ) → ((k : ℕ) → k < place → is_among (get_or vs k no_vertex).vertex.nodes node ≡ false) → place < length vs
    → is_among (get_or vs place no_vertex).vertex.nodes node ≡ true → place ≡ maker vs node
maker_found vs node place before lt here = sym (position_or_len_is (λ (m : MadeVertex). is_among m.vertex.nodes node) vs place no_vertex (omega (arith, lt)) before (λ _. here))

pub maker_none : (vs : List MadeVertex) (node place : ℕ) → ((k : ℕ) → k < place → is_among (get_or vs k no_vertex).vertex.nodes node ≡ false) → length vs ≤ place → place ≤ length vs → length vs ≡ maker vs node
maker_none vs node place before le end =
    let on : place ≡ length vs = omega (arith, le, end) in
    sym (position_or_len_is (λ (m : MadeVertex). is_among m.vertex.nodes node) vs (length vs) no_vertex (omega arith) (subst (λ (n : ℕ). (k : ℕ) → k < n → is_among (get_or vs k no_vertex).vertex.nodes node ≡ false) on before) (λ lt. absurd (omega (arith, lt))))

pub same_maps : {X Y Z : Type 0} (f : X → Z) (g : Y → Z) (xs : List X) (ys : List Y) → length xs ≡ length ys
    → ((k : ℕ) (d : X) (e : Y) → k < length xs → f (get_or xs k d) ≡ g (get_or ys k e)) → map f xs ≡ map g ys
same_maps f g [] [] long each = refl
same_maps f g [] (y ∷ ys) long each = absurd (omega (arith, long))
same_maps f g (x ∷ xs) [] long each = absurd (omega (arith, long))
same_maps {Z = Z} f g (x ∷ xs) (y ∷ ys) long each =
    ap (λ (z : Z). z ∷ map f xs) (each 0 x y (omega arith)) ∙ ap (λ (l : List Z). g y ∷ l) (same_maps f g xs ys (omega (arith, long)) (λ k d e lt. each (suc k) d e (omega (arith, lt))))

pub at_maps : {X Y Z : Type 0} (f : X → Z) (g : Y → Z) (xs : List X) (ys : List Y) → map f xs ≡ map g ys → (k : ℕ) (d : X) (e : Y) → k < length xs → k < length ys → f (get_or xs k d) ≡ g (get_or ys k e)
at_maps {Z = Z} f g xs ys same k d e lt less = sym (at_map f xs k d (f d) lt) ∙ ap (λ (l : List Z). get_or l k (f d)) same ∙ at_map g ys k e (f d) less

-- the first vertex that has a node is no later than any
pub maker_first : (vs : List MadeVertex) (v node : ℕ) → v < length vs → is_among (vertex_at vs v).vertex.nodes node ≡ true → maker vs node ≤ v
maker_first [] v node lt is = absurd (omega (arith, lt))
maker_first (made ∷ vs) zero node lt is = first (is_among made.vertex.nodes node) is
  where
    first : (b : Bool) → b ≡ true → cond (not b) (1 + maker vs node) 0 ≤ 0
    first true e = omega arith
    first false e = absurd (false≢true e)
maker_first (made ∷ vs) (suc v) node lt is = by (is_among made.vertex.nodes node) (maker_first vs v node (omega (arith, lt)) is)
  where
    by : (b : Bool) → maker vs node ≤ v → cond (not b) (1 + maker vs node) 0 ≤ suc v
    by true le = omega arith
    by false le = omega (arith, le)
