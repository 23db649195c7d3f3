-- Edges, one node or one input more at a time, and lists of them.
use Rattle.std.proofs.Common.{◌≡◌, ℕ, zero, suc, ◌+◌, ◌<◌, ◌==◌, List, [], ◌∷◌, ◌++◌, length, take, filter, get_or, Option, replicate, slice_index_or, refl, sym, ◌∙◌, ap, append_assoc, arith, length-take-le}
use Rattle.std.specs.List.{cons_option, filter_map, range_with_len}
use Rattle.std.proofs.lemmas.List.{append-nil, take_more}
use Rattle.std.proofs.lemmas.List.Elements.{filter-append, filter_map-append}
use Rattle.plan_model.specs.declared.node.Node.{Node}
use Rattle.vertex_builder.specs.declared.edge.Edge.{Edge}
use Rattle.vertex_builder.specs.Edges.{edges_into, edges_from, edges_of, consumer_edges}
use Rattle.vertex_builder.specs.Links.{HaveMore, ListConsumers}

-- ---- edges

edges_into-append : (node place : ℕ) (xs ys : List ℕ) → edges_into node place (xs ++ ys) ≡ edges_into node place xs ++ edges_into node (place + length xs) ys
edges_into-append node place [] ys = ap (λ (n : ℕ). edges_into node n ys) (omega arith)
edges_into-append node place (x ∷ xs) ys =
    let on : place + 1 + length xs ≡ place + suc (length xs) = omega arith in
    ap (λ (edges : List Edge). record { from = x; into = node; place = place } ∷ edges)
    (edges_into-append node (place + 1) xs ys ∙ ap (λ (n : ℕ). edges_into node (place + 1) xs ++ edges_into node n ys) on)

edges_from-append : (place : ℕ) (xs ys : List Node) → edges_from place (xs ++ ys) ≡ edges_from place xs ++ edges_from (place + length xs) ys
edges_from-append place [] ys = ap (λ (n : ℕ). edges_from n ys) (omega arith)
edges_from-append place (x ∷ xs) ys =
    let on : place + 1 + length xs ≡ place + suc (length xs) = omega arith in
    ap (λ (edges : List Edge). edges_into place 0 x.inputs ++ edges)
    (edges_from-append (place + 1) xs ys ∙ ap (λ (n : ℕ). edges_from (place + 1) xs ++ edges_from n ys) on)
    ∙ sym (append_assoc (edges_into place 0 x.inputs) (edges_from (place + 1) xs) (edges_from (place + suc (length xs)) ys))

length_front : {X : Type 0} (xs : List X) (k : ℕ) → k < length xs → 0 + length (take k xs) ≡ k
length_front xs k lt = simp (length-take-le k xs (omega (arith, lt))) (omega arith)

-- the edges of one input more
pub edges_into-next : (node : ℕ) (inputs : List ℕ) (k input : ℕ) → k < length inputs → input ≡ slice_index_or inputs k input
    → edges_into node 0 (take (k + 1) inputs) ≡ edges_into node 0 (take k inputs) ++ record { from = input; into = node; place = k } ∷ []
edges_into-next node inputs k input lt is =
    ap (edges_into node 0) (take_more inputs k input lt ∙ ap (λ (n : ℕ). take k inputs ++ n ∷ []) (sym is))
    ∙ edges_into-append node 0 (take k inputs) (input ∷ [])
    ∙ ap (λ (n : ℕ). edges_into node 0 (take k inputs) ++ edges_into node n (input ∷ [])) (length_front inputs k lt)

-- the edges of one node more
pub edges_of-next : (nodes : List Node) (k : ℕ) (node : Node) → k < length nodes → node ≡ slice_index_or nodes k node
    → edges_of (take (k + 1) nodes) ≡ edges_of (take k nodes) ++ edges_into k 0 node.inputs
edges_of-next nodes k node lt is =
    ap edges_of (take_more nodes k node lt ∙ ap (λ (n : Node). take k nodes ++ n ∷ []) (sym is))
    ∙ edges_from-append 0 (take k nodes) (node ∷ [])
    ∙ ap (λ (n : ℕ). edges_of (take k nodes) ++ edges_from n (node ∷ [])) (length_front nodes k lt)
    ∙ ap (λ (edges : List Edge). edges_of (take k nodes) ++ edges) (append-nil (edges_into k 0 node.inputs))

-- what is had of one item more
pub mapped_next : {X Y : Type 0} (h : X → Option Y) (xs : List X) (k : ℕ) (d : X) → k < length xs → filter_map h (take (k + 1) xs) ≡ filter_map h (take k xs) ++ cons_option (h (get_or xs k d)) []
mapped_next h xs k d lt = ap (filter_map h) (take_more xs k d lt) ∙ filter_map-append h (take k xs) (get_or xs k d ∷ [])

-- ---- lists of edges

pub have_none : (lists : List (List Edge)) → HaveMore lists lists []
have_none lists = record { len = refl; each = λ k lt. sym (append-nil (get_or lists k [])) }

pub have_both : (a b c : List (List Edge)) (some more both : List Edge) → HaveMore a b some → HaveMore b c more → both ≡ some ++ more → HaveMore a c both
have_both a b c some more both h i e = record {
  len = i.len ∙ h.len;
  each = λ k lt. i.each k (omega (arith, h.len, lt))
      ∙ ap (λ (list : List Edge). list ++ filter (λ edge. edge.from == k) more) (h.each k lt)
      ∙ append_assoc (get_or a k []) (filter (λ edge. edge.from == k) some) (filter (λ edge. edge.from == k) more)
      ∙ ap (λ (list : List Edge). get_or a k [] ++ list) (sym (filter-append (λ edge. edge.from == k) some more) ∙ ap (filter (λ edge. edge.from == k)) (sym e));
}

no_list : (n k : ℕ) → get_or (replicate {A = List Edge} n []) k [] ≡ []
no_list zero k = refl
no_list (suc n) zero = refl
no_list (suc n) (suc k) = no_list n k

length_none : (n : ℕ) → length (replicate {A = List Edge} n []) ≡ n
length_none zero = refl
length_none (suc n) = ap suc (length_none n)

pub list_consumers : (nodes : List Node) (lists : List (List Edge)) → HaveMore (replicate {A = List Edge} (length nodes) []) lists (edges_of nodes) → ListConsumers nodes lists
list_consumers nodes lists h = record {
  len = h.len ∙ length_none (length nodes);
  each = λ k lt. h.each k (omega (arith, length_none (length nodes), lt))
      ∙ ap (λ (list : List Edge). list ++ consumer_edges nodes k) (no_list (length nodes) k);
}

-- ---- numbers in a row

range_more_from : (a n : ℕ) → range_with_len a (n + 1) ≡ range_with_len a n ++ (a + n) ∷ []
range_more_from a zero = ap (λ (m : ℕ). m ∷ []) (omega arith)
range_more_from a (suc n) =
    let on : suc n + 1 ≡ suc (n + 1) = omega arith in
    let to : a + 1 + n ≡ a + suc n = omega arith in
    ap (range_with_len a) on
    ∙ ap (λ (rest : List ℕ). a ∷ rest) (range_more_from (a + 1) n ∙ ap (λ (m : ℕ). range_with_len (a + 1) n ++ m ∷ []) to)

pub range_more : (n : ℕ) → range_with_len 0 (n + 1) ≡ range_with_len 0 n ++ n ∷ []
range_more n = range_more_from 0 n ∙ ap (λ (m : ℕ). range_with_len 0 n ++ m ∷ []) (omega arith)
