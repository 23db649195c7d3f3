-- The vertices of nodes, by a list, where a vertex is made.
use Rattle.std.proofs.Common.{◌≡◌, ℕ, ◌+◌, ◌<◌, ◌≤◌, Bool, true, false, ◌||◌, not, cond, List, [], ◌∷◌, ◌++◌, length, get_or, set, Option, Some, None, refl, sym, ◌∙◌, ap, arith, nat_eq, inl, inr, ⊎_elim}
use Rattle.std.specs.Prelude.{◌⊎◌, if◌then◌else◌, nat_lt}
use Rattle.std.proofs.lemmas.Bool.{cases_eq, cases_lt}
use Rattle.std.proofs.lemmas.Bool.Decides.{nat_tests}
use Rattle.std.proofs.lemmas.List.{length-set, length_push, get_or_push, get_or_past, get_or_append_left, get_or-set_same, get_or-set_other}
use Rattle.std.proofs.lemmas.List.Folds.{position_or_len_push}
use Rattle.std.proofs.lemmas.List.Sums.{prefix_len-le-length}
use Rattle.vertex_builder.specs.Chains.{is_among}
use Rattle.graph_model.specs.declared.made_vertex.MadeVertex.{MadeVertex}
use Rattle.graph_model.specs.States.{maker, vertex_at}
use Rattle.graph_model.proofs.Laws.{maker-set, none_is_some, some_is}
use Rattle.graph_vertices.specs.Makers.{AreMakers, maker_if, noted}

less_yes : (m n : ℕ) → m < n → nat_lt m n ≡ true
less_yes m n lt = grind (arith, nat_tests)

less_no : (m n : ℕ) → n ≤ m → nat_lt m n ≡ false
less_no m n le = grind (arith, nat_tests)

same_yes : (m n : ℕ) → m ≡ n → nat_eq m n ≡ true
same_yes m n is = grind (arith, nat_tests)

same_no : (m n : ℕ) → m < n → nat_eq m n ≡ false
same_no m n lt = grind (arith, nat_tests)

-- m, where it is below n
abbrev if_below : ℕ → ℕ → Option ℕ
if_below m n = if nat_lt m n then Some m else None

is_below : (m n : ℕ) → m < n → if_below m n ≡ Some m
is_below m n lt = ap (λ (b : Bool). if b then Some m else None) (less_yes m n lt)

not_below : (m n : ℕ) → n ≤ m → if_below m n ≡ None
not_below m n le = ap (λ (b : Bool). if b then Some m else None) (less_no m n le)

pub maker_within : (vs : List MadeVertex) (node : ℕ) → maker vs node ≤ length vs
maker_within vs node = prefix_len-le-length (λ (m : MadeVertex). not (is_among m.vertex.nodes node)) vs

-- a vertex more
maker_if_push : (vs : List MadeVertex) (new : MadeVertex) (node : ℕ) → noted (maker_if vs node) (is_among new.vertex.nodes node) (length vs) ≡ maker_if (vs ++ new ∷ []) node
maker_if_push vs new node =
    let m = maker vs node in
    let n = length vs in
    let more = maker (vs ++ new ∷ []) node in
    let has = is_among new.vertex.nodes node in
    let long : length (vs ++ new ∷ []) ≡ n + 1 = length_push vs new in
    let next : more ≡ cond (nat_eq m n) (n + cond has 0 1) m = position_or_len_push (λ (made : MadeVertex). is_among made.vertex.nodes node) vs new in
    let now : maker_if (vs ++ new ∷ []) node ≡ if_below more (n + 1) = ap (if_below more) long in
    ⊎_elim
    (λ (lt : m < n).
    let same : more ≡ m = next ∙ ap (λ (b : Bool). cond b (n + cond has 0 1) m) (same_no m n lt) in
    ap (λ (o : Option ℕ). noted o has n) (is_below m n lt) ∙ sym (now ∙ ap (λ (k : ℕ). if_below k (n + 1)) same ∙ is_below m (n + 1) (omega (arith, lt))))
    (λ (le : n ≤ m).
    let within = maker_within vs node in
    let on : m ≡ n = omega (arith, le, within) in
    let here : more ≡ n + cond has 0 1 = next ∙ ap (λ (b : Bool). cond b (n + cond has 0 1) m) (same_yes m n on) in
    ap (λ (o : Option ℕ). noted o has n) (not_below m n le) ∙ by has n ∙ sym (now ∙ ap (λ (k : ℕ). if_below k (n + 1)) here))
    (cases_lt m n)
  where
    by : (b : Bool) (n : ℕ) → (if b then Some n else None) ≡ if_below (n + cond b 0 1) (n + 1)
    by true n = let same : n + 0 ≡ n = omega arith in sym (is_below (n + 0) (n + 1) (omega arith) ∙ ap (λ (k : ℕ). Some k) same)
    by false n = sym (not_below (n + 1) (n + 1) (omega arith))

pub makers_push : (vs : List MadeVertex) (new : MadeVertex) (old now : List (Option ℕ)) → AreMakers vs old
    → ((n : ℕ) → get_or now n None ≡ noted (get_or old n None) (is_among new.vertex.nodes n) (length vs)) → AreMakers (vs ++ new ∷ []) now
makers_push vs new old now are more node = more node ∙ ap (λ (o : Option ℕ). noted o (is_among new.vertex.nodes node) (length vs)) (are node) ∙ maker_if_push vs new node

-- what stands in the list
pub maker_some : (vs : List MadeVertex) (makers : List (Option ℕ)) (node v : ℕ) → AreMakers vs makers → get_or makers node None ≡ Some v → v ≡ maker vs node
maker_some vs makers node v are is = by (nat_lt (maker vs node) (length vs)) (sym is ∙ are node)
  where
    by : (b : Bool) → Some v ≡ (if b then Some (maker vs node) else None) → v ≡ maker vs node
    by true e = some_is v (maker vs node) e
    by false e = absurd (none_is_some v (sym e))

pub maker_past : (vs : List MadeVertex) (makers : List (Option ℕ)) (node : ℕ) → AreMakers vs makers → get_or makers node None ≡ None → length vs ≡ maker vs node
maker_past vs makers node are is = ⊎_elim
    (λ (lt : maker vs node < length vs). absurd (none_is_some (maker vs node) (sym is ∙ are node ∙ is_below (maker vs node) (length vs) lt)))
    (λ (le : length vs ≤ maker vs node). let within = maker_within vs node in omega (arith, le, within))
    (cases_lt (maker vs node) (length vs))

-- ---- noting

-- one node more
pub noted_twice : (o : Option ℕ) (a b : Bool) (v : ℕ) → noted (noted o a v) b v ≡ noted o (a || b) v
noted_twice (Some u) a b v = refl
noted_twice None true b v = refl
noted_twice None false b v = refl

pub noted_none : (o : Option ℕ) (v : ℕ) → noted o false v ≡ o
noted_none (Some u) v = refl
noted_none None v = refl

-- the vertex of one node
pub note_none : (makers : List (Option ℕ)) (node v n : ℕ) → node < length makers → get_or makers node None ≡ None
    → get_or (set makers node (Some v)) n None ≡ noted (get_or makers n None) (nat_eq n node) v
note_none makers node v n lt none = ⊎_elim
    (λ (is : n ≡ node).
    let here : get_or makers n None ≡ None = ap (λ (k : ℕ). get_or makers k None) is ∙ none in
    ap (λ (k : ℕ). get_or (set makers node (Some v)) k None) is ∙ get_or-set_same makers node (Some v) None lt
    ∙ sym (ap (λ (o : Option ℕ). noted o (nat_eq n node) v) here ∙ ap (λ (b : Bool). noted None b v) (same_yes n node is)))
    (λ (ne : n ≡ node → ⊥).
    get_or-set_other makers node n (Some v) None ne ∙ sym (ap (λ (b : Bool). noted (get_or makers n None) b v) (apart n node ne) ∙ noted_none (get_or makers n None) v))
    (cases_eq n node)
  where
    apart : (m k : ℕ) → (m ≡ k → ⊥) → nat_eq m k ≡ false
    apart m k ne = grind (arith, nat_tests)

pub note_some : (makers : List (Option ℕ)) (node v u n : ℕ) → get_or makers node None ≡ Some u → get_or makers n None ≡ noted (get_or makers n None) (nat_eq n node) v
note_some makers node v u n is = ⊎_elim
    (λ (same : n ≡ node).
    let here : get_or makers n None ≡ Some u = ap (λ (k : ℕ). get_or makers k None) same ∙ is in
    here ∙ sym (ap (λ (o : Option ℕ). noted o (nat_eq n node) v) here))
    (λ (ne : n ≡ node → ⊥). sym (ap (λ (b : Bool). noted (get_or makers n None) b v) (apart n node ne) ∙ noted_none (get_or makers n None) v))
    (cases_eq n node)
  where
    apart : (m k : ℕ) → (m ≡ k → ⊥) → nat_eq m k ≡ false
    apart m k ne = grind (arith, nat_tests)

-- a place more
pub same_push : (makers : List (Option ℕ)) (n : ℕ) → get_or (makers ++ None ∷ []) n None ≡ get_or makers n None
same_push makers n = ⊎_elim
    (λ (lt : n < length makers). get_or_append_left makers (None ∷ []) None n lt)
    (λ (le : length makers ≤ n). by (cases_eq (length makers) n) le)
    (cases_lt n (length makers))
  where
    by : ((length makers ≡ n) ⊎ (length makers ≡ n → ⊥)) → length makers ≤ n → get_or (makers ++ None ∷ []) n None ≡ get_or makers n None
    by (inl is) le = get_or_push makers None None n is ∙ sym (get_or_past makers n None le)
    by (inr ne) le = let long : length (makers ++ None ∷ []) ≡ length makers + 1 = length_push makers None in get_or_past (makers ++ None ∷ []) n None (omega (arith, le, ne, long)) ∙ sym (get_or_past makers n None le)

-- a vertex keeps its nodes
pub makers_set : (vs : List MadeVertex) (makers : List (Option ℕ)) (v : ℕ) (made : MadeVertex) → made.vertex.nodes ≡ (vertex_at vs v).vertex.nodes → AreMakers vs makers → AreMakers (set vs v made) makers
makers_set vs makers v made same are node =
    are node ∙ sym (ap (λ (m : ℕ). if_below m (length (set vs v made))) (maker-set vs v node made same) ∙ ap (if_below (maker vs node)) (length-set vs v made))
