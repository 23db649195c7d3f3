-- A rect more, joined with the last one or after it; a size more.
use Rattle.std.proofs.Common.{◌≡◌, ℕ, zero, suc, ◌+◌, ◌-◌, ◌*◌, ◌^◌, ◌<◌, ◌≤◌, min, Bool, true, false, cond, All, List, [], ◌∷◌, ◌++◌, length, sum, get_or, sym, ◌∙◌, ap, append_assoc, subst, add-one, arith}
use Rattle.std.specs.List.{flat_map, range_with_len, sum_by}
use Rattle.std.proofs.Math.Nat.{zero-add}
use Rattle.std.proofs.lemmas.List.{append-nil}
use Rattle.std.proofs.lemmas.List.FromFn.{length-map-range_with_len, get_or-map-range_with_len}
use Rattle.std.proofs.lemmas.List.Elements.{All-get_or}
use Rattle.bag_laws.proofs.Laws.{total, total_is}
use Rattle.volume_split.specs.Groups.{Parts}
use Rattle.volume_split.specs.declared.group.Group.{Group}
use Rattle.rect_cover.specs.declared.grid.Grid.{Grid}
use Rattle.grid_groups.specs.Sizes.{capped, cell_size, column_size}
use Rattle.skew_splitter.specs.Columns.{column_cells, side_sizes}
use Rattle.grid_groups.proofs.Laws.{all_groups}
use Rattle.rect_cover.specs.declared.rect.Rect.{Rect}
use Rattle.skew_splitter.specs.declared.rule.Rule.{Rule}
use Rattle.skew_splitter.specs.Joined.{are_one, as_one, joined_from}

pub joins : (rule : Rule) (last rect : Rect) (all rects : List Rect) → are_one rule last rect ≡ true
    → all ++ joined_from rule (as_one last rect) rects ≡ all ++ joined_from rule last (rect ∷ rects)
joins rule last rect all rects holds =
    sym (ap (λ (b : Bool). all ++ cond b (joined_from rule (as_one last rect) rects) (last ∷ joined_from rule rect rects)) holds)

pub stays : (rule : Rule) (last rect : Rect) (all rects : List Rect) → are_one rule last rect ≡ false
    → (all ++ last ∷ []) ++ joined_from rule rect rects ≡ all ++ joined_from rule last (rect ∷ rects)
stays rule last rect all rects fails =
    append_assoc all (last ∷ []) (joined_from rule rect rects)
    ∙ sym (ap (λ (b : Bool). all ++ cond b (joined_from rule (as_one last rect) rects) (last ∷ joined_from rule rect rects)) fails)

-- a list for one number more
pub flat_next : {X : Type 0} (f : ℕ → List X) (n a : ℕ) → flat_map f (range_with_len a (suc n)) ≡ flat_map f (range_with_len a n) ++ f (a + n)
flat_next {X} f zero a = append-nil (f a) ∙ ap f (let e : a ≡ a + 0 = omega arith in e)
flat_next {X} f (suc n) a =
    ap (λ (rest : List X). f a ++ rest) (flat_next f n (a + 1))
    ∙ sym (append_assoc (f a) (flat_map f (range_with_len (a + 1) n)) (f (a + 1 + n)))
    ∙ ap (λ (k : ℕ). (f a ++ flat_map f (range_with_len (a + 1) n)) ++ f k) (let e : a + 1 + n ≡ a + suc n = omega arith in e)

total_next : (f : ℕ → ℕ) (n a : ℕ) → total f (range_with_len a (suc n)) ≡ total f (range_with_len a n) + f (a + n)
total_next f zero a = let e : f a ≡ f (a + 0) = ap f (let i : a ≡ a + 0 = omega arith in i) in omega arith
total_next f (suc n) a =
    let rest = total_next f n (a + 1) in
    let e : f (a + 1 + n) ≡ f (a + suc n) = ap f (let i : a + 1 + n ≡ a + suc n = omega arith in i) in
    let all : f a + total f (range_with_len (a + 1) (suc n)) ≡ f a + total f (range_with_len (a + 1) n) + f (a + suc n) = omega arith in
    all

-- a sum of one number more
pub sum_next : (f : ℕ → ℕ) (start k : ℕ) → start ≤ k → sum_by f (range_with_len start (k + 1 - start)) ≡ sum_by f (range_with_len start (k - start)) + f k
sum_next f start k le =
    ap (λ (n : ℕ). sum_by f (range_with_len start n)) (let e : k + 1 - start ≡ suc (k - start) = omega arith in e)
    ∙ total_is f (range_with_len start (suc (k - start)))
    ∙ total_next f (k - start) start
    ∙ (λ i. sym (total_is f (range_with_len start (k - start))) i + f ((let e : start + (k - start) ≡ k = omega arith in e) i))

add_capped : (top a b c : ℕ) → c ≡ min a top → min (c + b) top ≡ min (a + b) top
add_capped top a b c is = omega arith

-- a size, counted as at most the greatest number, of one number more
pub capped_next : (f : ℕ → ℕ) (start k before so_far next : ℕ) → start ≤ k
    → so_far ≡ capped (before + sum_by f (range_with_len start (k - start))) → next ≡ min (so_far + f k) (2 ^ 64 - 1)
    → next ≡ capped (before + sum_by f (range_with_len start (k + 1 - start)))
capped_next f start k before so_far next le is step =
    step
    ∙ add_capped (2 ^ 64 - 1) (before + sum_by f (range_with_len start (k - start))) (f k) so_far is
    ∙ ap capped (let e : before + sum_by f (range_with_len start (k - start)) + f k ≡ before + (sum_by f (range_with_len start (k - start)) + f k) = omega arith in e)
    ∙ ap (λ (n : ℕ). capped (before + n)) (sym (sum_next f start k le))

pub flat_more : {X : Type 0} (f : ℕ → List X) (k : ℕ) → flat_map f (range_with_len 0 (k + 1)) ≡ flat_map f (range_with_len 0 k) ++ f k
flat_more {X} f k =
    ap (λ (n : ℕ). flat_map f (range_with_len 0 n)) (add-one k)
    ∙ flat_next f k 0
    ∙ ap (λ (n : ℕ). flat_map f (range_with_len 0 k) ++ f n) (zero-add k)

-- ---- groups that part places

small_ends : (n : ℕ) (groups : List Group) → Parts 0 n groups → n < 2 ^ 32 → All (λ group. group.end < 2 ^ 32) groups
small_ends n groups parts lt = all_groups (λ group. group.end < 2 ^ 32) 0 n groups parts (λ group ordered within. omega arith)

pub small_pieces : (grid : Grid) (s : ℕ) (cells : List ℕ) (groups all : List Group) → cells ≡ column_cells grid s → Parts 0 (length cells) groups → all ≡ groups
    → grid.producers < 2 ^ 32 → All (λ group. group.end < 2 ^ 32) all
small_pieces grid s cells groups all is parts are lt =
    let long : length cells ≡ grid.producers = ap length is ∙ length-map-range_with_len (λ p. cell_size grid p s) 0 grid.producers in
    subst (All (λ group. group.end < 2 ^ 32)) (sym are) (small_ends (length cells) groups parts (omega arith))

module _ (sizes : List ℕ) (all groups : List Group) (are : all ≡ groups) (parts : Parts 0 (length sizes) groups) (i : ℕ) (d : Group) (lt : i < length all)
    (n : ℕ) (long : length sizes ≡ n) where
  same_parts : Parts 0 n all
  same_parts = subst (λ (m : ℕ). Parts 0 m all) long (subst (Parts 0 (length sizes)) (sym are) parts)

  pub group_ordered : (get_or all i d).start ≤ (get_or all i d).end
  group_ordered = All-get_or (λ (group : Group). group.start ≤ group.end) all i d lt (all_groups (λ group. group.start ≤ group.end) 0 n all same_parts (λ group ordered within. ordered))

  pub group_within : (get_or all i d).end ≤ n
  group_within = All-get_or (λ (group : Group). group.end ≤ n) all i d lt (all_groups (λ group. group.end ≤ n) 0 n all same_parts (λ group ordered within. within))

-- ---- sizes of columns and items

pub long_sizes : (columns : ℕ) (grid : Grid) (sizes : List ℕ) → sizes ≡ side_sizes columns grid → length sizes ≡ columns
long_sizes columns grid sizes is = ap length is ∙ length-map-range_with_len (λ s. capped (column_size grid s)) 0 columns

pub size_read : (columns : ℕ) (grid : Grid) (sizes : List ℕ) (column value : ℕ) → sizes ≡ side_sizes columns grid → column < columns
    → value ≡ get_or sizes column value → value ≡ capped (column_size grid column)
size_read columns grid sizes column value is lt at =
    at
    ∙ ap (λ (xs : List ℕ). get_or xs column value) is
    ∙ get_or-map-range_with_len (λ s. capped (column_size grid s)) 0 columns column column value lt (zero-add column)

pub few_items : (so_far sizes : List ℕ) (n : ℕ) → sizes ≡ so_far → sum so_far ≤ n * (2 ^ 64 - 1) → n < 2 ^ 64 → sum sizes < 2 ^ 128
few_items so_far sizes n are le lt = let e : sum sizes ≡ sum so_far = ap sum are in omega arith
