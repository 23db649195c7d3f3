-- The items of a join by their columns: on which side each is split, and what stands in them.
use Rattle.std.proofs.Common.{◌≡◌, ◌⊎◌, inl, inr, ⊎_elim, ℕ, zero, suc, ◌+◌, ◌<◌, ◌≤◌, Bool, true, false, List, [], ◌∷◌, ◌++◌, map, refl, sym, ◌∙◌, ap, subst, arith}
use Rattle.std.specs.List.{flat_map, range_with_len}
use Rattle.std.proofs.lemmas.Bool.{cases_lt}
use Rattle.std.proofs.lemmas.List.{map-append}
use Rattle.std.proofs.lemmas.List.FromFn.{length-map-range_with_len}
use Rattle.bag_laws.proofs.Laws.{total, total-each, total-map}
use Rattle.plan_model.specs.declared.side.Side.{Side}
use Rattle.plan_model.specs.declared.side.Side.TheVariants.{Left, Right}
use Rattle.rect_cover.specs.declared.grid.Grid.{Grid}
use Rattle.rect_cover.specs.declared.rect.Rect.{Rect}
use Rattle.rect_cover.specs.Cells.{is_inside}
use Rattle.rect_cover.specs.Covers.{LiesIn}
use Rattle.volume_split.specs.Groups.{Parts, groups_of}
use Rattle.volume_split.specs.Runs.{greedy_runs}
use Rattle.volume_split.specs.declared.group.Group.{Group}
use Rattle.volume_split.proofs.Laws.{Parts-greedy, Filled-greedy, Filled}
use Rattle.grid_groups.specs.Sizes.{cell_size}
use Rattle.grid_groups.proofs.Laws.{here, once, is_within, right_no, left_yes, right_yes, within_yes, within_early, within_late}
use Rattle.skew_splitter.specs.declared.item.Item.{Item}
use Rattle.skew_splitter.specs.Columns.{grid_at, other_side, column_cells, pieces, column_rect, item_of}
use Rattle.skew_splitter.proofs.Chains.{Step, Chain, AllChain}
use Rattle.skew_splitter.proofs.Shares.{one, Each, each-append}

-- ---- pieces

pub pieces_part : (target : ℕ) (split : Bool) (grid : Grid) (s : ℕ) → 0 < grid.producers → Parts 0 grid.producers (pieces target split grid s)
pieces_part target true grid s some =
    subst (λ (n : ℕ). Parts 0 n (groups_of (greedy_runs target (column_cells grid s))))
    (length-map-range_with_len (λ p. cell_size grid p s) 0 grid.producers)
    (Parts-greedy target (column_cells grid s))
pieces_part target false grid s some = (refl, omega arith, refl)

pub pieces_filled : (target : ℕ) (split : Bool) (grid : Grid) (s : ℕ) → 0 < grid.producers → Filled (pieces target split grid s)
pieces_filled target true grid s some = Filled-greedy target (column_cells grid s)
pieces_filled target false grid s some = (some, tt)

-- ---- the rects of a column's pieces, and of its whole column once for each piece

module _ (grid : Grid) (split : ℕ → Bool) (s : ℕ) (inside : s < grid.cells) where
  pub piece_lies : (start end : ℕ) → start < end → end ≤ grid.producers → LiesIn grid (column_rect start end s)
  piece_lies start end lt le = record { producers = lt; last_producer = le; cells = omega arith; last_cell = omega arith }

  pub pieces_chain_from : (start end : ℕ) (groups : List Group) → split s ≡ true → Parts start end groups → Filled groups → end ≤ grid.producers
      → AllChain grid split (map (λ group. column_rect group.start group.end s) groups)
  pieces_chain_from start end [] mode parts filled le = tt
  pieces_chain_from start end (group ∷ groups) mode (at, ordered, rest) filled le = from group groups filled rest
    where
      from : (group : Group) (groups : List Group) → Filled (group ∷ groups) → Parts group.end end groups
          → Chain grid split (column_rect group.start group.end s) (map (λ group. column_rect group.start group.end s) groups)
      from group [] filled parts = piece_lies group.start group.end filled.0 (omega (arith, parts))
      from group (next ∷ groups) filled (at, ordered, rest) = (
        piece_lies group.start group.end filled.0 (let more = ends next groups rest in omega arith),
        inr (refl, refl, subst (λ (b : Bool). Step b (column_rect group.start group.end s) (column_rect next.start next.end s)) (sym mode) (sym at)),
        from next groups filled.1 rest,
      )
        where
          ends : (next : Group) (groups : List Group) → Parts next.end end groups → next.end ≤ end
          ends next [] parts = omega (arith, parts)
          ends next (more ∷ groups) (at, ordered, rest) = let later = ends more groups rest in omega arith

  pub whole_lies : 0 < grid.producers → LiesIn grid (column_rect 0 grid.producers s)
  whole_lies some = piece_lies 0 grid.producers some (omega arith)

  pub wholes_chain : (groups : List Group) → split s ≡ false → 0 < grid.producers → AllChain grid split (map (λ (group : Group). column_rect 0 grid.producers s) groups)
  wholes_chain [] mode some = tt
  wholes_chain (group ∷ groups) mode some = from groups
    where
      from : (groups : List Group) → Chain grid split (column_rect 0 grid.producers s) (map (λ (group : Group). column_rect 0 grid.producers s) groups)
      from [] = whole_lies some
      from (next ∷ groups) = (
        whole_lies some,
        inr (refl, refl, subst (λ (b : Bool). Step b (column_rect 0 grid.producers s) (column_rect 0 grid.producers s)) (sym mode) (refl, refl)),
        from groups,
      )

-- ---- columns in order

-- each rect is of a column from this one on
abbrev pub From : ℕ → List Rect → Type 0
From s rects = Each (λ (rect : Rect). s ≤ rect.s0) rects

-- rects of one column, as they follow one another
pub record Block (grid : Grid) (split : ℕ → Bool) (s : ℕ) (rects : List Rect) : Type 0 where
  pub chain : AllChain grid split rects
  pub begins : Each (λ (rect : Rect). rect.s0 ≡ s) rects
  pub ends : Each (λ (rect : Rect). rect.s1 ≡ s + 1) rects

module _ (grid : Grid) (split : ℕ → Bool) where
  pub chain_append : (s : ℕ) (xs ys : List Rect) → AllChain grid split xs → Each (λ (rect : Rect). rect.s1 ≡ s + 1) xs → AllChain grid split ys → From (s + 1) ys → AllChain grid split (xs ++ ys)
  chain_append s [] ys chain ends more later = more
  chain_append s (x ∷ xs) ys chain ends more later = from x xs chain ends
    where
      before : (x : Rect) (ys : List Rect) → LiesIn grid x → x.s1 ≡ s + 1 → AllChain grid split ys → From (s + 1) ys → Chain grid split x ys
      before x [] lie is more later = lie
      before x (y ∷ ys) lie is more later = (lie, inl (let le = later.0 in omega arith), more)

      from : (x : Rect) (xs : List Rect) → Chain grid split x xs → Each (λ (rect : Rect). rect.s1 ≡ s + 1) (x ∷ xs) → Chain grid split x (xs ++ ys)
      from x [] chain ends = before x ys chain ends.0 more later
      from x (next ∷ xs) chain ends = (chain.0, chain.1, from next xs chain.2 ends.1)

  pub from_begins : (a s : ℕ) (rects : List Rect) → a ≤ s → Each (λ (rect : Rect). rect.s0 ≡ s) rects → From a rects
  from_begins a s [] le each = tt
  from_begins a s (rect ∷ rects) le each = (let e = each.0 in omega arith, from_begins a s rects le each.1)

  pub from_later : (a b : ℕ) (rects : List Rect) → a ≤ b → From b rects → From a rects
  from_later a b [] le each = tt
  from_later a b (rect ∷ rects) le each = (let le2 = each.0 in omega arith, from_later a b rects le each.1)

  -- blocks of all columns, one after the other
  pub record Blocks (a : ℕ) (rects : List Rect) : Type 0 where
    pub chain : AllChain grid split rects
    pub from : From a rects

  pub blocks : (rects : ℕ → List Rect) (n a : ℕ) → ((s : ℕ) → s < a + n → Block grid split s (rects s)) → Blocks a (flat_map rects (range_with_len a n))
  blocks rects zero a each = record { chain = tt; from = tt }
  blocks rects (suc n) a each =
      let here = each a (omega arith) in
      let rest = blocks rects n (a + 1) (λ s lt. each s (omega arith)) in
      record {
        chain = chain_append a (rects a) (flat_map rects (range_with_len (a + 1) n)) here.chain here.ends rest.chain rest.from;
        from = each-append (λ (rect : Rect). a ≤ rect.s0) (rects a) (flat_map rects (range_with_len (a + 1) n))
            (from_begins a a (rects a) (omega arith) here.begins)
            (from_later a (a + 1) (flat_map rects (range_with_len (a + 1) n)) (omega arith) rest.from);
      }

-- what one number counts once, and no other
pub total_one : (f : ℕ → ℕ) (s n a : ℕ) → a ≤ s → s < a + n → ((c : ℕ) → (c ≡ s → ⊥) → f c ≡ 0) → f s ≡ 1 → total f (range_with_len a n) ≡ 1
total_one f s zero a le lt others own = absurd (omega arith)
total_one f s (suc n) a le lt others own =
    ⊎_elim
    (λ (low : a < s).
    let first = others a (λ (e : a ≡ s). omega arith) in
    let rest = total_one f s n (a + 1) (omega arith) (omega arith) others own in
    let all : f a + total f (range_with_len (a + 1) n) ≡ 1 = omega arith in all)
    (λ (high : s ≤ a).
    let e : a ≡ s = omega arith in
    let first : f a ≡ 1 = ap f e ∙ own in
    let rest = none (a + 1) n (omega arith) in
    let all : f a + total f (range_with_len (a + 1) n) ≡ 1 = omega arith in all)
    (cases_lt a s)
  where
    none : (b m : ℕ) → s < b → total f (range_with_len b m) ≡ 0
    none b zero lt = refl
    none b (suc m) lt =
        let first = others b (λ (e : b ≡ s). omega arith) in
        let rest = none (b + 1) m (omega arith) in
        omega arith

-- ---- the items of a join

module _ {X Y Z : Type 0} where
  pub map-map : (g : Y → Z) (f : X → Y) (xs : List X) → map g (map f xs) ≡ map (λ x. g (f x)) xs
  map-map g f [] = refl
  map-map g f (x ∷ xs) = ap (λ (zs : List Z). g (f x) ∷ zs) (map-map g f xs)

module _ {X Y : Type 0} where
  pub map-flat_map : (g : X → Y) (f : ℕ → List X) (xs : List ℕ) → map g (flat_map f xs) ≡ flat_map (λ s. map g (f s)) xs
  map-flat_map g f [] = refl
  map-flat_map g f (x ∷ xs) = map-append g (f x) (flat_map f xs) ∙ ap (λ (ys : List Y). map g (f x) ++ ys) (map-flat_map g f xs)

pub each_of : {X : Type 0} (P : X → Type 0) (groups : List Group) (f : Group → X) → ((group : Group) → P (f group)) → Each P (map f groups)
each_of P [] f all = tt
each_of P (group ∷ groups) f all = (all group, each_of P groups f all)

abbrev pub is_left : Side → Bool
is_left Left = true
is_left Right = false

abbrev pub is_right : Side → Bool
is_right Left = false
is_right Right = true

pub same_or_not : (a b : ℕ) → (a ≡ b) ⊎ (a ≡ b → ⊥)
same_or_not a b =
    ⊎_elim (λ (lt : a < b). inr (λ (e : a ≡ b). omega arith))
    (λ (ge : b ≤ a). ⊎_elim (λ (gt : b < a). inr (λ (e : a ≡ b). omega arith)) (λ (le : a ≤ b). inl (omega arith)) (cases_lt b a))
    (cases_lt a b)

-- what an item has of a cell
abbrev pub has_left : ℕ → ℕ → Item → Bool
has_left p s item = is_inside item.left p s

abbrev pub has_right : ℕ → ℕ → Item → Bool
has_right q s item = is_inside item.right q s

module _ (left right : Grid) (equal : right.cells ≡ left.cells) (lefts : 0 < left.producers) (rights : 0 < right.producers) where
  -- the items of a column whose side is known
  abbrev pub sided : Side → List Group → ℕ → List Item
  sided side groups s = map (item_of side (grid_at side left right) (grid_at (other_side side) left right) s) groups

  pub left_block : (split : ℕ → Bool) (side : Side) (groups : List Group) (s : ℕ) → split s ≡ is_left side → s < left.cells
      → Parts 0 (grid_at side left right).producers groups → Filled groups → Block left split s (map (λ item. item.left) (sided side groups s))
  left_block split Left groups s mode lt parts filled =
      let same = map-map (λ (item : Item). item.left) (item_of Left left right s) groups in
      subst (Block left split s) (sym same) (record {
        chain = pieces_chain_from left split s lt 0 left.producers groups mode parts filled (omega arith);
        begins = each_of (λ (rect : Rect). rect.s0 ≡ s) groups (λ group. column_rect group.start group.end s) (λ group. refl);
        ends = each_of (λ (rect : Rect). rect.s1 ≡ s + 1) groups (λ group. column_rect group.start group.end s) (λ group. refl);
      })
  left_block split Right groups s mode lt parts filled =
      let same = map-map (λ (item : Item). item.left) (item_of Right right left s) groups in
      subst (Block left split s) (sym same) (record {
        chain = wholes_chain left split s lt groups mode lefts;
        begins = each_of (λ (rect : Rect). rect.s0 ≡ s) groups (λ group. column_rect 0 left.producers s) (λ group. refl);
        ends = each_of (λ (rect : Rect). rect.s1 ≡ s + 1) groups (λ group. column_rect 0 left.producers s) (λ group. refl);
      })

  pub right_block : (split : ℕ → Bool) (side : Side) (groups : List Group) (s : ℕ) → split s ≡ is_right side → s < left.cells
      → Parts 0 (grid_at side left right).producers groups → Filled groups → Block right split s (map (λ item. item.right) (sided side groups s))
  right_block split Right groups s mode lt parts filled =
      let same = map-map (λ (item : Item). item.right) (item_of Right right left s) groups in
      subst (Block right split s) (sym same) (record {
        chain = pieces_chain_from right split s (omega arith) 0 right.producers groups mode parts filled (omega arith);
        begins = each_of (λ (rect : Rect). rect.s0 ≡ s) groups (λ group. column_rect group.start group.end s) (λ group. refl);
        ends = each_of (λ (rect : Rect). rect.s1 ≡ s + 1) groups (λ group. column_rect group.start group.end s) (λ group. refl);
      })
  right_block split Left groups s mode lt parts filled =
      let same = map-map (λ (item : Item). item.right) (item_of Left left right s) groups in
      subst (Block right split s) (sym same) (record {
        chain = wholes_chain right split s (omega arith) groups mode rights;
        begins = each_of (λ (rect : Rect). rect.s0 ≡ s) groups (λ group. column_rect 0 right.producers s) (λ group. refl);
        ends = each_of (λ (rect : Rect). rect.s1 ≡ s + 1) groups (λ group. column_rect 0 right.producers s) (λ group. refl);
      })

  -- no item of another column has a cell of this one
  pub outside : (start end p c s : ℕ) → (c ≡ s → ⊥) → is_inside (column_rect start end c) p s ≡ false
  outside start end p c s other =
      right_no (is_within start end p) (is_within c (c + 1) s)
      (⊎_elim (λ (low : s < c). within_early c (c + 1) s low)
      (λ (high : c ≤ s). within_late c (c + 1) s (⊎_elim (λ (lt : c < s). let goal : c + 1 ≤ s = omega arith in goal) (λ (le : s ≤ c). absurd (other (omega arith))) (cases_lt c s)))
      (cases_lt s c))

  pub own_column : (s : ℕ) → is_within s (s + 1) s ≡ true
  own_column s = within_yes s (s + 1) s (omega arith) (omega arith)

  pub whole_inside : (n q s : ℕ) → q < n → is_inside (column_rect 0 n s) q s ≡ true
  whole_inside n q s lt = left_yes (is_within 0 n q) (is_within s (s + 1) s) (within_yes 0 n q (omega arith) lt) ∙ own_column s

  pub piece_inside : (group : Group) (p s : ℕ) → one (is_inside (column_rect group.start group.end s) p s) ≡ here group p
  piece_inside group p s = ap one (right_yes (is_within group.start group.end p) (is_within s (s + 1) s) (own_column s))

  pub none_of : (test : Item → Bool) (f : Group → Item) (groups : List Group) → ((group : Group) → test (f group) ≡ false) → total (λ item. one (test item)) (map f groups) ≡ 0
  none_of test f [] never = refl
  none_of test f (group ∷ groups) never =
      let first : one (test (f group)) ≡ 0 = ap one (never group) in
      let rest = none_of test f groups never in
      omega arith

  pub left_none : (side : Side) (groups : List Group) (p c s : ℕ) → (c ≡ s → ⊥) → total (λ item. one (has_left p s item)) (sided side groups c) ≡ 0
  left_none Left groups p c s other = none_of (has_left p s) (item_of Left left right c) groups (λ group. outside group.start group.end p c s other)
  left_none Right groups p c s other = none_of (has_left p s) (item_of Right right left c) groups (λ group. outside 0 left.producers p c s other)

  pub right_none : (side : Side) (groups : List Group) (q c s : ℕ) → (c ≡ s → ⊥) → total (λ item. one (has_right q s item)) (sided side groups c) ≡ 0
  right_none Left groups q c s other = none_of (has_right q s) (item_of Left left right c) groups (λ group. outside 0 right.producers q c s other)
  right_none Right groups q c s other = none_of (has_right q s) (item_of Right right left c) groups (λ group. outside group.start group.end q c s other)

  pub left_once : (groups : List Group) (p s : ℕ) → Parts 0 left.producers groups → p < left.producers → total (λ item. one (has_left p s item)) (sided Left groups s) ≡ 1
  left_once groups p s parts lt =
      total-map (λ item. one (has_left p s item)) (item_of Left left right s) groups
      ∙ total-each (λ group. one (has_left p s (item_of Left left right s group))) (λ group. here group p) groups (λ group. piece_inside group p s)
      ∙ once 0 left.producers p groups parts (omega arith) lt

  pub right_once : (groups : List Group) (q s : ℕ) → Parts 0 right.producers groups → q < right.producers → total (λ item. one (has_right q s item)) (sided Right groups s) ≡ 1
  right_once groups q s parts lt =
      total-map (λ item. one (has_right q s item)) (item_of Right right left s) groups
      ∙ total-each (λ group. one (has_right q s (item_of Right right left s group))) (λ group. here group q) groups (λ group. piece_inside group q s)
      ∙ once 0 right.producers q groups parts (omega arith) lt

  pub clash : (b : Bool) → b ≡ false → b ≡ true → ⊥
  clash b fails holds = let both : false ≡ true = sym fails ∙ holds in cc

  -- who has a cell of the side that is split has each cell of the other side's column
  pub left_with : (side : Side) (groups : List Group) (p q c s : ℕ) → q < right.producers → (c ≡ s → side ≡ Left)
      → Each (λ item. has_left p s item ≡ true → has_right q s item ≡ true) (sided side groups c)
  left_with Left groups p q c s lt is =
      each_of (λ item. has_left p s item ≡ true → has_right q s item ≡ true) groups (item_of Left left right c) (λ group holds. by group holds)
    where
      by : (group : Group) → has_left p s (item_of Left left right c group) ≡ true → has_right q s (item_of Left left right c group) ≡ true
      by group holds = ⊎_elim
          (λ (e : c ≡ s). subst (λ (n : ℕ). is_inside (column_rect 0 right.producers n) q s ≡ true) (sym e) (whole_inside right.producers q s lt))
          (λ (other : c ≡ s → ⊥). absurd (clash (has_left p s (item_of Left left right c group)) (outside group.start group.end p c s other) holds))
          (same_or_not c s)
  left_with Right groups p q c s lt is =
      each_of (λ item. has_left p s item ≡ true → has_right q s item ≡ true) groups (item_of Right right left c) (λ group holds.
      absurd (clash (has_left p s (item_of Right right left c group)) (outside 0 left.producers p c s (λ e. absurd (let fails : Right ≡ Left = is e in cc))) holds))

  pub right_with : (side : Side) (groups : List Group) (p q c s : ℕ) → p < left.producers → (c ≡ s → side ≡ Right)
      → Each (λ item. has_right q s item ≡ true → has_left p s item ≡ true) (sided side groups c)
  right_with Right groups p q c s lt is =
      each_of (λ item. has_right q s item ≡ true → has_left p s item ≡ true) groups (item_of Right right left c) (λ group holds. by group holds)
    where
      by : (group : Group) → has_right q s (item_of Right right left c group) ≡ true → has_left p s (item_of Right right left c group) ≡ true
      by group holds = ⊎_elim
          (λ (e : c ≡ s). subst (λ (n : ℕ). is_inside (column_rect 0 left.producers n) p s ≡ true) (sym e) (whole_inside left.producers p s lt))
          (λ (other : c ≡ s → ⊥). absurd (clash (has_right q s (item_of Right right left c group)) (outside group.start group.end q c s other) holds))
          (same_or_not c s)
  right_with Left groups p q c s lt is =
      each_of (λ item. has_right q s item ≡ true → has_left p s item ≡ true) groups (item_of Left left right c) (λ group holds.
      absurd (clash (has_right q s (item_of Left left right c group)) (outside 0 right.producers q c s (λ e. absurd (let fails : Left ≡ Right = is e in cc))) holds))
