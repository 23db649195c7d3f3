-- What shares the items of a join is a cover of its kind.
use Rattle.std.proofs.Common.{◌≡◌, ℕ, zero, suc, ◌-◌, ◌*◌, ◌<◌, ◌≤◌, Bool, true, false, cond, not, ◌&&◌, ◌||◌, List, [], ◌∷◌, length, map, take, drop, refl, sym, ◌∙◌, ap, subst, arith}
use Rattle.std.proofs.Math.Nat.{mul_comm}
use Rattle.std.specs.Prelude.{nat_le}
use Rattle.std.specs.List.{AllZip, flat_map, list_any, range_with_len, slice_range, sum_by}
use Rattle.std.proofs.lemmas.List.Elements.{All-map}
use Rattle.bag_laws.proofs.Laws.{total, total_is, total-each, total-map, total-flat_map}
use Rattle.plan_model.specs.declared.join_kind.JoinKind.{JoinKind}
use Rattle.plan_model.specs.declared.setting_values.SettingValues.{SettingValues}
use Rattle.plan_model.specs.declared.side.Side.{Side}
use Rattle.plan_model.specs.declared.side.Side.TheVariants.{Left, Right}
use Rattle.rect_cover.specs.declared.grid.Grid.{Grid}
use Rattle.rect_cover.specs.declared.rect.Rect.{Rect}
use Rattle.rect_cover.specs.declared.shape_kind.ShapeKind.TheVariants.{LeftDriven, RightDriven, Inner}
use Rattle.rect_cover.specs.Cells.{Reads, is_inside, rects_of, times}
use Rattle.rect_cover.specs.Covers.{IsInput, HasPartners, IsDriven, EachPair, IsCover}
use Rattle.volume_split.specs.Groups.{Parts}
use Rattle.volume_split.specs.declared.group.Group.{Group}
use Rattle.volume_split.proofs.Laws.{Filled}
use Rattle.grid_groups.proofs.Laws.{AreGroups, is_cover, all_groups, inputs-whole, wholes-whole}
use Rattle.skew_splitter.specs.declared.item.Item.{Item}
use Rattle.skew_splitter.specs.declared.sizes.Sizes.{Sizes}
use Rattle.skew_splitter.specs.Columns.{may_split, side_tried, is_split, grid_at, pieces, sizes_of, column_items, join_items}
use Rattle.skew_splitter.specs.Joined.{tidy}
use Rattle.skew_splitter.specs.Decisions.{AreSides, by_items}
use Rattle.skew_splitter.proofs.Chains.{AllChain, Tidied, tidied, chain-take, chain-drop}
use Rattle.skew_splitter.proofs.Shares.{one, Each, each-append, each-part, any-map, once_shared, product, any_along}
use Rattle.skew_splitter.proofs.Items.{is_left, is_right, has_left, has_right, sided, left_block, right_block, blocks, pieces_part, pieces_filled, map-flat_map, total_one, left_none, right_none, left_once, right_once, left_with, right_with}

module _ {X Y : Type 0} where
  pub map-take : (f : X → Y) (k : ℕ) (xs : List X) → map f (take k xs) ≡ take k (map f xs)
  map-take f zero xs = refl
  map-take f (suc k) [] = refl
  map-take f (suc k) (x ∷ xs) = ap (λ (ys : List Y). f x ∷ ys) (map-take f k xs)

  pub map-drop : (f : X → Y) (k : ℕ) (xs : List X) → map f (drop k xs) ≡ drop k (map f xs)
  map-drop f zero xs = refl
  map-drop f (suc k) [] = refl
  map-drop f (suc k) (x ∷ xs) = map-drop f k xs

  pub each_flat : (P : Y → Type 0) (f : X → List Y) (xs : List X) → ((x : X) → Each P (f x)) → Each P (flat_map f xs)
  each_flat P f [] each = tt
  each_flat P f (x ∷ xs) each = each-append P (f x) (flat_map f xs) (each x) (each_flat P f xs each)

pub at_most_one : (b : Bool) → one b ≤ 1
at_most_one true = omega arith
at_most_one false = omega arith

-- a part of a chain, tidied
pub tidied_part : (grid : Grid) (split : ℕ → Bool) (rect : Item → Rect) (items : List Item) → AllChain grid split (map rect items) → (a b : ℕ)
    → Tidied grid split (map rect (slice_range items a b)) (tidy (map rect (slice_range items a b)))
tidied_part grid split rect items chain a b =
    tidied grid split (map rect (slice_range items a b))
    (subst (AllChain grid split) (sym (map-take rect (b - a) (drop a items) ∙ ap (take (b - a)) (map-drop rect a items)))
    (chain-take grid split (b - a) (drop a (map rect items)) (chain-drop grid split a (map rect items) chain)))

module _ (kind : JoinKind) (settings : SettingValues) (medians : Sizes) (left right : Grid) (sides : AreSides left right) where
  abbrev pub side_of : ℕ → Side
  side_of s = side_tried kind (sizes_of left right s)

  abbrev pub groups_at : ℕ → List Group
  groups_at s = pieces settings.target_bytes (is_split kind settings medians (sizes_of left right s)) (grid_at (side_of s) left right) s

  abbrev pub items : List Item
  items = join_items kind settings medians left right

  abbrev pub block : ℕ → List Item
  block = column_items kind settings medians left right

  pub own_some : (side : Side) → 0 < (grid_at side left right).producers
  own_some Left = sides.lefts
  own_some Right = sides.rights

  pub part_at : (s : ℕ) → Parts 0 (grid_at (side_of s) left right).producers (groups_at s)
  part_at s = pieces_part settings.target_bytes (is_split kind settings medians (sizes_of left right s)) (grid_at (side_of s) left right) s (own_some (side_of s))

  pub filled_at : (s : ℕ) → Filled (groups_at s)
  filled_at s = pieces_filled settings.target_bytes (is_split kind settings medians (sizes_of left right s)) (grid_at (side_of s) left right) s (own_some (side_of s))

  abbrev pub left_split : ℕ → Bool
  left_split s = is_left (side_of s)

  abbrev pub right_split : ℕ → Bool
  right_split s = is_right (side_of s)

  pub left_chain : AllChain left left_split (map (λ item. item.left) items)
  left_chain =
      subst (AllChain left left_split) (sym (map-flat_map (λ (item : Item). item.left) block (range_with_len 0 left.cells)))
      (blocks left left_split (λ s. map (λ item. item.left) (block s)) left.cells 0
      (λ s lt. left_block left right sides.equal sides.lefts sides.rights left_split (side_of s) (groups_at s) s refl (omega arith) (part_at s) (filled_at s))).chain

  pub right_chain : AllChain right right_split (map (λ item. item.right) items)
  right_chain =
      subst (AllChain right right_split) (sym (map-flat_map (λ (item : Item). item.right) block (range_with_len 0 left.cells)))
      (blocks right right_split (λ s. map (λ item. item.right) (block s)) left.cells 0
      (λ s lt. right_block left right sides.equal sides.lefts sides.rights right_split (side_of s) (groups_at s) s refl (omega arith) (part_at s) (filled_at s))).chain

  -- ---- what a group has of a cell

  abbrev pub own : Group → List Item
  own group = slice_range items group.start group.end

  abbrev pub lefts_of : Group → List Rect
  lefts_of group = tidy (map (λ item. item.left) (own group))

  abbrev pub rights_of : Group → List Rect
  rights_of group = tidy (map (λ item. item.right) (own group))

  pub left_tidied : (group : Group) → Tidied left left_split (map (λ item. item.left) (own group)) (lefts_of group)
  left_tidied group = tidied_part left left_split (λ item. item.left) items left_chain group.start group.end

  pub right_tidied : (group : Group) → Tidied right right_split (map (λ item. item.right) (own group)) (rights_of group)
  right_tidied group = tidied_part right right_split (λ item. item.right) items right_chain group.start group.end

  pub left_times : (group : Group) (p s : ℕ) → times (lefts_of group) p s ≡ one (list_any (has_left p s) (own group))
  left_times group p s = (left_tidied group).once p s ∙ ap one (any-map (λ rect. is_inside rect p s) (λ (item : Item). item.left) (own group))

  pub right_times : (group : Group) (q s : ℕ) → times (rights_of group) q s ≡ one (list_any (has_right q s) (own group))
  right_times group q s = (right_tidied group).once q s ∙ ap one (any-map (λ rect. is_inside rect q s) (λ (item : Item). item.right) (own group))

  pub left_input : (group : Group) → IsInput left (lefts_of group)
  left_input group = record {
    lie = (left_tidied group).lie;
    single = λ p s lt less. subst (λ (n : ℕ). n ≤ 1) (sym (left_times group p s)) (at_most_one (list_any (has_left p s) (own group)));
  }

  pub right_input : (group : Group) → IsInput right (rights_of group)
  right_input group = record {
    lie = (right_tidied group).lie;
    single = λ q s lt less. subst (λ (n : ℕ). n ≤ 1) (sym (right_times group q s)) (at_most_one (list_any (has_right q s) (own group)));
  }

  -- ---- a column that is split on the left, or whole: each left cell stands in one item

  pub once_left : (side : Side) (groups : List Group) (p s : ℕ) → side ≡ Left → Parts 0 (grid_at side left right).producers groups → p < left.producers
      → total (λ item. one (has_left p s item)) (sided left right sides.equal sides.lefts sides.rights side groups s) ≡ 1
  once_left Left groups p s is parts lt = left_once left right sides.equal sides.lefts sides.rights groups p s parts lt
  once_left Right groups p s is parts lt = absurd (let fails : Right ≡ Left = is in cc)

  pub once_right : (side : Side) (groups : List Group) (q s : ℕ) → side ≡ Right → Parts 0 (grid_at side left right).producers groups → q < right.producers
      → total (λ item. one (has_right q s item)) (sided left right sides.equal sides.lefts sides.rights side groups s) ≡ 1
  once_right Right groups q s is parts lt = right_once left right sides.equal sides.lefts sides.rights groups q s parts lt
  once_right Left groups q s is parts lt = absurd (let fails : Left ≡ Right = is in cc)

  pub left_in_all : (p s : ℕ) → side_of s ≡ Left → p < left.producers → s < left.cells → total (λ item. one (has_left p s item)) items ≡ 1
  left_in_all p s is lt less =
      total-flat_map (λ item. one (has_left p s item)) block (range_with_len 0 left.cells)
      ∙ total_one (λ c. total (λ item. one (has_left p s item)) (block c)) s left.cells 0 (omega arith) (omega arith)
      (λ c other. left_none left right sides.equal sides.lefts sides.rights (side_of c) (groups_at c) p c s other)
      (once_left (side_of s) (groups_at s) p s is (part_at s) lt)

  pub right_in_all : (q s : ℕ) → side_of s ≡ Right → q < right.producers → s < left.cells → total (λ item. one (has_right q s item)) items ≡ 1
  right_in_all q s is lt less =
      total-flat_map (λ item. one (has_right q s item)) block (range_with_len 0 left.cells)
      ∙ total_one (λ c. total (λ item. one (has_right q s item)) (block c)) s left.cells 0 (omega arith) (omega arith)
      (λ c other. right_none left right sides.equal sides.lefts sides.rights (side_of c) (groups_at c) q c s other)
      (once_right (side_of s) (groups_at s) q s is (part_at s) lt)

  pub left_along : (p q s : ℕ) → side_of s ≡ Left → q < right.producers → Each (λ item. has_left p s item ≡ true → has_right q s item ≡ true) items
  left_along p q s is lt =
      each_flat (λ item. has_left p s item ≡ true → has_right q s item ≡ true) block (range_with_len 0 left.cells)
      (λ c. left_with left right sides.equal sides.lefts sides.rights (side_of c) (groups_at c) p q c s lt (λ e. ap side_of e ∙ is))

  pub right_along : (p q s : ℕ) → side_of s ≡ Right → p < left.producers → Each (λ item. has_right q s item ≡ true → has_left p s item ≡ true) items
  right_along p q s is lt =
      each_flat (λ item. has_right q s item ≡ true → has_left p s item ≡ true) block (range_with_len 0 left.cells)
      (λ c. right_with left right sides.equal sides.lefts sides.rights (side_of c) (groups_at c) p q c s lt (λ e. ap side_of e ∙ is))

  -- ---- covers

  module _ (wide : List Grid) (groups : List Group) (are : AreGroups (length items) groups) where
    abbrev read : Group → Reads
    read = by_items items wide

    abbrev subtasks : List Reads
    subtasks = map read groups

    sum_groups : (f : Reads → ℕ) (g : Group → ℕ) → ((group : Group) → f (read group) ≡ g group) → total g groups ≡ 1 → sum_by f subtasks ≡ 1
    sum_groups f g same one_in_all =
        total_is f subtasks ∙ total-map f read groups ∙ total-each (λ group. f (read group)) g groups same ∙ one_in_all

    each_left : (s : ℕ) → side_of s ≡ Left → (p : ℕ) → p < left.producers → s < left.cells
        → sum_by (λ subtask. times (rects_of subtask 0) p s) subtasks ≡ 1
    each_left s is p lt less =
        sum_groups (λ subtask. times (rects_of subtask 0) p s) (λ group. one (list_any (has_left p s) (own group))) (λ group. left_times group p s)
        (once_shared (has_left p s) items groups are.parts (left_in_all p s is lt less))

    each_right : (s : ℕ) → side_of s ≡ Right → (q : ℕ) → q < right.producers → s < left.cells
        → sum_by (λ subtask. times (rects_of subtask 1) q s) subtasks ≡ 1
    each_right s is q lt less =
        sum_groups (λ subtask. times (rects_of subtask 1) q s) (λ group. one (list_any (has_right q s) (own group))) (λ group. right_times group q s)
        (once_shared (has_right q s) items groups are.parts (right_in_all q s is lt less))

    pair_left : (s : ℕ) → side_of s ≡ Left → (p q : ℕ) → p < left.producers → q < right.producers → s < left.cells
        → sum_by (λ subtask. times (rects_of subtask 0) p s * times (rects_of subtask 1) q s) subtasks ≡ 1
    pair_left s is p q lt under less =
        sum_groups (λ subtask. times (rects_of subtask 0) p s * times (rects_of subtask 1) q s) (λ group. one (list_any (has_left p s) (own group)))
        (λ group. (λ i. left_times group p s i * right_times group q s i)
        ∙ product (has_left p s) (has_right q s) (own group)
        (each-part (λ item. has_left p s item ≡ true → has_right q s item ≡ true) group.start group.end items (left_along p q s is under)))
        (once_shared (has_left p s) items groups are.parts (left_in_all p s is lt less))

    pair_right : (s : ℕ) → side_of s ≡ Right → (p q : ℕ) → p < left.producers → q < right.producers → s < left.cells
        → sum_by (λ subtask. times (rects_of subtask 0) p s * times (rects_of subtask 1) q s) subtasks ≡ 1
    pair_right s is p q lt under less =
        sum_groups (λ subtask. times (rects_of subtask 0) p s * times (rects_of subtask 1) q s) (λ group. one (list_any (has_right q s) (own group)))
        (λ group. (λ i. left_times group p s i * right_times group q s i)
        ∙ mul_comm (one (list_any (has_left p s) (own group))) (one (list_any (has_right q s) (own group)))
        ∙ product (has_right q s) (has_left p s) (own group)
        (each-part (λ item. has_right q s item ≡ true → has_left p s item ≡ true) group.start group.end items (right_along p q s is lt)))
        (once_shared (has_right q s) items groups are.parts (right_in_all q s is under less))

    pairs : EachPair left 0 right 1 subtasks
    pairs = record { once = λ p q s lt less under inside. by p q s (side_of s) refl lt under less }
      where
        by : (p q s : ℕ) (side : Side) → side_of s ≡ side → p < left.producers → q < right.producers → s < left.cells
            → sum_by (λ subtask. times (rects_of subtask 0) p s * times (rects_of subtask 1) q s) subtasks ≡ 1
        by p q s Left is lt under less = pair_left s is p q lt under less
        by p q s Right is lt under less = pair_right s is p q lt under less

    some_any : (b : Bool) → 0 < one b → b ≡ true
    some_any true some = refl
    some_any false some = absurd (omega arith)

    lefts_driven : ((s : ℕ) → side_of s ≡ Left) → IsDriven left 0 right 1 subtasks
    lefts_driven all_left = record {
      once = record { once = λ p s lt less. each_left s (all_left s) p lt less };
      partners = All-map (λ subtask. HasPartners left right (rects_of subtask 0) (rects_of subtask 1)) read groups
          (all_groups (λ group. HasPartners left right (lefts_of group) (rights_of group)) 0 (length items) groups are.parts (λ group ordered within. partner group));
    }
      where
        partner : (group : Group) → HasPartners left right (lefts_of group) (rights_of group)
        partner group = record {
          each = λ p q s lt less under inside some.
              let any = some_any (list_any (has_left p s) (own group)) (subst (λ (n : ℕ). 0 < n) (left_times group p s) some) in
              right_times group q s
              ∙ ap one (any_along (has_left p s) (has_right q s) (own group)
              (each-part (λ item. has_left p s item ≡ true → has_right q s item ≡ true) group.start group.end items (left_along p q s (all_left s) under)) any);
        }

    rights_driven : ((s : ℕ) → side_of s ≡ Right) → IsDriven right 1 left 0 subtasks
    rights_driven all_right = record {
      once = record { once = λ q s lt less. each_right s (all_right s) q lt (let e = sides.equal in omega arith) };
      partners = All-map (λ subtask. HasPartners right left (rects_of subtask 1) (rects_of subtask 0)) read groups
          (all_groups (λ group. HasPartners right left (rights_of group) (lefts_of group)) 0 (length items) groups are.parts (λ group ordered within. partner group));
    }
      where
        partner : (group : Group) → HasPartners right left (rights_of group) (lefts_of group)
        partner group = record {
          each = λ q p s lt less under inside some.
              let any = some_any (list_any (has_right q s) (own group)) (subst (λ (n : ℕ). 0 < n) (right_times group q s) some) in
              left_times group p s
              ∙ ap one (any_along (has_right q s) (has_left p s) (own group)
              (each-part (λ item. has_right q s item ≡ true → has_left p s item ≡ true) group.start group.end items (right_along p q s (all_right s) under)) any);
        }

    pub formed : (group : Group) → AllZip IsInput (left ∷ (right ∷ wide)) (read group)
    formed group = (left_input group, (right_input group, inputs-whole wide))

    pub inner : IsCover (record { kind = Inner; heads = left ∷ (right ∷ []); wide = wide }) subtasks
    inner = is_cover Inner (left ∷ (right ∷ [])) wide read (length items) groups are (λ group within. formed group) (λ group. wholes-whole wide) pairs

    pub left_driven : ((s : ℕ) → side_of s ≡ Left) → IsCover (record { kind = LeftDriven; heads = left ∷ (right ∷ []); wide = wide }) subtasks
    left_driven all_left = is_cover LeftDriven (left ∷ (right ∷ [])) wide read (length items) groups are (λ group within. formed group) (λ group. wholes-whole wide) (lefts_driven all_left)

    pub right_driven : ((s : ℕ) → side_of s ≡ Right) → IsCover (record { kind = RightDriven; heads = left ∷ (right ∷ []); wide = wide }) subtasks
    right_driven all_right = is_cover RightDriven (left ∷ (right ∷ [])) wide read (length items) groups are (λ group within. formed group) (λ group. wholes-whole wide) (rights_driven all_right)

-- the side that is tried where one alone may be split
pub left_tried : (kind : JoinKind) (sizes : Sizes) → may_split kind Left ≡ true → may_split kind Right ≡ false → side_tried kind sizes ≡ Left
left_tried kind sizes left right = by (may_split kind Left) (may_split kind Right) left right
  where
    by : (a b : Bool) → a ≡ true → b ≡ false → cond (a && (not b || nat_le sizes.right sizes.left)) Left Right ≡ Left
    by true false holds fails = refl
    by true true holds fails = absurd (let bad : true ≡ false = fails in cc)
    by false b holds fails = absurd (let bad : false ≡ true = holds in cc)

pub right_tried : (kind : JoinKind) (sizes : Sizes) → may_split kind Left ≡ false → side_tried kind sizes ≡ Right
right_tried kind sizes left = ap (λ (a : Bool). cond (a && (not (may_split kind Right) || nat_le sizes.right sizes.left)) Left Right) left
