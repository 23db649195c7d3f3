-- What shares the columns of a full join: no column is split, and each is whole on both sides.
use Rattle.std.proofs.Common.{◌≡◌, ℕ, ◌+◌, ◌<◌, max, Bool, true, false, ◌&&◌, ◌||◌, All, List, [], ◌∷◌, length, map, refl, sym, ◌∙◌, ap, subst, arith}
use Rattle.std.specs.List.{list_any, range_with_len, slice_range, sum_by}
use Rattle.std.proofs.lemmas.List.Elements.{All-head, All-tail, All-map}
use Rattle.bag_laws.proofs.Laws.{total, total_is, total-each, total-map}
use Rattle.plan_model.specs.declared.join_kind.JoinKind.{JoinKind}
use Rattle.plan_model.specs.declared.setting_values.SettingValues.{SettingValues}
use Rattle.plan_model.specs.declared.side.Side.{Side}
use Rattle.plan_model.specs.declared.side.Side.TheVariants.{Left, Right}
use Rattle.rect_cover.specs.declared.grid.Grid.{Grid}
use Rattle.rect_cover.specs.declared.rect.Rect.{Rect}
use Rattle.rect_cover.specs.declared.shape_kind.ShapeKind.TheVariants.{Full}
use Rattle.rect_cover.specs.Cells.{Reads, is_inside, rects_of, times, touches}
use Rattle.rect_cover.specs.Covers.{LiesIn, HasColumns, SameColumns, IsCover}
use Rattle.volume_split.specs.declared.group.Group.{Group}
use Rattle.grid_groups.proofs.Laws.{AreGroups, is_cover, all_groups, is_within, left_yes, left_no, within_yes, wholes-whole}
use Rattle.skew_splitter.specs.declared.item.Item.{Item}
use Rattle.skew_splitter.specs.declared.sizes.Sizes.{Sizes}
use Rattle.skew_splitter.specs.Columns.{may_split, other_side, side_tried, is_split, is_skewed, size_at, grid_at, pieces, sizes_of, column_items, item_of, join_items}
use Rattle.skew_splitter.specs.Decisions.{AreSides, by_items}
use Rattle.skew_splitter.proofs.Chains.{times-one}
use Rattle.skew_splitter.proofs.Shares.{one, Each, each-part, once_shared}
use Rattle.skew_splitter.proofs.Items.{has_left, has_right}
use Rattle.skew_splitter.proofs.Covers as covers
use Rattle.skew_splitter.proofs.Covers.{each_flat, right_tried}

any-same : {X : Type 0} (test other : X → Bool) (xs : List X) → Each (λ x. test x ≡ other x) xs → list_any test xs ≡ list_any other xs
any-same test other [] each = refl
any-same test other (x ∷ xs) each = λ i. each.0 i || any-same test other xs each.1 i

total-same : {X : Type 0} (test other : X → Bool) (xs : List X) → Each (λ x. test x ≡ other x) xs → total (λ x. one (test x)) xs ≡ total (λ x. one (other x)) xs
total-same test other [] each = refl
total-same test other (x ∷ xs) each =
    let first : one (test x) ≡ one (other x) = ap one each.0 in
    let rest = total-same test other xs each.1 in
    omega arith

-- rects that have a cell of a column touch it
touches_some : (rects : List Rect) (p s : ℕ) → 0 < times rects p s → touches rects s ≡ true
touches_some [] p s some = absurd (omega (arith, some))
touches_some (rect ∷ rects) p s some =
    by (is_within rect.p0 rect.p1 p) (is_within rect.s0 rect.s1 s) (subst (λ (n : ℕ). 0 < n) (times-one rect rects p s) some) (touches_some rects p s)
  where
    by : (here spans : Bool) → 0 < one (here && spans) + times rects p s → (0 < times rects p s → touches rects s ≡ true) → (spans || touches rects s) ≡ true
    by here true more rest = refl
    by true false more rest = rest (omega (arith, more))
    by false false more rest = rest (omega (arith, more))

-- rects that have none of its cells do not
touches_none : (grid : Grid) (rects : List Rect) (s : ℕ) → All (LiesIn grid) rects → ((p : ℕ) → p < grid.producers → times rects p s ≡ 0) → touches rects s ≡ false
touches_none grid [] s lie none = refl
touches_none grid (rect ∷ rects) s lie none =
    (λ i. outside (is_within rect.s0 rect.s1 s) refl i || touches rects s)
    ∙ touches_none grid rects s (All-tail (LiesIn grid) rect rects lie) (λ p lt. later p lt)
  where
    first : LiesIn grid rect
    first = All-head (LiesIn grid) rect rects lie

    later : (p : ℕ) → p < grid.producers → times rects p s ≡ 0
    later p lt = let e = times-one rect rects p s in let z = none p lt in omega arith

    outside : (b : Bool) → is_within rect.s0 rect.s1 s ≡ b → is_within rect.s0 rect.s1 s ≡ false
    outside false is = is
    outside true is =
        let wide = first.producers in
        let last = first.last_producer in
        let here : one (is_inside rect rect.p0 s) ≡ 1
        = ap one (left_yes (is_within rect.p0 rect.p1 rect.p0) (is_within rect.s0 rect.s1 s) (within_yes rect.p0 rect.p1 rect.p0 (omega arith) wide) ∙ is) in
        let e = times-one rect rects rect.p0 s in
        let z = none rect.p0 (omega arith) in
        absurd (omega arith)

-- where the cells of a column stand in rects all alike, the rects touch it just then
touches_is : (grid : Grid) (rects : List Rect) (s : ℕ) (b : Bool) → All (LiesIn grid) rects → 0 < grid.producers
    → ((p : ℕ) → p < grid.producers → times rects p s ≡ one b) → touches rects s ≡ b
touches_is grid rects s true lie some alike = touches_some rects 0 s (let e : times rects 0 s ≡ 1 = alike 0 some in omega arith)
touches_is grid rects s false lie some alike = touches_none grid rects s lie alike

module _ (kind : JoinKind) (settings : SettingValues) (medians : Sizes) (left right : Grid) (sides : AreSides left right)
    (no_left : may_split kind Left ≡ false) (no_right : may_split kind Right ≡ false) where
  abbrev items : List Item
  items = join_items kind settings medians left right

  neither : (side : Side) → may_split kind side ≡ false
  neither Left = no_left
  neither Right = no_right

  unsplit : (sizes : Sizes) → is_split kind settings medians sizes ≡ false
  unsplit sizes =
      let side = side_tried kind sizes in
      left_no (may_split kind side) (is_skewed settings (size_at side medians) (size_at side sizes)) (neither side)

  tried : (sizes : Sizes) → side_tried kind sizes ≡ Right
  tried sizes = right_tried kind sizes no_left

  -- an item has a left cell of a column just where it has a right cell of it
  abbrev Alike : ℕ → ℕ → ℕ → Item → Type 0
  Alike p q s item = has_left p s item ≡ has_right q s item

  item_alike : (p q s c : ℕ) → p < left.producers → q < right.producers → (side : Side) (split : Bool) → side ≡ Right → split ≡ false
      → Each (Alike p q s) (map (item_of side (grid_at side left right) (grid_at (other_side side) left right) c) (pieces settings.target_bytes split (grid_at side left right) c))
  item_alike p q s c lt less Left split is fails = absurd (let bad : Left ≡ Right = is in cc)
  item_alike p q s c lt less Right true is fails = absurd (let bad : true ≡ false = fails in cc)
  item_alike p q s c lt less Right false is fails = (
    left_yes (is_within 0 left.producers p) (is_within c (c + 1) s) (within_yes 0 left.producers p (omega arith) lt)
        ∙ sym (left_yes (is_within 0 right.producers q) (is_within c (c + 1) s) (within_yes 0 right.producers q (omega arith) less)),
    tt,
  )

  alike : (p q s : ℕ) → p < left.producers → q < right.producers → Each (Alike p q s) items
  alike p q s lt less =
      each_flat (Alike p q s) (column_items kind settings medians left right) (range_with_len 0 left.cells)
      (λ c. item_alike p q s c lt less (side_tried kind (sizes_of left right c)) (is_split kind settings medians (sizes_of left right c))
      (tried (sizes_of left right c)) (unsplit (sizes_of left right c)))

  module _ (wide : List Grid) (groups : List Group) (are : AreGroups (length items) groups) where
    abbrev read : Group → Reads
    read = by_items items wide

    abbrev own : Group → List Item
    own group = slice_range items group.start group.end

    -- a group has the column
    abbrev standing : ℕ → Group → Bool
    standing s group = list_any (has_right 0 s) (own group)

    own_alike : (p q s : ℕ) (group : Group) → p < left.producers → q < right.producers → Each (Alike p q s) (own group)
    own_alike p q s group lt less = each-part (Alike p q s) group.start group.end items (alike p q s lt less)

    left_standing : (p s : ℕ) (group : Group) → p < left.producers → times (covers.lefts_of kind settings medians left right sides group) p s ≡ one (standing s group)
    left_standing p s group lt =
        covers.left_times kind settings medians left right sides group p s
        ∙ ap one (any-same (has_left p s) (has_right 0 s) (own group) (own_alike p 0 s group lt sides.rights))

    right_standing : (q s : ℕ) (group : Group) → q < right.producers → times (covers.rights_of kind settings medians left right sides group) q s ≡ one (standing s group)
    right_standing q s group less =
        covers.right_times kind settings medians left right sides group q s
        ∙ ap one (sym (any-same (has_left 0 s) (has_right q s) (own group) (own_alike 0 q s group sides.lefts less))
        ∙ any-same (has_left 0 s) (has_right 0 s) (own group) (own_alike 0 0 s group sides.lefts sides.rights))

    left_touches : (s : ℕ) (group : Group) → touches (covers.lefts_of kind settings medians left right sides group) s ≡ standing s group
    left_touches s group =
        touches_is left (covers.lefts_of kind settings medians left right sides group) s (standing s group)
        (covers.left_tidied kind settings medians left right sides group).lie sides.lefts (λ p lt. left_standing p s group lt)

    right_touches : (s : ℕ) (group : Group) → touches (covers.rights_of kind settings medians left right sides group) s ≡ standing s group
    right_touches s group =
        touches_is right (covers.rights_of kind settings medians left right sides group) s (standing s group)
        (covers.right_tidied kind settings medians left right sides group).lie sides.rights (λ q less. right_standing q s group less)

    standing_once : (s : ℕ) → s < left.cells → total (λ group. one (standing s group)) groups ≡ 1
    standing_once s less =
        once_shared (has_right 0 s) items groups are.parts
        (covers.right_in_all kind settings medians left right sides 0 s (tried (sizes_of left right s)) sides.rights less)

    touched_once : (f : Reads → Bool) (s : ℕ) → s < left.cells → ((group : Group) → f (read group) ≡ standing s group) → sum_by (λ subtask. one (f subtask)) (map read groups) ≡ 1
    touched_once f s less same =
        total_is (λ subtask. one (f subtask)) (map read groups)
        ∙ total-map (λ subtask. one (f subtask)) read groups
        ∙ total-each (λ group. one (f (read group))) (λ group. one (standing s group)) groups (λ group. ap one (same group))
        ∙ standing_once s less

    same_columns : SameColumns left 0 right 1 (map read groups)
    same_columns = record {
      lefts = record {
        full = All-map (λ subtask. HasColumns left (rects_of subtask 0)) read groups
            (all_groups (λ group. HasColumns left (covers.lefts_of kind settings medians left right sides group)) 0 (length items) groups are.parts
            (λ group ordered within. record { each = λ p s lt less is. left_standing p s group lt ∙ ap one (sym (left_touches s group) ∙ is) }));
        once = λ s less. touched_once (λ subtask. touches (rects_of subtask 0) s) s less (λ group. left_touches s group);
      };
      rights = record {
        full = All-map (λ subtask. HasColumns right (rects_of subtask 1)) read groups
            (all_groups (λ group. HasColumns right (covers.rights_of kind settings medians left right sides group)) 0 (length items) groups are.parts
            (λ group ordered within. record { each = λ q s lt less is. right_standing q s group lt ∙ ap one (sym (right_touches s group) ∙ is) }));
        once = λ s less. touched_once (λ subtask. touches (rects_of subtask 1) s) s (let e = sides.equal in omega arith) (λ group. right_touches s group);
      };
      same = All-map (λ subtask. (s : ℕ) → s < max left.cells right.cells → touches (rects_of subtask 0) s ≡ touches (rects_of subtask 1) s) read groups
          (all_groups (λ group. (s : ℕ) → s < max left.cells right.cells
          → touches (covers.lefts_of kind settings medians left right sides group) s ≡ touches (covers.rights_of kind settings medians left right sides group) s)
          0 (length items) groups are.parts (λ group ordered within s lt. left_touches s group ∙ sym (right_touches s group)));
    }

    pub full : IsCover (record { kind = Full; heads = left ∷ (right ∷ []); wide = wide }) (map read groups)
    full =
        is_cover Full (left ∷ (right ∷ [])) wide read (length items) groups are
        (λ group within. covers.formed kind settings medians left right sides wide groups are group)
        (λ group. wholes-whole wide)
        same_columns
