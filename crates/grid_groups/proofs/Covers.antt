-- What groups read is a cover.
use Rattle.std.proofs.Common.{◌≡◌, ℕ, zero, suc, ◌*◌, ◌<◌, ◌≤◌, Bool, cond, All, List, [], ◌∷◌, ◌++◌, Some, slice_get, slice_index_or, length, drop, map, sym, ◌∙◌, ap, subst, arith}
use Rattle.std.proofs.lemmas.List.{length-map}
use Rattle.std.proofs.Math.Nat.{one-mul, mul-one}
use Rattle.std.specs.List.{AllZip}
use Rattle.std.proofs.lemmas.List.Elements.{All-head, All-tail, All-map}
use Rattle.rect_cover.specs.declared.rect.Rect.{Rect}
use Rattle.rect_cover.specs.declared.grid.Grid.{Grid}
use Rattle.rect_cover.specs.declared.shape_kind.ShapeKind.{ShapeKind}
use Rattle.rect_cover.specs.declared.shape_kind.ShapeKind.TheVariants.{RowWise, Keyed, LeftDriven, RightDriven, Inner}
use Rattle.rect_cover.specs.Cells.{Reads, rects_of, times, touches}
use Rattle.rect_cover.specs.Covers.{IsInput, HasWhole, EachOnce, HasColumns, HeadsOnce, ByColumns, HasPartners, EachPair, Demand, IsCover}
use Rattle.volume_split.specs.Groups.{Parts}
use Rattle.volume_split.specs.declared.group.Group.{Group}
use Rattle.grid_groups.specs.Reads.{whole_of, producers_of, columns_of, by_producers, by_columns}
use Rattle.grid_groups.proofs.Groups.{here, each_once, all_groups}
use Rattle.grid_groups.proofs.Filled.{input-whole, once-whole, inputs-whole, wholes-whole, input-producers, input-columns, times-producers, times-columns, touches-columns}

-- groups that part n places, a few of them
pub record AreGroups (n : ℕ) (groups : List Group) : Type 0 where
  pub parts : Parts 0 n groups
  pub some : 0 < length groups
  pub few : length groups ≤ 128

-- a cover, by what one group reads and what all of them do
pub is_cover : (kind : ShapeKind) (heads wide : List Grid) (read : Group → Reads) (n : ℕ) (groups : List Group) → AreGroups n groups
    → ((group : Group) → group.end ≤ n → AllZip IsInput (heads ++ wide) (read group))
    → ((group : Group) → AllZip HasWhole wide (drop (length heads) (read group)))
    → Demand kind heads (map read groups)
    → IsCover (record { kind = kind; heads = heads; wide = wide }) (map read groups)
is_cover kind heads wide read n groups are formed whole demand = record {
  some = let long = length-map groups read in let more = are.some in omega arith;
  few = let long = length-map groups read in let most = are.few in omega arith;
  formed = All-map (AllZip IsInput (heads ++ wide)) read groups
      (all_groups (λ group. AllZip IsInput (heads ++ wide) (read group)) 0 n groups are.parts (λ group ordered within. formed group within));
  wide = All-map (λ subtask. AllZip HasWhole wide (drop (length heads) subtask)) read groups
      (all_groups (λ group. AllZip HasWhole wide (drop (length heads) (read group))) 0 n groups are.parts (λ group ordered within. whole group));
  demand = demand;
}

module _ (groups : List Group) (grid : Grid) (wide : List Grid) (are : AreGroups grid.producers groups) where
  -- ---- producers of the first input

  abbrev pub first : Group → Reads
  first = by_producers [] grid wide

  pub first_once : EachOnce grid 0 (map first groups)
  first_once = record {
    once = λ p s lt less. each_once (λ subtask. times (rects_of subtask 0) p s) first p grid.producers groups are.parts lt (λ group. times-producers grid group p s less);
  }

  pub first_heads : HeadsOnce (grid ∷ []) (map first groups)
  first_heads = record { each = at }
    where
      at : (input : ℕ) (other : Grid) → slice_get (grid ∷ []) input ≡ Some other → EachOnce other input (map first groups)
      at zero other is = let same : grid ≡ other = cc in subst (λ (g : Grid). EachOnce g 0 (map first groups)) same first_once
      at (suc input) other is = absurd (cc)

  pub producers_row_wise : IsCover (record { kind = RowWise; heads = grid ∷ []; wide = wide }) (map first groups)
  producers_row_wise =
      is_cover RowWise (grid ∷ []) wide first grid.producers groups are
      (λ group within. (input-producers grid group within, inputs-whole wide))
      (λ group. wholes-whole wide)
      first_heads

module _ (groups : List Group) (left right : Grid) (wide : List Grid) where
  -- ---- producers of a join's side, and the other side whole

  abbrev pub lefts : Group → Reads
  lefts = by_producers [] left (right ∷ wide)

  abbrev pub rights : Group → Reads
  rights = by_producers (left ∷ []) right wide

  module _ (are : AreGroups left.producers groups) where
    left_once : EachOnce left 0 (map lefts groups)
    left_once = record {
      once = λ p s lt less. each_once (λ subtask. times (rects_of subtask 0) p s) lefts p left.producers groups are.parts lt (λ group. times-producers left group p s less);
    }

    left_partners : All (λ subtask. HasPartners left right (rects_of subtask 0) (rects_of subtask 1)) (map lefts groups)
    left_partners =
        All-map (λ subtask. HasPartners left right (rects_of subtask 0) (rects_of subtask 1)) lefts groups
        (all_groups (λ group. HasPartners left right (producers_of left group) (whole_of right)) 0 left.producers groups are.parts
        (λ group ordered within. record { each = λ p q s lt less under inside has. once-whole right q s under inside }))

    left_pairs : EachPair left 0 right 1 (map lefts groups)
    left_pairs = record {
      once = λ p q s lt less under inside.
          each_once (λ subtask. times (rects_of subtask 0) p s * times (rects_of subtask 1) q s) lefts p left.producers groups are.parts lt
          (λ group. (λ i. times-producers left group p s less i * once-whole right q s under inside i) ∙ mul-one (here group p));
    }

    pub left_driven : IsCover (record { kind = LeftDriven; heads = left ∷ (right ∷ []); wide = wide }) (map lefts groups)
    left_driven =
        is_cover LeftDriven (left ∷ (right ∷ [])) wide lefts left.producers groups are
        (λ group within. (input-producers left group within, (input-whole right, inputs-whole wide)))
        (λ group. wholes-whole wide)
        (record { once = left_once; partners = left_partners })

    pub left_inner : IsCover (record { kind = Inner; heads = left ∷ (right ∷ []); wide = wide }) (map lefts groups)
    left_inner =
        is_cover Inner (left ∷ (right ∷ [])) wide lefts left.producers groups are
        (λ group within. (input-producers left group within, (input-whole right, inputs-whole wide)))
        (λ group. wholes-whole wide)
        left_pairs

  module _ (are : AreGroups right.producers groups) where
    right_once : EachOnce right 1 (map rights groups)
    right_once = record {
      once = λ p s lt less. each_once (λ subtask. times (rects_of subtask 1) p s) rights p right.producers groups are.parts lt (λ group. times-producers right group p s less);
    }

    right_partners : All (λ subtask. HasPartners right left (rects_of subtask 1) (rects_of subtask 0)) (map rights groups)
    right_partners =
        All-map (λ subtask. HasPartners right left (rects_of subtask 1) (rects_of subtask 0)) rights groups
        (all_groups (λ group. HasPartners right left (producers_of right group) (whole_of left)) 0 right.producers groups are.parts
        (λ group ordered within. record { each = λ p q s lt less under inside has. once-whole left q s under inside }))

    right_pairs : EachPair left 0 right 1 (map rights groups)
    right_pairs = record {
      once = λ p q s lt less under inside.
          each_once (λ subtask. times (rects_of subtask 0) p s * times (rects_of subtask 1) q s) rights q right.producers groups are.parts under
          (λ group. (λ i. once-whole left p s lt less i * times-producers right group q s inside i) ∙ one-mul (here group q));
    }

    pub right_driven : IsCover (record { kind = RightDriven; heads = left ∷ (right ∷ []); wide = wide }) (map rights groups)
    right_driven =
        is_cover RightDriven (left ∷ (right ∷ [])) wide rights right.producers groups are
        (λ group within. (input-whole left, (input-producers right group within, inputs-whole wide)))
        (λ group. wholes-whole wide)
        (record { once = right_once; partners = right_partners })

    pub right_inner : IsCover (record { kind = Inner; heads = left ∷ (right ∷ []); wide = wide }) (map rights groups)
    right_inner =
        is_cover Inner (left ∷ (right ∷ [])) wide rights right.producers groups are
        (λ group within. (input-whole left, (input-producers right group within, inputs-whole wide)))
        (λ group. wholes-whole wide)
        right_pairs

-- ---- columns

-- what stands at the place of a head
pub head_at : (read : Grid → List Rect) (heads : List Grid) (rest : List (List Rect)) (input : ℕ) (grid : Grid)
    → slice_get heads input ≡ Some grid → slice_index_or (map read heads ++ rest) input [] ≡ read grid
head_at read [] rest input grid is = absurd (cc)
head_at read (head ∷ heads) rest zero grid is = let same : head ≡ grid = cc in ap read same
head_at read (head ∷ heads) rest (suc input) grid is = head_at read heads rest input grid is

pub cells_at : (n : ℕ) (heads : List Grid) → All (λ grid. grid.cells ≡ n) heads → (input : ℕ) (grid : Grid) → slice_get heads input ≡ Some grid → grid.cells ≡ n
cells_at n [] equal input grid is = absurd (cc)
cells_at n (head ∷ heads) equal zero grid is =
    let same : head ≡ grid = cc in subst (λ (g : Grid). g.cells ≡ n) same (All-head (λ (g : Grid). g.cells ≡ n) head heads equal)
cells_at n (head ∷ heads) equal (suc input) grid is = cells_at n heads (All-tail (λ (g : Grid). g.cells ≡ n) head heads equal) input grid is

pub column_inputs : (heads wide : List Grid) (group : Group) (n : ℕ) → group.end ≤ n → All (λ grid. grid.cells ≡ n) heads → AllZip IsInput (heads ++ wide) (by_columns heads wide group)
column_inputs [] wide group n le equal = inputs-whole wide
column_inputs (head ∷ heads) wide group n le equal =
    let own : head.cells ≡ n = All-head (λ (g : Grid). g.cells ≡ n) head heads equal in
    (input-columns head group (omega arith), column_inputs heads wide group n le (All-tail (λ (g : Grid). g.cells ≡ n) head heads equal))

pub column_wide : (heads wide : List Grid) (group : Group) → AllZip HasWhole wide (drop (length heads) (by_columns heads wide group))
column_wide [] wide group = wholes-whole wide
column_wide (head ∷ heads) wide group = column_wide heads wide group

module _ (groups : List Group) (heads wide : List Grid) (n : ℕ) (are : AreGroups n groups) (equal : All (λ grid. grid.cells ≡ n) heads) where
  pub column_once : (input : ℕ) (grid : Grid) → slice_get heads input ≡ Some grid → EachOnce grid input (map (by_columns heads wide) groups)
  column_once input grid is = record {
    once = λ p s lt less.
        let own = cells_at n heads equal input grid is in
        each_once (λ subtask. times (rects_of subtask input) p s) (by_columns heads wide) s n groups are.parts (omega arith)
        (λ group. ap (λ (rects : List Rect). times rects p s) (head_at (λ grid. columns_of grid group) heads (map whole_of wide) input grid is) ∙ times-columns grid group p s lt);
  }

  pub columns_row_wise : IsCover (record { kind = RowWise; heads = heads; wide = wide }) (map (by_columns heads wide) groups)
  columns_row_wise =
      is_cover RowWise heads wide (by_columns heads wide) n groups are
      (λ group within. column_inputs heads wide group n within equal)
      (λ group. column_wide heads wide group)
      (record { each = column_once })

module _ (groups : List Group) (grid : Grid) (wide : List Grid) (are : AreGroups grid.cells groups) (some : 0 < grid.producers) where
  abbrev pub one : Group → Reads
  one = by_columns (grid ∷ []) wide

  pub column_touched : ByColumns grid 0 (map one groups)
  column_touched = record {
    full = All-map (λ subtask. HasColumns grid (rects_of subtask 0)) one groups
        (all_groups (λ group. HasColumns grid (columns_of grid group)) 0 grid.cells groups are.parts
        (λ group ordered within. record {
          each = λ p s lt less touched.
              times-columns grid group p s lt
              ∙ ap (λ (b : Bool). cond {A = ℕ} b 1 0) (sym (touches-columns grid group s some) ∙ touched);
        }));
    once = λ s less.
        each_once (λ subtask. cond {A = ℕ} (touches (rects_of subtask 0) s) 1 0) one s grid.cells groups are.parts less
        (λ group. ap (λ (b : Bool). cond {A = ℕ} b 1 0) (touches-columns grid group s some));
  }

  pub columns_keyed : IsCover (record { kind = Keyed; heads = grid ∷ []; wide = wide }) (map one groups)
  columns_keyed =
      is_cover Keyed (grid ∷ []) wide one grid.cells groups are
      (λ group within. (input-columns grid group within, inputs-whole wide))
      (λ group. wholes-whole wide)
      column_touched
