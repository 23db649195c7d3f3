-- Rects in the order of their columns, pieces of one column one after the other: what they become.
use Rattle.std.proofs.Common.{◌≡◌, ◌⊎◌, inl, inr, ⊎_elim, ℕ, zero, suc, ◌+◌, ◌<◌, ◌≤◌, ◌==◌, Bool, true, false, cond, ◌&&◌, ◌||◌, All, List, [], ◌∷◌, take, drop, refl, sym, ◌∙◌, ap, subst, arith}
use Rattle.std.proofs.Math.Nat.{zero-add}
use Rattle.std.specs.Prelude.{nat_lt, nat_le}
use Rattle.std.specs.List.{list_any}
use Rattle.std.proofs.lemmas.Bool.{cases_lt}
use Rattle.std.proofs.lemmas.Bool.Decides.{nat_tests}
use Rattle.std.proofs.lemmas.List.Elements.{All-nil, All-cons}
use Rattle.std.proofs.lemmas.List.Sums.{sum_by-cons}
use Rattle.rect_cover.specs.declared.grid.Grid.{Grid}
use Rattle.rect_cover.specs.declared.rect.Rect.{Rect}
use Rattle.rect_cover.specs.Cells.{is_inside, times}
use Rattle.rect_cover.specs.Covers.{LiesIn}
use Rattle.grid_groups.proofs.Laws.{is_within, right_no, lt_from, within_yes, within_early, within_late}
use Rattle.skew_splitter.specs.declared.rule.Rule.TheVariants.{OneColumn, SideBySide}
use Rattle.skew_splitter.specs.Joined.{are_one, as_one, joined, joined_from, tidy}
use Rattle.skew_splitter.proofs.Shares.{one}

-- how one piece of a column follows another: where the column is split it goes on, else it is again
abbrev pub Step : Bool → Rect → Rect → Type 0
Step true a b = a.p1 ≡ b.p0
Step false a b = (a.p0 ≡ b.p0) × (a.p1 ≡ b.p1)

-- the next rect: of a later column, or of the same
abbrev pub Next : (ℕ → Bool) → Rect → Rect → Type 0
Next split a b = (a.s1 ≤ b.s0) ⊎ ((a.s0 ≡ b.s0) × (a.s1 ≡ b.s1) × Step (split a.s0) a b)

module _ (grid : Grid) (split : ℕ → Bool) where
  -- a rect and those after it
  abbrev pub Chain : Rect → List Rect → Type 0
  Chain last [] = LiesIn grid last
  Chain last (rect ∷ rects) = LiesIn grid last × Next split last rect × Chain rect rects

  abbrev pub AllChain : List Rect → Type 0
  AllChain [] = Unit {0}
  AllChain (rect ∷ rects) = Chain rect rects

  pub lies : (last : Rect) (rects : List Rect) → Chain last rects → LiesIn grid last
  lies last [] chain = chain
  lies last (rect ∷ rects) chain = chain.0

-- a cell stands in one of the rects
abbrev pub stands : List Rect → ℕ → ℕ → Bool
stands rects p s = list_any (λ rect. is_inside rect p s) rects

pub times-one : (rect : Rect) (rects : List Rect) (p s : ℕ) → times (rect ∷ rects) p s ≡ one (is_inside rect p s) + times rects p s
times-one rect rects p s = sum_by-cons (λ rect. one (is_inside rect p s)) rect rects

-- no cell of an earlier column stands in a chain
module _ (grid : Grid) (split : ℕ → Bool) where
  pub early : (p s : ℕ) (last : Rect) (rects : List Rect) → Chain grid split last rects → s < last.s0 → stands (last ∷ rects) p s ≡ false
  early p s last [] chain lt = λ i. outside i || false
    where
      outside : is_inside last p s ≡ false
      outside = right_no (is_within last.p0 last.p1 p) (is_within last.s0 last.s1 s) (within_early last.s0 last.s1 s lt)
  early p s last (rect ∷ rects) chain lt =
      (λ i. outside i || stands (rect ∷ rects) p s)
      ∙ early p s rect rects chain.2 (⊎_elim (λ (later : last.s1 ≤ rect.s0). let lie = chain.0 in let c = lie.cells in let goal : s < rect.s0 = omega arith in goal) (λ same. let e = same.0 in let goal : s < rect.s0 = omega arith in goal) chain.1)
    where
      outside : is_inside last p s ≡ false
      outside = right_no (is_within last.p0 last.p1 p) (is_within last.s0 last.s1 s) (within_early last.s0 last.s1 s lt)

  -- what stands in two that become one
  pub within_joined : (a b c k : ℕ) → a < b → b < c → is_within a c k ≡ (is_within a b k || is_within b c k)
  within_joined a b c k lt less =
      ⊎_elim (λ (low : k < a). within_early a c k low ∙ sym (λ i. within_early a b k low i || within_early b c k (omega arith) i))
      (λ (from : a ≤ k). ⊎_elim
      (λ (mid : k < b). within_yes a c k from (omega arith) ∙ sym (λ i. within_yes a b k from mid i || is_within b c k))
      (λ (past : b ≤ k). ⊎_elim
      (λ (high : k < c). within_yes a c k from high ∙ sym (λ i. within_late a b k past i || within_yes b c k past high i))
      (λ (over : c ≤ k). within_late a c k over ∙ sym (λ i. within_late a b k past i || within_late b c k over i))
      (cases_lt k c))
      (cases_lt k b))
      (cases_lt k a)

  pub or_same : (a : Bool) → a ≡ (a || a)
  or_same true = refl
  or_same false = refl

  pub and_or : (a b c : Bool) → ((a || b) && c) ≡ ((a && c) || (b && c))
  and_or true true c = or_same c
  and_or true false true = refl
  and_or true false false = refl
  and_or false b c = refl

  pub or_assoc : (a b c : Bool) → ((a || b) || c) ≡ (a || (b || c))
  or_assoc true b c = refl
  or_assoc false b c = refl

  pub inside_both : (p s : ℕ) (a b : Rect) → LiesIn grid a → LiesIn grid b → a.s0 ≡ b.s0 → a.s1 ≡ b.s1 → (mode : Bool) → Step mode a b
      → is_inside (as_one a b) p s ≡ (is_inside a p s || is_inside b p s)
  inside_both p s a b lie lies low high true step =
      let first = lie.producers in
      let second = lies.producers in
      let here : is_within a.p0 b.p1 p ≡ (is_within a.p0 a.p1 p || is_within a.p1 b.p1 p) = within_joined a.p0 a.p1 b.p1 p first (omega arith) in
      (λ i. here i && is_within a.s0 (sym high i) s)
      ∙ and_or (is_within a.p0 a.p1 p) (is_within a.p1 b.p1 p) (is_within a.s0 a.s1 s)
      ∙ (λ i. is_inside a p s || (is_within (step i) b.p1 p && is_within (low i) (high i) s))
  inside_both p s a b lie lies low high false step =
      (λ i. is_within a.p0 (sym step.1 i) p && is_within a.s0 (sym high i) s)
      ∙ or_same (is_inside a p s)
      ∙ (λ i. is_inside a p s || (is_within (step.0 i) (step.1 i) p && is_within (low i) (high i) s))

  pub chain-as_one : (a b : Rect) (rects : List Rect) → LiesIn grid a → a.s0 ≡ b.s0 → a.s1 ≡ b.s1 → Step (split a.s0) a b → Chain grid split b rects → Chain grid split (as_one a b) rects
  chain-as_one a b rects lie low high step chain = by rects chain
    where
      wide : LiesIn grid b → LiesIn grid (as_one a b)
      wide other = record {
        producers = span (split a.s0) step;
        last_producer = other.last_producer;
        cells = let c = other.cells in let goal : a.s0 < b.s1 = omega arith in goal;
        last_cell = other.last_cell;
      }
        where
          span : (mode : Bool) → Step mode a b → a.p0 < b.p1
          span true on = let first = lie.producers in let second = other.producers in omega arith
          span false again = let second = other.producers in let e = again.0 in omega arith

      go : (mode : Bool) (rect : Rect) → Step mode a b → Step mode b rect → Step mode (as_one a b) rect
      go true rect on more = more
      go false rect on more = (on.0 ∙ more.0, more.1)

      next : (rect : Rect) → Next split b rect → Next split (as_one a b) rect
      next rect (inl later) = inl later
      next rect (inr same) =
          inr (low ∙ same.0, same.1, go (split a.s0) rect step (subst (λ (n : ℕ). Step (split n) b rect) (sym low) same.2))

      by : (rects : List Rect) → Chain grid split b rects → Chain grid split (as_one a b) rects
      by [] only = wide only
      by (rect ∷ rects) more = (wide more.0, next rect more.1, more.2)

  -- ---- one rect for each column

  -- rects that lie in the grid, each column after those before
  abbrev pub Rising : ℕ → List Rect → Type 0
  Rising from [] = Unit {0}
  Rising from (rect ∷ rects) = (from ≤ rect.s0) × LiesIn grid rect × Rising rect.s1 rects

  pub sooner : (a b : ℕ) (rects : List Rect) → a ≤ b → Rising b rects → Rising a rects
  sooner a b [] le rising = tt
  sooner a b (rect ∷ rects) le rising = (omega (arith, rising.0), rising.1, rising.2)

  pub eq_yes : (a b : ℕ) → a ≡ b → (a == b) ≡ true
  eq_yes a b e = grind (arith, nat_tests)

  pub eq_no : (a b : ℕ) → a < b → (a == b) ≡ false
  eq_no a b lt = grind (arith, nat_tests)

  pub columns_apart : (last rect : Rect) → LiesIn grid last → last.s1 ≤ rect.s0 → (last.s0 == rect.s0) ≡ false
  columns_apart last rect lie later = let c = lie.cells in eq_no last.s0 rect.s0 (omega arith)

  pub columns_rise : (last : Rect) (rects : List Rect) → Chain grid split last rects → Rising last.s0 (joined_from OneColumn last rects)
  columns_rise last [] chain = (omega arith, chain, tt)
  columns_rise last (rect ∷ rects) chain =
      ⊎_elim
      (λ (later : last.s1 ≤ rect.s0).
      subst (λ (b : Bool). Rising last.s0 (cond b (joined_from OneColumn (as_one last rect) rects) (last ∷ joined_from OneColumn rect rects)))
      (sym (columns_apart last rect chain.0 later))
      (omega arith, chain.0, sooner last.s1 rect.s0 (joined_from OneColumn rect rects) later (columns_rise rect rects chain.2)))
      (λ same.
      subst (λ (b : Bool). Rising last.s0 (cond b (joined_from OneColumn (as_one last rect) rects) (last ∷ joined_from OneColumn rect rects)))
      (sym (eq_yes last.s0 rect.s0 same.0))
      (columns_rise (as_one last rect) rects (chain-as_one last rect rects chain.0 same.0 same.1 same.2 chain.2)))
      chain.1

  pub one_or : (a b : Bool) → (a ≡ true → b ≡ false) → one (a || b) ≡ one a + one b
  one_or true true apart = absurd (let fails : true ≡ false = apart refl in cc)
  one_or true false apart = refl
  one_or false b apart = sym (zero-add (one b))

  pub columns_times : (p s : ℕ) (last : Rect) (rects : List Rect) → Chain grid split last rects
      → times (joined_from OneColumn last rects) p s ≡ one (stands (last ∷ rects) p s)
  columns_times p s last [] chain = times-one last [] p s ∙ alone (is_inside last p s)
    where
      alone : (b : Bool) → one b + 0 ≡ one (b || false)
      alone true = refl
      alone false = refl
  columns_times p s last (rect ∷ rects) chain =
      ⊎_elim
      (λ (later : last.s1 ≤ rect.s0).
      ap (λ (b : Bool). times (cond b (joined_from OneColumn (as_one last rect) rects) (last ∷ joined_from OneColumn rect rects)) p s) (columns_apart last rect chain.0 later)
      ∙ times-one last (joined_from OneColumn rect rects) p s
      ∙ ap (λ (n : ℕ). one (is_inside last p s) + n) (columns_times p s rect rects chain.2)
      ∙ sym (one_or (is_inside last p s) (stands (rect ∷ rects) p s) (λ holds. apart later holds)))
      (λ same.
      ap (λ (b : Bool). times (cond b (joined_from OneColumn (as_one last rect) rects) (last ∷ joined_from OneColumn rect rects)) p s) (eq_yes last.s0 rect.s0 same.0)
      ∙ columns_times p s (as_one last rect) rects (chain-as_one last rect rects chain.0 same.0 same.1 same.2 chain.2)
      ∙ ap one ((λ i. inside_both p s last rect chain.0 (lies grid split rect rects chain.2) same.0 same.1 (split last.s0) same.2 i || stands rects p s)
      ∙ or_assoc (is_inside last p s) (is_inside rect p s) (stands rects p s)))
      chain.1
    where
      inner : (a b : Bool) → (a && b) ≡ true → b ≡ true
      inner true b holds = holds
      inner false b holds = absurd (cc)

      apart : last.s1 ≤ rect.s0 → is_inside last p s ≡ true → stands (rect ∷ rects) p s ≡ false
      apart later holds =
          let below : is_within last.s0 last.s1 s ≡ true = inner (is_within last.p0 last.p1 p) (is_within last.s0 last.s1 s) holds in
          let lt : s < last.s1 = lt_from s last.s1 (inner (nat_le last.s0 s) (nat_lt s last.s1) below) in
          early p s rect rects chain.2 (omega arith)

  -- ---- columns side by side

  pub both_true : (a b : Bool) → (a && b) ≡ true → (a ≡ true) × (b ≡ true)
  both_true true b holds = (refl, holds)
  both_true false b holds = absurd (cc)

  pub eq_from : (a b : ℕ) → (a == b) ≡ true → a ≡ b
  eq_from a b holds = grind (arith, nat_tests)

  -- two rects side by side
  pub record Beside (a b : Rect) : Type 0 where
    pub first : a.p0 ≡ b.p0
    pub last : a.p1 ≡ b.p1
    pub touch : a.s1 ≡ b.s0

  pub beside : (a b : Rect) → are_one SideBySide a b ≡ true → Beside a b
  beside a b holds =
      let outer = both_true (a.p0 == b.p0 && a.p1 == b.p1) (a.s1 == b.s0) holds in
      let producers = both_true (a.p0 == b.p0) (a.p1 == b.p1) outer.0 in
      record { first = eq_from a.p0 b.p0 producers.0; last = eq_from a.p1 b.p1 producers.1; touch = eq_from a.s1 b.s0 outer.1 }

  pub lies_beside : (a b : Rect) → LiesIn grid a → LiesIn grid b → Beside a b → LiesIn grid (as_one a b)
  lies_beside a b lie other is = record {
    producers = let lt = lie.producers in let e = is.last in let goal : a.p0 < b.p1 = omega arith in goal;
    last_producer = other.last_producer;
    cells = let x = lie.cells in let y = other.cells in let e = is.touch in let goal : a.s0 < b.s1 = omega arith in goal;
    last_cell = other.last_cell;
  }

  pub and_or_right : (a b c : Bool) → (a && (b || c)) ≡ ((a && b) || (a && c))
  and_or_right true b c = refl
  and_or_right false b c = refl

  pub inside_beside : (p s : ℕ) (a b : Rect) → LiesIn grid a → LiesIn grid b → Beside a b → one (is_inside (as_one a b) p s) ≡ one (is_inside a p s) + one (is_inside b p s)
  inside_beside p s a b lie other is =
      let low = lie.cells in
      let high = other.cells in
      let touch = is.touch in
      ap one ((λ i. is_within a.p0 (sym is.last i) p && within_joined a.s0 a.s1 b.s1 s low (omega arith) i)
      ∙ and_or_right (is_within a.p0 a.p1 p) (is_within a.s0 a.s1 s) (is_within a.s1 b.s1 s)
      ∙ (λ i. is_inside a p s || (is_within (is.first i) (is.last i) p && is_within (is.touch i) b.s1 s)))
      ∙ one_or (is_inside a p s) (is_inside b p s) apart
    where
      apart : is_inside a p s ≡ true → is_inside b p s ≡ false
      apart holds =
          let own = both_true (is_within a.p0 a.p1 p) (is_within a.s0 a.s1 s) holds in
          let below = both_true (nat_le a.s0 s) (nat_lt s a.s1) own.1 in
          let lt : s < a.s1 = lt_from s a.s1 below.1 in
          let e = is.touch in
          right_no (is_within b.p0 b.p1 p) (is_within b.s0 b.s1 s) (within_early b.s0 b.s1 s (omega arith))

  -- what rects that rise become where those side by side are joined
  pub record Kept (from : ℕ) (rects others : List Rect) : Type 0 where
    pub rise : Rising from others
    pub same : (p s : ℕ) → times others p s ≡ times rects p s

  pub sides_kept : (last : Rect) (rects : List Rect) → LiesIn grid last → Rising last.s1 rects → Kept last.s0 (last ∷ rects) (joined_from SideBySide last rects)
  sides_kept last [] lie rising = record { rise = (omega arith, lie, tt); same = λ p s. refl }
  sides_kept last (rect ∷ rects) lie rising =
      by (are_one SideBySide last rect) refl
      (λ is. sides_kept (as_one last rect) rects (lies_beside last rect lie rising.1 is) rising.2)
      (sides_kept rect rects rising.1 rising.2)
    where
      by : (b : Bool) → are_one SideBySide last rect ≡ b
          → (Beside last rect → Kept last.s0 (as_one last rect ∷ rects) (joined_from SideBySide (as_one last rect) rects))
          → Kept rect.s0 (rect ∷ rects) (joined_from SideBySide rect rects)
          → Kept last.s0 (last ∷ (rect ∷ rects)) (cond b (joined_from SideBySide (as_one last rect) rects) (last ∷ joined_from SideBySide rect rects))
      by true holds both after =
          let is = beside last rect holds in
          let rest = both is in
          record {
            rise = rest.rise;
            same = λ p s.
                rest.same p s
                ∙ times-one (as_one last rect) rects p s
                ∙ ap (λ (n : ℕ). n + times rects p s) (inside_beside p s last rect lie rising.1 is)
                ∙ (let sums : one (is_inside last p s) + one (is_inside rect p s) + times rects p s ≡ one (is_inside last p s) + (one (is_inside rect p s) + times rects p s) = omega arith in sums)
                ∙ sym (times-one last (rect ∷ rects) p s ∙ ap (λ (n : ℕ). one (is_inside last p s) + n) (times-one rect rects p s));
          }
      by false fails both after =
          record {
            rise = (omega arith, lie, sooner last.s1 rect.s0 (joined_from SideBySide rect rects) rising.0 after.rise);
            same = λ p s.
                times-one last (joined_from SideBySide rect rects) p s
                ∙ ap (λ (n : ℕ). one (is_inside last p s) + n) (after.same p s)
                ∙ sym (times-one last (rect ∷ rects) p s);
          }

  pub kept_all : (from : ℕ) (rects : List Rect) → Rising from rects → Kept from rects (joined SideBySide rects)
  kept_all from [] rising = record { rise = tt; same = λ p s. refl }
  kept_all from (rect ∷ rects) rising =
      let rest = sides_kept rect rects rising.1 rising.2 in
      record { rise = sooner from rect.s0 (joined_from SideBySide rect rects) rising.0 rest.rise; same = rest.same }

  pub all_lie : (from : ℕ) (rects : List Rect) → Rising from rects → All (LiesIn grid) rects
  all_lie from [] rising = All-nil (LiesIn grid)
  all_lie from (rect ∷ rects) rising = All-cons (LiesIn grid) rect rects rising.1 (all_lie rect.s1 rects rising.2)

  -- what a chain becomes lies in the grid, and has each cell that stood in it once
  pub record Tidied (rects others : List Rect) : Type 0 where
    pub lie : All (LiesIn grid) others
    pub once : (p s : ℕ) → times others p s ≡ one (stands rects p s)

  pub tidied : (rects : List Rect) → AllChain grid split rects → Tidied rects (tidy rects)
  tidied [] chain = record { lie = All-nil (LiesIn grid); once = λ p s. refl }
  tidied (rect ∷ rects) chain =
      let columns = joined_from OneColumn rect rects in
      let kept = kept_all rect.s0 columns (columns_rise rect rects chain) in
      record { lie = all_lie rect.s0 (joined SideBySide columns) kept.rise; once = λ p s. kept.same p s ∙ columns_times p s rect rects chain }

  -- ---- parts of a chain

  pub chain_rest : (rect : Rect) (rects : List Rect) → Chain grid split rect rects → AllChain grid split rects
  chain_rest rect [] chain = tt
  chain_rest rect (next ∷ rects) chain = chain.2

  pub chain-drop : (k : ℕ) (rects : List Rect) → AllChain grid split rects → AllChain grid split (drop k rects)
  chain-drop zero rects chain = chain
  chain-drop (suc k) [] chain = tt
  chain-drop (suc k) (rect ∷ rects) chain = chain-drop k rects (chain_rest rect rects chain)

  pub chain-take : (k : ℕ) (rects : List Rect) → AllChain grid split rects → AllChain grid split (take k rects)
  chain-take zero rects chain = tt
  chain-take (suc k) [] chain = tt
  chain-take (suc k) (rect ∷ rects) chain = from k rect rects chain
    where
      from : (k : ℕ) (rect : Rect) (rects : List Rect) → Chain grid split rect rects → Chain grid split rect (take k rects)
      from zero rect rects chain = lies grid split rect rects chain
      from (suc k) rect [] chain = chain
      from (suc k) rect (next ∷ rects) chain = (chain.0, chain.1, from k next rects chain.2)
