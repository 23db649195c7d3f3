-- Cells that were read one after another, up to one of them.
use Rattle.std.proofs.Common.{◌≡◌, ◌⊎◌, inl, inr, ⊎_elim, ℕ, ◌+◌, ◌-◌, ◌<◌, ◌≤◌, List, [], ◌∷◌, ◌++◌, length, map, IsTrue, Contains, Result, Ok, Err, refl, sym, ap, subst, ◌∙◌, arith}
use Rattle.std.specs.Prelude.{IsErrOf}
use Rattle.std.specs.List.{AllByRecursion, range_with_len}
use Rattle.std.proofs.lemmas.List.{length-append, map-append}
use Rattle.std.proofs.lemmas.List.FromFn.{map-range_with_len_more}
use Rattle.estate.specs.declared.part_name.PartName.{PartName}
use Rattle.estate.specs.Holding.{StoredPart}
use Rattle.estate.specs.Parts.{cell_of}
use Rattle.estate.specs.World.{World, IsWorld}
use Rattle.estate.specs.Changes.{Stays, Leads, ShelfRose}
use Rattle.estate.proofs.Laws.{leads_start, leads_stays, told_on, rose_later}
use Rattle.row_core.specs.declared.value.Value.{Value}
use Rattle.row_core.specs.Encoding.{rows_bytes}
use Rattle.row_view.specs.Encoded.{RowOf, StopsAtRow}
use Rattle.row_view.proofs.Laws.{all_more}
use Rattle.part_store.specs.declared.store_error.StoreError.{StoreError}
use Rattle.part_store.specs.declared.store_error.StoreError.TheVariants.{Gone, ShelfFault, BadCell, NoMemory}
use Rattle.part_store.specs.Cells.{cells_of, AreWide}
use Rattle.part_store.specs.Answers.{StoreSteady, IsCellAnswer, ReadsCell, IsCellsAnswer, ReadsCells}

-- the counts of faults are as they were
pub record IsCalm (old new : World) : Type 0 where
  pub shelf : new.counts.shelf_faults ≡ old.counts.shelf_faults
  pub log : new.counts.log_faults ≡ old.counts.log_faults
  pub sink : new.counts.sink_faults ≡ old.counts.sink_faults

-- these lists of rows were read from the cells from s0 on, up to this one
pub record Reached (name : PartName) (edge s0 s1 cell width : ℕ) (old new : World) (lists : List (List (List Value))) : Type 0 where
  pub from : s0 ≤ cell
  pub upto : (cell ≡ s0) ⊎ (cell ≤ s1)
  pub adds : Leads Stays old new
  pub calm : IsCalm old new
  pub wide : AreWide width lists
  pub count : length lists ≡ cell - s0
  pub held : IsTrue old.told → s0 < cell → Contains new.holding.held name
  pub bytes : IsTrue old.told → cells_of name edge s0 cell old.holding.ever ≡ map rows_bytes lists

-- before the first
pub begins : (name : PartName) (edge s0 s1 width : ℕ) (world : World) → Reached name edge s0 s1 s0 width world world []
begins name edge s0 s1 width world =
    let none : s0 - s0 ≡ 0 = omega arith in
    record {
      from = omega arith;
      upto = inl refl;
      adds = leads_start world;
      calm = record { shelf = refl; log = refl; sink = refl };
      wide = tt;
      count = sym none;
      held = λ told some. absurd (omega (arith, some));
      bytes = λ told. ap (λ (n : ℕ). map (λ cell. cell_of name edge cell world.holding.ever) (range_with_len s0 n)) none;
    }

-- what was put stays, while cells are read
same_ever : (old mid : World) → Leads Stays old mid → IsTrue old.told → mid.holding.ever ≡ old.holding.ever
same_ever old mid leads told = (leads.holding told).ever

cells_more : (name : PartName) (edge s0 cell : ℕ) (ever : List StoredPart) → s0 ≤ cell → cells_of name edge s0 (cell + 1) ever ≡ cells_of name edge s0 cell ever ++ cell_of name edge cell ever ∷ []
cells_more name edge s0 cell ever from =
    let one : cell + 1 - s0 ≡ (cell - s0) + 1 = omega (arith, from) in
    let place : s0 + (cell - s0) ≡ cell = omega (arith, from) in
    ap (λ (n : ℕ). map (λ cell. cell_of name edge cell ever) (range_with_len s0 n)) one ∙ map-range_with_len_more (λ cell. cell_of name edge cell ever) s0 (cell - s0) cell place

calm_after : {T : Type 0} (a b c : World) (result : Result T StoreError) → IsCalm a b → StoreSteady b c result → ¬ (IsErrOf result ShelfFault) → IsCalm a c
calm_after a b c result first second none = record {
  shelf = ⊎_elim (λ fault. absurd (none fault)) (λ same. same ∙ first.shelf) second.0;
  log = second.1 ∙ first.log;
  sink = second.2 ∙ first.sink;
}

ok_no_fault : {T : Type 0} (x : T) → ¬ (IsErrOf {T = T} (Ok x) ShelfFault)
ok_no_fault x fault = absurd cc

-- one cell more
pub one_more : (name : PartName) (edge s0 s1 cell width : ℕ) (a b c : World) (lists : List (List (List Value))) (rows : List (List Value))
    → IsWorld a → IsWorld b → IsWorld c
    → cell < s1
    → Reached name edge s0 s1 cell width a b lists
    → Leads Stays b c
    → (IsTrue b.told → ReadsCell name edge cell width b c (Ok rows))
    → IsCellAnswer name edge cell width (Ok rows)
    → StoreSteady {T = List (List Value)} b c (Ok rows)
    → Reached name edge s0 s1 (cell + 1) width a c (lists ++ rows ∷ [])
one_more name edge s0 s1 cell width a b c lists rows lawful_a lawful_b lawful_c below was leads read wide steady =
    let told : IsTrue a.told → IsTrue b.told = told_on a b was.adds.time in
    record {
      from = omega (arith, was.from);
      upto = inr (omega (arith, below));
      adds = leads_stays a b c lawful_a lawful_b lawful_c was.adds leads;
      calm = calm_after a b c (Ok rows) was.calm steady (ok_no_fault rows);
      wide = all_more (AllByRecursion (RowOf width)) lists rows was.wide wide;
      count = length-append lists (rows ∷ []) ∙ omega (arith, was.count, was.from);
      held = λ is some. (read (told is)).0;
      bytes = λ is.
          let spelled : cell_of name edge cell a.holding.ever ≡ rows_bytes rows = ap (cell_of name edge cell) (sym (same_ever a b was.adds is)) ∙ (read (told is)).1.1 in
          cells_more name edge s0 cell a.holding.ever was.from
          ∙ ap (λ (cells : List (List ℕ)). cells ++ cell_of name edge cell a.holding.ever ∷ []) (was.bytes is)
          ∙ ap (λ (last : List ℕ). map rows_bytes lists ++ last ∷ []) spelled
          ∙ sym (map-append rows_bytes lists (rows ∷ []));
    }

-- what is answered where a cell is not read
pub record Stopped (name : PartName) (edge s0 s1 width : ℕ) (old new : World) (result : Result (List (List (List Value))) StoreError) : Type 0 where
  pub adds : Leads Stays old new
  pub answer : IsTrue old.told → ReadsCells name edge s0 s1 width old new result
  pub form : IsCellsAnswer name edge s0 s1 width result
  pub fault : IsErrOf result ShelfFault → ShelfRose old new
  pub steady : StoreSteady old new result

form_stopped : (name : PartName) (edge s0 s1 cell width : ℕ) (error : StoreError) → s0 ≤ cell → cell < s1 → IsCellAnswer name edge cell width (Err error) → IsCellsAnswer name edge s0 s1 width (Err error)
form_stopped name edge s0 s1 cell width (Gone other) from below form = (form, omega (arith, from, below))
form_stopped name edge s0 s1 cell width ShelfFault from below form = tt
form_stopped name edge s0 s1 cell width (BadCell other into bad at) from below form = (form.0, form.1, omega (arith, from, form.2), omega (arith, below, form.2))
form_stopped name edge s0 s1 cell width NoMemory from below form = tt

read_stopped : (name : PartName) (edge s0 s1 cell width : ℕ) (a b c : World) (lists : List (List (List Value))) (error : StoreError)
    → IsTrue a.told
    → Reached name edge s0 s1 cell width a b lists
    → IsCellAnswer name edge cell width (Err error)
    → ReadsCell name edge cell width b c (Err error)
    → ReadsCells name edge s0 s1 width a c (Err error)
read_stopped name edge s0 s1 cell width a b c lists (Gone other) told was form read = read
read_stopped name edge s0 s1 cell width a b c lists ShelfFault told was form read = tt
read_stopped name edge s0 s1 cell width a b c lists (BadCell other into bad at) told was form read =
    let ever = same_ever a b was.adds told in
    let place : bad ≡ cell = form.2 in (
      read.0,
      (lists, (was.wide, ap (λ (n : ℕ). cells_of name edge s0 n a.holding.ever) place ∙ was.bytes told)),
      subst (λ (bytes : List ℕ). StopsAtRow width bytes at) (ap (cell_of name edge cell) ever ∙ ap (λ (n : ℕ). cell_of name edge n a.holding.ever) (sym place)) read.1,
    )
read_stopped name edge s0 s1 cell width a b c lists NoMemory told was form read = tt

-- an answer of other rows has the same error
err_again : {T U : Type 0} (error other : StoreError) → IsErrOf {T = T} (Err error) other → IsErrOf {T = U} (Err error) other
err_again error other is = let same : error ≡ other = cc in ap Err same

steady_after : {T U : Type 0} (a b c : World) (error : StoreError) → IsCalm a b → StoreSteady {T = T} b c (Err error) → StoreSteady {T = U} a c (Err error)
steady_after a b c error first second = (
  ⊎_elim (λ fault. inl (err_again error ShelfFault fault)) (λ same. inr (same ∙ first.shelf)) second.0,
  second.1 ∙ first.log,
  second.2 ∙ first.sink,
)

pub stops_there : (name : PartName) (edge s0 s1 cell width : ℕ) (a b c : World) (lists : List (List (List Value))) (error : StoreError) (result : Result (List (List (List Value))) StoreError)
    → result ≡ Err error
    → IsWorld a → IsWorld b → IsWorld c
    → cell < s1
    → Reached name edge s0 s1 cell width a b lists
    → Leads Stays b c
    → (IsTrue b.told → ReadsCell name edge cell width b c (Err error))
    → IsCellAnswer name edge cell width (Err error)
    → (IsErrOf {T = List (List Value)} (Err error) ShelfFault → ShelfRose b c)
    → StoreSteady {T = List (List Value)} b c (Err error)
    → Stopped name edge s0 s1 width a c result
stops_there name edge s0 s1 cell width a b c lists error result is lawful_a lawful_b lawful_c below was leads read form fault steady =
    subst (Stopped name edge s0 s1 width a c) (sym is) (record {
      adds = leads_stays a b c lawful_a lawful_b lawful_c was.adds leads;
      answer = λ told. read_stopped name edge s0 s1 cell width a b c lists error told was form (read (told_on a b was.adds.time told));
      form = form_stopped name edge s0 s1 cell width error was.from below form;
      fault = λ failed. rose_later a.counts.shelf_faults b.counts.shelf_faults c.counts.shelf_faults was.adds.time.counts.shelf_faults (fault (err_again error ShelfFault failed));
      steady = steady_after a b c error was.calm steady;
    })

-- behind the last
pub finishes : (name : PartName) (edge s0 s1 cell width : ℕ) (a b : World) (lists : List (List (List Value)))
    → s1 ≤ cell
    → Reached name edge s0 s1 cell width a b lists
    → (IsTrue a.told → ReadsCells name edge s0 s1 width a b (Ok lists)) × IsCellsAnswer name edge s0 s1 width (Ok lists)
finishes name edge s0 s1 cell width a b lists over was =
    let count : cell - s0 ≡ s1 - s0 = ⊎_elim (λ same. omega (arith, over, same)) (λ le. omega (arith, over, le)) was.upto in (
      λ told. (
        λ some. was.held told (omega (arith, over, some)),
        (was.wide, ap (λ (n : ℕ). map (λ cell. cell_of name edge cell a.holding.ever) (range_with_len s0 n)) (sym count) ∙ was.bytes told),
      ),
      (was.wide, was.count ∙ count),
    )
