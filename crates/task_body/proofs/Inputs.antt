-- What is read at an input can be encoded, in whatever order its cells are read.
use Rattle.std.proofs.Common.{◌≡◌, ℕ, zero, suc, ◌+◌, ◌<◌, ◌≤◌, ◌&&◌, nat_eq, nat_le, Bool, true, false, All, List, [], ◌∷◌, ◌++◌, length, map, take, get_or, refl, sym, ◌∙◌, ap, subst, arith}
use Rattle.std.specs.List.{AllByRecursion, flat_map, list_all}
use Rattle.std.proofs.lemmas.Bool.{eqb-true, false≢true, leb-true}
use Rattle.std.proofs.lemmas.List.{append-nil, take_more}
use Rattle.std.proofs.lemmas.List.Concat.{flat_map-append}
use Rattle.std.proofs.lemmas.List.Elements.{All-nil, All-append, All-from_recursion, recursion_from_All}
use Rattle.row_core.specs.Bags.{SameBag}
use Rattle.row_core.specs.Encoding.{ValueFits}
use Rattle.bag_laws.specs.Rows.{OneRow as Row}
use Rattle.bag_laws.proofs.Laws.{SameBag-append, append_swap}
use Rattle.operator_laws.specs.Texts.{ValuesFit}
use Rattle.operator_laws.proofs.Laws.{node_fits}
use Rattle.plan_model.specs.Checks.{takes, widths_agree}
use Rattle.plan_model.specs.Nodes.{Alike, HasItsWidth, IsGood, bag_widths}
use Rattle.plan_model.specs.Operators.{is_source}
use Rattle.plan_model.specs.Plans.{Bag, bag_of}
use Rattle.plan_model.specs.Tables.{table_rows}
use Rattle.plan_model.specs.declared.join_kind.JoinKind.{JoinKind}
use Rattle.plan_model.specs.declared.kind.Kind.{Kind}
use Rattle.plan_model.specs.declared.column.Column.{Column}
use Rattle.plan_model.specs.declared.op.Op.{Op}
use Rattle.plan_model.specs.declared.op.Op.TheVariants.{Source, Filter, Project, Explode, Union, Aggregate, Distinct, Join, Sink}
use Rattle.plan_model.proofs.Laws.{bag_wide}
use Rattle.row_view.specs.Encoded.{RowOf}
use Rattle.task_body.specs.Cells.{HasWidth, cell_rows, file_rows}
use Rattle.task_body.specs.Inputs.{ReadsFiles, build_read, input_bag, input_rows}
use Rattle.vertex_laws.specs.VertexRows.{no_files}
use Rattle.task_body.specs.Plans.{IsEncodable}
use Rattle.task_body.specs.declared.task_cell.TaskCell.{TaskCell}
use Rattle.task_body.specs.declared.task_cell.TaskCell.TheVariants.{File, Cell}
use Rattle.task_body.specs.declared.task_input.TaskInput.{TaskInput}

-- a row of this width whose values are within their limits
abbrev Sound : ℕ → Row → Type 0
Sound width row = (length row ≡ width) × AllByRecursion ValueFits row

of_cell : (width : ℕ) (rows : List Row) → AllByRecursion (RowOf width) rows → AllByRecursion (Sound width) rows
of_cell width [] all = tt
of_cell width (row ∷ rows) all = ((all.0.wide, all.0.fits.values), of_cell width rows all.1)

-- the rows of a source's file
of_file : (op : Op) (width : ℕ) (bytes : List ℕ) → ReadsFiles op width → width ≤ 256 → All (Sound width) (file_rows op bytes)
of_file (Source table columns) width bytes reads narrow =
    let op = Source table columns in
    let files : List ℕ → List (List ℕ) = λ name. bytes ∷ [] in
    let kinds : List Kind = map (λ (column : Column). column.kind) columns in
    let good : IsGood op [] = record {
      number = refl;
      columns = refl;
      agree = refl;
      narrow = All-nil (λ (n : ℕ). n ≤ 256);
      wide = subst (λ (n : ℕ). n ≤ 256) reads narrow;
      fit = All-nil HasItsWidth;
    } in
    let wide = bag_wide files op [] good in
    let fit = node_fits files op [] tt (All-nil (λ (bag : Bag). ValuesFit bag.rows)) in
    subst (All (Sound width)) (append-nil (table_rows kinds bytes)) (λ k d lt. (wide k d lt ∙ sym reads, fit k d lt))
of_file (Filter test) width bytes reads narrow = All-nil (Sound width)
of_file (Project exprs) width bytes reads narrow = All-nil (Sound width)
of_file (Explode column separator) width bytes reads narrow = All-nil (Sound width)
of_file Union width bytes reads narrow = All-nil (Sound width)
of_file (Aggregate keys aggs) width bytes reads narrow = All-nil (Sound width)
of_file Distinct width bytes reads narrow = All-nil (Sound width)
of_file (Join kind keys) width bytes reads narrow = All-nil (Sound width)
of_file (Sink name) width bytes reads narrow = All-nil (Sound width)

module _ (op : Op) (width : ℕ) (reads : ReadsFiles op width) (narrow : width ≤ 256) where
  of_one : (cell : TaskCell) → HasWidth width cell → All (Sound width) (cell_rows op cell)
  of_one (File bytes) has = of_file op width bytes reads narrow
  of_one (Cell rows) has = All-from_recursion (Sound width) rows (of_cell width rows has)

  of_cells : (cells : List TaskCell) → AllByRecursion (HasWidth width) cells → All (Sound width) (flat_map (cell_rows op) cells)
  of_cells [] has = All-nil (Sound width)
  of_cells (cell ∷ cells) has = All-append (Sound width) (cell_rows op cell) (flat_map (cell_rows op) cells) (of_one cell has.0) (of_cells cells has.1)

pub input_fits : (op : Op) (input : TaskInput) → ReadsFiles op input.width → input.width ≤ 256 → IsEncodable (input_bag op input)
input_fits op input reads narrow =
    let all = of_cells op input.width reads narrow input.cells.items (recursion_from_All (HasWidth input.width) input.cells.items input.wide) in
    record { narrow = narrow; wide = λ k d lt. (all k d lt).0; fit = λ k d lt. (all k d lt).1 }

-- rows that can be encoded are rows of their width
pub rows_of_width : (bag : Bag) → IsEncodable bag → AllByRecursion (RowOf bag.width) bag.rows
rows_of_width bag fit =
    each bag.rows (recursion_from_All (λ row. length row ≡ bag.width) bag.rows fit.wide) (recursion_from_All (λ row. AllByRecursion ValueFits row) bag.rows fit.fit)
  where
    each : (rows : List Row) → AllByRecursion (λ row. length row ≡ bag.width) rows → AllByRecursion (λ row. AllByRecursion ValueFits row) rows → AllByRecursion (RowOf bag.width) rows
    each [] wide fits = tt
    each (row ∷ rows) wide fits =
        let narrow = fit.narrow in
        (record { fits = record { width = omega (arith, wide.0, narrow); values = fits.0 }; wide = wide.0 }, each rows wide.1 fits.1)

-- what is no source reads no files
pub reads_none : (op : Op) (width : ℕ) → is_source op ≡ false → ReadsFiles op width
reads_none (Source table columns) width other = absurd (false≢true (sym other))
reads_none (Filter test) width other = tt
reads_none (Project exprs) width other = tt
reads_none (Explode column separator) width other = tt
reads_none Union width other = tt
reads_none (Aggregate keys aggs) width other = tt
reads_none Distinct width other = tt
reads_none (Join kind keys) width other = tt
reads_none (Sink name) width other = tt

-- cells that are read from one of them on, and then those before it
pub turned : (op : Op) (before after : List TaskCell) → SameBag (flat_map (cell_rows op) after ++ flat_map (cell_rows op) before) (flat_map (cell_rows op) (before ++ after))
turned op before after =
    subst (λ (rows : List Row). SameBag (flat_map (cell_rows op) after ++ flat_map (cell_rows op) before) rows) (sym (flat_map-append (cell_rows op) before after))
    (append_swap (flat_map (cell_rows op) after) (flat_map (cell_rows op) before))

-- ---- lists of inputs

-- what is gathered of one item more
pub flat_more : {X : Type 0} (f : X → List Row) (xs : List X) (k : ℕ) (x : X) → k < length xs → x ≡ get_or xs k x → flat_map f (take (k + 1) xs) ≡ flat_map f (take k xs) ++ f x
flat_more {X = X} f xs k x lt is =
    ap (flat_map f) (take_more xs k x lt ∙ ap (λ (y : X). take k xs ++ y ∷ []) (sym is))
    ∙ flat_map-append f (take k xs) (x ∷ []) ∙ ap (λ (l : List Row). flat_map f (take k xs) ++ l) (append-nil (f x))

pub gathers : (old more new rows xs : List Row) → SameBag old rows → new ≡ old ++ more → SameBag more xs → SameBag new (rows ++ xs)
gathers old more new rows xs same is bag = subst (λ (l : List Row). SameBag l (rows ++ xs)) (sym is) (SameBag-append old more rows xs same bag)

pub flat_read : (op : Op) (inputs : List TaskInput) → flat_map (λ (bag : Bag). bag.rows) (map (input_bag op) inputs) ≡ flat_map (input_rows op) inputs
flat_read op [] = refl
flat_read op (input ∷ inputs) = ap (λ (l : List Row). input_rows op input ++ l) (flat_read op inputs)

pub bags_fit : (op : Op) → is_source op ≡ false → (inputs : List TaskInput) → All (λ n. n ≤ 256) (bag_widths (map (input_bag op) inputs)) → All (λ (bag : Bag). ValuesFit bag.rows) (map (input_bag op) inputs)
bags_fit op other inputs narrow =
    All-from_recursion (λ (bag : Bag). ValuesFit bag.rows) (map (input_bag op) inputs) (each inputs (recursion_from_All (λ n. n ≤ 256) (bag_widths (map (input_bag op) inputs)) narrow))
  where
    each : (l : List TaskInput) → AllByRecursion (λ n. n ≤ 256) (bag_widths (map (input_bag op) l)) → AllByRecursion (λ (bag : Bag). ValuesFit bag.rows) (map (input_bag op) l)
    each [] fit = tt
    each (input ∷ l) fit = ((input_fits op input (reads_none op input.width other) fit.0).fit, each l fit.1)

pub one_narrow : (op : Op) (inputs : List TaskInput) (k : ℕ) (input : TaskInput) → All (λ n. n ≤ 256) (bag_widths (map (input_bag op) inputs)) → k < length inputs → input ≡ get_or inputs k input → input.width ≤ 256
one_narrow op inputs k input narrow lt is = at inputs k (recursion_from_All (λ n. n ≤ 256) (bag_widths (map (input_bag op) inputs)) narrow) lt is
  where
    at : (l : List TaskInput) (k : ℕ) → AllByRecursion (λ n. n ≤ 256) (bag_widths (map (input_bag op) l)) → k < length l → input ≡ get_or l k input → input.width ≤ 256
    at [] k fit lt is = absurd (omega (arith, lt))
    at (x ∷ l) zero fit lt is = subst (λ (n : ℕ). n ≤ 256) (ap (λ (i : TaskInput). i.width) (sym is)) fit.0
    at (x ∷ l) (suc k) fit lt is = at l k fit.1 (omega (arith, lt)) is

-- ---- one input, two, and the first

pub one_item : (inputs : List TaskInput) (a : TaskInput) → length inputs ≡ 1 → a ≡ get_or inputs 0 a → inputs ≡ a ∷ []
one_item [] a one is = absurd (omega (arith, one))
one_item (x ∷ []) a one is = ap (λ (i : TaskInput). i ∷ []) (sym is)
one_item (x ∷ y ∷ l) a one is = absurd (omega (arith, one))

pub two_items : (inputs : List TaskInput) (a b : TaskInput) → length inputs ≡ 2 → a ≡ get_or inputs 0 a → b ≡ get_or inputs 1 b → inputs ≡ a ∷ b ∷ []
two_items [] a b two is is' = absurd (omega (arith, two))
two_items (x ∷ []) a b two is is' = absurd (omega (arith, two))
two_items (x ∷ y ∷ []) a b two is is' = λ i. sym is i ∷ sym is' i ∷ []
two_items (x ∷ y ∷ z ∷ l) a b two is is' = absurd (omega (arith, two))

pub first_read : (op : Op) (builds : List TaskInput) (a : TaskInput) → 0 < length builds → a ≡ get_or builds 0 a → build_read op builds ≡ input_bag op a
first_read op [] a some is = absurd (omega (arith, some))
first_read op (x ∷ l) a some is = ap (input_bag op) (sym is)

-- the inputs of a union have one width
pub union_widths : (op : Op) (inputs : List TaskInput) (first : TaskInput) → op ≡ Union → IsGood op (map (input_bag op) inputs) → first ≡ get_or inputs 0 first
    → All (λ input. input.width ≡ first.width) inputs
union_widths op [] first union good is = All-nil (λ input. input.width ≡ first.width)
union_widths op (x ∷ xs) first union good is =
    All-from_recursion (λ input. input.width ≡ first.width) (x ∷ xs) (each (x ∷ xs) (subst (λ (o : Op). widths_agree o (bag_widths (map (input_bag op) (x ∷ xs))) ≡ true) union good.agree))
  where
    both : (a b : Bool) → (a && b) ≡ true → (a ≡ true) × (b ≡ true)
    both true b e = (refl, e)
    both false b e = absurd (false≢true e)

    each : (l : List TaskInput) → list_all (nat_eq x.width) (bag_widths (map (input_bag op) l)) ≡ true → AllByRecursion (λ input. input.width ≡ first.width) l
    each [] all = tt
    each (input ∷ l) all =
        let (here, rest) = both (nat_eq x.width input.width) (list_all (nat_eq x.width) (bag_widths (map (input_bag op) l))) all in
        (sym (eqb-true x.width input.width here) ∙ ap (λ (i : TaskInput). i.width) (sym is), each l rest)

-- what a union gives
pub united : (op : Op) (inputs : List TaskInput) (first : TaskInput) (rows : List Row) → op ≡ Union → 0 < length inputs → first ≡ get_or inputs 0 first → SameBag rows (flat_map (input_rows op) inputs)
    → Alike (record { width = first.width; rows = rows }) (bag_of no_files op (map (input_bag op) inputs))
united op [] first rows union some is same = absurd (omega (arith, some))
united op (x ∷ l) first rows union some is same =
    subst (λ (o : Op). Alike (record { width = first.width; rows = rows }) (bag_of no_files o (map (input_bag op) (x ∷ l)))) (sym union)
    (record { width = ap (λ (i : TaskInput). i.width) is; rows = subst (SameBag rows) (sym (flat_read op (x ∷ l))) same })

-- how many inputs an operator takes
pub takes_some : (op : Op) (n : ℕ) → op ≡ Union → takes op n ≡ true → 0 < n
takes_some op n union takes_n =
    let two = leb-true 2 n (both_first (nat_le 2 n) (nat_le n 64) (subst (λ (o : Op). takes o n ≡ true) union takes_n)) in
    omega arith
  where
    both_first : (a b : Bool) → (a && b) ≡ true → a ≡ true
    both_first true b e = refl
    both_first false b e = e

pub takes_two : (op : Op) (kind : JoinKind) (keys : List (ℕ × ℕ)) (n : ℕ) → op ≡ Join kind keys → takes op n ≡ true → n ≡ 2
takes_two op kind keys n join takes_n = eqb-true n 2 (subst (λ (o : Op). takes o n ≡ true) join takes_n)

pub takes_one : (op : Op) (n : ℕ) → is_source op ≡ false → (op ≡ Union → ⊥) → ((kind : JoinKind) (keys : List (ℕ × ℕ)) → op ≡ Join kind keys → ⊥) → takes op n ≡ true → n ≡ 1
takes_one (Source table columns) n other union join takes_n = absurd (false≢true (sym other))
takes_one (Filter test) n other union join takes_n = eqb-true n 1 takes_n
takes_one (Project exprs) n other union join takes_n = eqb-true n 1 takes_n
takes_one (Explode column separator) n other union join takes_n = eqb-true n 1 takes_n
takes_one Union n other union join takes_n = absurd (union refl)
takes_one (Aggregate keys aggs) n other union join takes_n = eqb-true n 1 takes_n
takes_one Distinct n other union join takes_n = eqb-true n 1 takes_n
takes_one (Join kind keys) n other union join takes_n = absurd (join kind keys refl)
takes_one (Sink name) n other union join takes_n = eqb-true n 1 takes_n

-- what is no other is no source
pub not_source : (op : Op) → ((table : List ℕ) (columns : List Column) → op ≡ Source table columns → ⊥) → is_source op ≡ false
not_source (Source table columns) none = absurd (none table columns refl)
not_source (Filter test) none = refl
not_source (Project exprs) none = refl
not_source (Explode column separator) none = refl
not_source Union none = refl
not_source (Aggregate keys aggs) none = refl
not_source Distinct none = refl
not_source (Join kind keys) none = refl
not_source (Sink name) none = refl
