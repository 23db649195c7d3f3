-- The files of a source: as many as their sizes say, and their rows are the source's.
use Rattle.std.proofs.Common.{◌≡◌, ℕ, zero, suc, ◌+◌, ◌<◌, ◌≤◌, Bool, List, [], ◌∷◌, ◌++◌, length, map, take, get_or, Option, Some, None, slice_get, refl, sym, ◌∙◌, ap, subst, arith, true, false, not, ◌||◌, cond, filter, if◌then◌else◌}
use Rattle.std.specs.List.{flat_map, list_any, position_or_len}
use Rattle.std.specs.Option.{option_map_or}
use Rattle.std.specs.Str.{bytes_eq}
use Rattle.std.proofs.lemmas.Bool.{false≢true}
use Rattle.std.proofs.lemmas.List.{append-nil, length-map, take_more, take_all}
use Rattle.std.proofs.lemmas.List.Concat.{flat_map-append}
use Rattle.std.proofs.lemmas.List.Folds.{list_any-append}
use Rattle.std.proofs.lemmas.Slice.Eq.{bytes_eq-Decides}
use Rattle.row_core.specs.Bags.{SameBag}
use Rattle.bag_laws.specs.Rows.{OneRow as Row}
use Rattle.bag_laws.proofs.Laws.{same_refl, SameBag-append}
use Rattle.plan_model.specs.Checks.{plan_faults}
use Rattle.plan_model.specs.Operators.{is_source}
use Rattle.plan_model.specs.Plans.{Bag, bag_at, bag_of, bags_of}
use Rattle.plan_model.specs.TableNames.{each_once, source_table, tables_of}
use Rattle.plan_model.specs.Tables.{table_rows}
use Rattle.plan_model.specs.declared.column.Column.{Column}
use Rattle.plan_model.specs.declared.node.Node.{Node}
use Rattle.plan_model.specs.declared.op.Op.{Op}
use Rattle.plan_model.specs.declared.op.Op.TheVariants.{Source, Filter, Project, Explode, Union, Aggregate, Distinct, Join, Sink}
use Rattle.plan_model.proofs.Laws.{bag_here}
use Rattle.rect_cover.specs.Cells.{gathered}
use Rattle.vertex_builder.specs.Vertices.{is_source_at}
use Rattle.vertex_laws.specs.VertexRows.{op_at}
use Rattle.graph_model.specs.Reads.{node_files, op_files}
use Rattle.graph_model.specs.States.{Given}
use Rattle.plan_composition.specs.Tasks.{HasSizes, file_rows}

-- ---- sums of lists

module _ {X : Type 0} (F : ℕ → List Row) (G : X → List Row) where
  sum_some : (xs : List X) (d : X) → ((k : ℕ) → k < length xs → SameBag (F k) (G (get_or xs k d))) → (n : ℕ) → n ≤ length xs → SameBag (gathered n F) (flat_map G (take n xs))
  sum_some xs d each zero le = same_refl []
  sum_some xs d each (suc n) le =
      let item = get_or xs n d in
      let before = sum_some xs d each n (omega (arith, le)) in
      let on : suc n ≡ n + 1 = omega arith in
      let long : take (suc n) xs ≡ take n xs ++ item ∷ [] = ap (λ (m : ℕ). take m xs) on ∙ take_more xs n d (omega (arith, le)) in
      let last : SameBag (F n) (flat_map G (item ∷ [])) = subst (λ (l : List Row). SameBag (F n) l) (sym (append-nil (G item))) (each n (omega (arith, le))) in
      subst (λ (l : List X). SameBag (gathered n F ++ F n) (flat_map G l)) (sym long)
      (subst (λ (l : List Row). SameBag (gathered n F ++ F n) l) (sym (flat_map-append G (take n xs) (item ∷ [])))
      (SameBag-append (gathered n F) (F n) (flat_map G (take n xs)) (flat_map G (item ∷ [])) before last))

  -- number by number and item by item
  pub sum_all : (xs : List X) (d : X) (n : ℕ) → n ≡ length xs → ((k : ℕ) → k < length xs → SameBag (F k) (G (get_or xs k d))) → SameBag (gathered n F) (flat_map G xs)
  sum_all xs d n is each = subst (λ (l : List X). SameBag (gathered n F) (flat_map G l)) (take_all n xs (omega (arith, is))) (sum_some xs d each n (omega (arith, is)))

-- ---- names of tables

same_bytes : (a b : List ℕ) → bytes_eq a b ≡ true → a ≡ b
same_bytes a b e = grind (arith, bytes_eq-Decides)

bytes_itself : (a : List ℕ) → bytes_eq a a ≡ true
bytes_itself a = grind (arith, bytes_eq-Decides)

-- another name is not that of the table, from either side
other_bytes : (table name : List ℕ) → bytes_eq table name ≡ false → bytes_eq name table ≡ false
other_bytes table name e = by (bytes_eq name table) refl
  where
    by : (b : Bool) → bytes_eq name table ≡ b → b ≡ false
    by false is = refl
    by true is = absurd (false≢true (sym e ∙ ap (bytes_eq table) (same_bytes name table is) ∙ bytes_itself table))

either_right : (a b : Bool) → b ≡ true → (a || b) ≡ true
either_right true b e = refl
either_right false b e = e

-- the other names keep the table
kept : (table name : List ℕ) (names : List (List ℕ)) → bytes_eq table name ≡ false → list_any (bytes_eq table) names ≡ true
    → list_any (bytes_eq table) (filter (λ other. not (bytes_eq name other)) names) ≡ true
kept table name [] apart has = has
kept table name (first ∷ names) apart has = by (bytes_eq table first) refl has (kept table name names apart)
  where
    keeps : (b : Bool) → list_any (bytes_eq table) (filter (λ other. not (bytes_eq name other)) names) ≡ true
        → list_any (bytes_eq table) (if not b then first ∷ filter (λ other. not (bytes_eq name other)) names else filter (λ other. not (bytes_eq name other)) names) ≡ true
    keeps true rest = rest
    keeps false rest = either_right (bytes_eq table first) (list_any (bytes_eq table) (filter (λ other. not (bytes_eq name other)) names)) rest

    by : (b : Bool) → bytes_eq table first ≡ b → (b || list_any (bytes_eq table) names) ≡ true
        → (list_any (bytes_eq table) names ≡ true → list_any (bytes_eq table) (filter (λ other. not (bytes_eq name other)) names) ≡ true)
        → list_any (bytes_eq table) (if not (bytes_eq name first) then first ∷ filter (λ other. not (bytes_eq name other)) names else filter (λ other. not (bytes_eq name other)) names) ≡ true
    by false is more rest = keeps (bytes_eq name first) (rest more)
    by true is more rest =
        let stays : bytes_eq name first ≡ false = ap (bytes_eq name) (sym (same_bytes table first is)) ∙ other_bytes table name apart in
        subst (λ (b : Bool). list_any (bytes_eq table) (if not b then first ∷ filter (λ other. not (bytes_eq name other)) names else filter (λ other. not (bytes_eq name other)) names) ≡ true) (sym stays)
        (ap (λ (b : Bool). b || list_any (bytes_eq table) (filter (λ other. not (bytes_eq name other)) names)) is)

once_has : (table : List ℕ) (names : List (List ℕ)) → list_any (bytes_eq table) names ≡ true → list_any (bytes_eq table) (each_once names) ≡ true
once_has table [] has = has
once_has table (name ∷ names) has = by (bytes_eq table name) refl has (once_has table names)
  where
    by : (b : Bool) → bytes_eq table name ≡ b → (b || list_any (bytes_eq table) names) ≡ true → (list_any (bytes_eq table) names ≡ true → list_any (bytes_eq table) (each_once names) ≡ true)
        → (bytes_eq table name || list_any (bytes_eq table) (filter (λ other. not (bytes_eq name other)) (each_once names))) ≡ true
    by true is more rest = ap (λ (b : Bool). b || list_any (bytes_eq table) (filter (λ other. not (bytes_eq name other)) (each_once names))) is
    by false is more rest = either_right (bytes_eq table name) (list_any (bytes_eq table) (filter (λ other. not (bytes_eq name other)) (each_once names))) (kept table name (each_once names) is (rest more))

-- a source's table is one of the plan's
nodes_have : (table : List ℕ) (columns : List Column) (nodes : List Node) (place : ℕ) → op_at nodes place ≡ Source table columns → list_any (bytes_eq table) (flat_map (λ node. source_table node.op) nodes) ≡ true
nodes_have table columns [] place is = absurd (false≢true (ap is_source is))
nodes_have table columns (node ∷ nodes) zero is =
    list_any-append (bytes_eq table) (source_table node.op) (flat_map (λ node. source_table node.op) nodes)
    ∙ ap (λ (op : Op). list_any (bytes_eq table) (source_table op) || list_any (bytes_eq table) (flat_map (λ node. source_table node.op) nodes)) is
    ∙ ap (λ (b : Bool). (b || false) || list_any (bytes_eq table) (flat_map (λ node. source_table node.op) nodes)) (bytes_itself table)
nodes_have table columns (node ∷ nodes) (suc place) is =
    list_any-append (bytes_eq table) (source_table node.op) (flat_map (λ node. source_table node.op) nodes)
    ∙ either_right (list_any (bytes_eq table) (source_table node.op)) (list_any (bytes_eq table) (flat_map (λ node. source_table node.op) nodes)) (nodes_have table columns nodes place is)

-- the sizes at the table's place
sizes_at : (files : List ℕ → List (List ℕ)) (table : List ℕ) (tables : List (List ℕ)) → list_any (bytes_eq table) tables ≡ true
    → length (get_or (map (λ name. map length (files name)) tables) (position_or_len (bytes_eq table) tables) []) ≡ length (files table)
sizes_at files table [] has = absurd (false≢true has)
sizes_at files table (first ∷ tables) has = by (bytes_eq table first) refl has (sizes_at files table tables)
  where
    sizes : List (List ℕ) → List (List ℕ)
    sizes names = map (λ name. map length (files name)) names

    next : (n : ℕ) → n ≡ 1 + position_or_len (bytes_eq table) tables → get_or (sizes (first ∷ tables)) n [] ≡ get_or (sizes tables) (position_or_len (bytes_eq table) tables) []
    next zero is = absurd (omega (arith, is))
    next (suc n) is =
        let same : n ≡ position_or_len (bytes_eq table) tables = omega (arith, is) in
        ap (λ (m : ℕ). get_or (sizes tables) m []) same

    by : (b : Bool) → bytes_eq table first ≡ b → (b || list_any (bytes_eq table) tables) ≡ true
        → (list_any (bytes_eq table) tables ≡ true → length (get_or (sizes tables) (position_or_len (bytes_eq table) tables) []) ≡ length (files table))
        → length (get_or (sizes (first ∷ tables)) (cond (not b) (1 + position_or_len (bytes_eq table) tables) 0) []) ≡ length (files table)
    by true is more rest = length-map (files first) length ∙ ap (λ (name : List ℕ). length (files name)) (sym (same_bytes table first is))
    by false is more rest = ap length (next (1 + position_or_len (bytes_eq table) tables) refl) ∙ rest more

-- ---- the rows of a source

module _ (given : Given) (files : List ℕ → List (List ℕ)) (good : plan_faults given.nodes ≡ []) (sizes : HasSizes given files) where
  counted : (place : ℕ) (table : List ℕ) (columns : List Column) → op_at given.nodes place ≡ Source table columns → node_files given place ≡ length (files table)
  counted place table columns is =
      let tables = tables_of given.nodes in
      ap (op_files given) is
      ∙ ap (λ (l : List (List ℕ)). length (get_or l (position_or_len (bytes_eq table) tables) [])) sizes
      ∙ sizes_at files table tables (once_has table (flat_map (λ node. source_table node.op) given.nodes) (nodes_have table columns given.nodes place is))

  op_is : (place : ℕ) (node : Node) → slice_get given.nodes place ≡ Some node → op_at given.nodes place ≡ node.op
  op_is place node at = ap (λ (o : Option Node). option_map_or (λ n. n.op) o Union) at

  source_bag : (place : ℕ) (node : Node) (table : List ℕ) (columns : List Column) → slice_get given.nodes place ≡ Some node → node.op ≡ Source table columns
      → SameBag (gathered (node_files given place) (λ p. gathered 1 (λ s. file_rows files (op_at given.nodes place) p))) (bag_at (bags_of files given.nodes) place).rows
  source_bag place node table columns at is =
      let op = op_is place node at ∙ is in
      let kinds = map (λ (column : Column). column.kind) columns in
      let here : (bag_at (bags_of files given.nodes) place).rows ≡ flat_map (table_rows kinds) (files table) =
      ap (λ (bag : Bag). bag.rows) (bag_here files given.nodes place node good at ∙ ap (λ (op : Op). bag_of files op (map (bag_at (bags_of files given.nodes)) node.inputs)) is) in
      let all = sum_all (λ p. gathered 1 (λ s. file_rows files (Source table columns) p)) (table_rows kinds) (files table) [] (length (files table)) refl
      (λ k lt. same_refl (table_rows kinds (get_or (files table) k []))) in
      subst (λ (rows : List Row). SameBag (gathered (node_files given place) (λ p. gathered 1 (λ s. file_rows files (op_at given.nodes place) p))) rows) (sym here)
      (subst (λ (o : Op). SameBag (gathered (node_files given place) (λ p. gathered 1 (λ s. file_rows files o p))) (flat_map (table_rows kinds) (files table))) (sym op)
      (subst (λ (n : ℕ). SameBag (gathered n (λ p. gathered 1 (λ s. file_rows files (Source table columns) p))) (flat_map (table_rows kinds) (files table))) (sym (counted place table columns op)) all))

  -- the rows of all files of a source are its bag
  pub files_bag : (place : ℕ) → is_source_at given.nodes place ≡ true
      → SameBag (gathered (node_files given place) (λ p. gathered 1 (λ s. file_rows files (op_at given.nodes place) p))) (bag_at (bags_of files given.nodes) place).rows
  files_bag place is = at (slice_get given.nodes place) refl is
    where
      by : (node : Node) (op : Op) → slice_get given.nodes place ≡ Some node → node.op ≡ op → is_source op ≡ true
          → SameBag (gathered (node_files given place) (λ p. gathered 1 (λ s. file_rows files (op_at given.nodes place) p))) (bag_at (bags_of files given.nodes) place).rows
      by node (Source table columns) here same e = source_bag place node table columns here same
      by node (Filter test) here same e = absurd (false≢true e)
      by node (Project exprs) here same e = absurd (false≢true e)
      by node (Explode column separator) here same e = absurd (false≢true e)
      by node Union here same e = absurd (false≢true e)
      by node (Aggregate keys aggs) here same e = absurd (false≢true e)
      by node Distinct here same e = absurd (false≢true e)
      by node (Join kind keys) here same e = absurd (false≢true e)
      by node (Sink name) here same e = absurd (false≢true e)

      at : (o : Option Node) → slice_get given.nodes place ≡ o → option_map_or (λ n. is_source n.op) o false ≡ true
          → SameBag (gathered (node_files given place) (λ p. gathered 1 (λ s. file_rows files (op_at given.nodes place) p))) (bag_at (bags_of files given.nodes) place).rows
      at None here e = absurd (false≢true e)
      at (Some node) here e = by node node.op here refl e
