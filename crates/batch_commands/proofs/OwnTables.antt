-- The text of a plan over its own tables alone.
use Rattle.std.proofs.Common.{◌≡◌, inl, inr, Result, Ok, Err, ℕ, Bool, true, false, ◌||◌, not, filter, suc, IsTrue, All, subst, arith, append_assoc, List, [], ◌∷◌, ◌++◌, length, map, refl, sym, ap, ◌∙◌, if◌then◌else◌}
use Rattle.std.specs.List.{list_any, flat_map}
use Rattle.std.specs.Str.{bytes_eq}
use Rattle.std.proofs.lemmas.List.Folds.{list_any-append}
use Rattle.std.proofs.lemmas.List.Elements.{All-map}
use Rattle.std.proofs.lemmas.Map.Views.{any-filter_same}
use Rattle.std.proofs.lemmas.Slice.Eq.{bytes_eq-Decides}
use Rattle.row_core.specs.declared.value.Value.{Value}
use Rattle.estate.specs.Changes.{InputSteady}
use Rattle.estate.specs.Contents.{Contents, KeepsContents}
use Rattle.estate.specs.declared.input_error.InputError.{InputError}
use Rattle.estate.specs.declared.input_error.InputError.TheVariants.{Failed}
use Rattle.plan_eval.specs.Tables.{files_of}
use Rattle.plan_eval.specs.declared.table_files.TableFiles.{TableFiles}
use Rattle.plan_model.specs.Plans.{Bag, bag_at, bag_of, bags_from, committed_text, sink_sections}
use Rattle.plan_model.specs.TableNames.{each_once, source_table, tables_of}
use Rattle.plan_model.specs.Tables.{table_rows}
use Rattle.plan_model.specs.declared.node.Node.{Node}
use Rattle.plan_model.specs.declared.op.Op.{Op}
use Rattle.plan_model.specs.declared.op.Op.TheVariants.{Source, Filter, Project, Explode, Union, Aggregate, Distinct, Join, Sink}
use Rattle.batch_commands.specs.Tables.{listed, with_files}
use Rattle.batch_commands.specs.declared.listed_table.ListedTable.{ListedTable}

-- the name stands among these
abbrev is_one_of : List (List ℕ) → List ℕ → Bool
is_one_of names name = list_any (λ other. bytes_eq other name) names

-- both give the same files of these tables
abbrev pub Agree : (List ℕ → List (List ℕ)) → (List ℕ → List (List ℕ)) → List (List ℕ) → Type 0
Agree f g names = (name : List ℕ) → is_one_of names name ≡ true → f name ≡ g name

or_true : (b : Bool) → (b || true) ≡ true
or_true true = refl
or_true false = refl

same_name : (a b : List ℕ) → bytes_eq a b ≡ true → a ≡ b
same_name a b = (bytes_eq-Decides a b).0

-- where repeats are left out the same names stand
once_keeps : (names : List (List ℕ)) (name : List ℕ) → is_one_of (each_once names) name ≡ is_one_of names name
once_keeps [] name = refl
once_keeps (first ∷ names) name = by (bytes_eq first name) refl (once_keeps names name)
  where
    kept : bytes_eq first name ≡ false → (other : List ℕ) → bytes_eq other name ≡ true → not (bytes_eq first other) ≡ true
    kept differs other is = ap (λ (text : List ℕ). not (bytes_eq first text)) (same_name other name is) ∙ ap not differs

    by : (b : Bool) → bytes_eq first name ≡ b → is_one_of (each_once names) name ≡ is_one_of names name → is_one_of (each_once (first ∷ names)) name ≡ is_one_of (first ∷ names) name
    by true is later =
        ap (λ (b : Bool). b || list_any (λ other. bytes_eq other name) (filter (λ other. not (bytes_eq first other)) (each_once names))) is
        ∙ sym (ap (λ (b : Bool). b || is_one_of names name) is)
    by false is later = ap (λ (b : Bool). bytes_eq first name || b)
        (any-filter_same (λ other. bytes_eq other name) (λ other. not (bytes_eq first other)) true (kept is) (each_once names) ∙ later)

abbrev bag_with : ℕ → List (List Value) → Bag
bag_with width rows = record { width = width; rows = rows }

bag_agrees : (f g : List ℕ → List (List ℕ)) (op : Op) (inputs : List Bag) → Agree f g (source_table op) → bag_of f op inputs ≡ bag_of g op inputs
bag_agrees f g (Source table columns) inputs agree =
    ap (λ (files : List (List ℕ)). bag_with (length columns) (flat_map (table_rows (map (λ c. c.kind) columns)) files))
    (agree table (ap (λ (b : Bool). b || false) ((bytes_eq-Decides table table).1 refl)))
bag_agrees f g (Filter test) inputs agree = refl
bag_agrees f g (Project exprs) inputs agree = refl
bag_agrees f g (Explode column separator) inputs agree = refl
bag_agrees f g Union inputs agree = refl
bag_agrees f g (Aggregate keys aggs) inputs agree = refl
bag_agrees f g Distinct inputs agree = refl
bag_agrees f g (Join kind keys) inputs agree = refl
bag_agrees f g (Sink name) inputs agree = refl

bags_agree : (f g : List ℕ → List (List ℕ)) (nodes : List Node) (bags : List Bag) → Agree f g (flat_map (λ node. source_table node.op) nodes)
    → bags_from f bags nodes ≡ bags_from g bags nodes
bags_agree f g [] bags agree = refl
bags_agree f g (node ∷ nodes) bags agree =
    ap (λ (bag : Bag). bags_from f (bags ++ bag ∷ []) nodes) (bag_agrees f g node.op (map (bag_at bags) node.inputs) (λ name is. agree name (first name is)))
    ∙ bags_agree f g nodes (bags ++ bag_of g node.op (map (bag_at bags) node.inputs) ∷ []) (λ name is. agree name (later name is))
  where
    own : List (List ℕ)
    own = source_table node.op

    others : List (List ℕ)
    others = flat_map (λ node. source_table node.op) nodes

    first : (name : List ℕ) → is_one_of own name ≡ true → is_one_of (own ++ others) name ≡ true
    first name is = list_any-append (λ other. bytes_eq other name) own others ∙ ap (λ (b : Bool). b || is_one_of others name) is

    later : (name : List ℕ) → is_one_of others name ≡ true → is_one_of (own ++ others) name ≡ true
    later name is = list_any-append (λ other. bytes_eq other name) own others ∙ ap (λ (b : Bool). is_one_of own name || b) is ∙ or_true (is_one_of own name)

-- of tables that are given with their files, each has its files
given_agree : (files : List ℕ → List (List ℕ)) (names : List (List ℕ)) → Agree (files_of (with_files files names)) files names
given_agree files [] name is = absurd (cc is)
given_agree files (first ∷ names) name is = by (bytes_eq first name) refl (given_agree files names name)
  where
    by : (b : Bool) → bytes_eq first name ≡ b → (is_one_of names name ≡ true → files_of (with_files files names) name ≡ files name)
        → files_of (with_files files (first ∷ names)) name ≡ files name
    by true same later = ap (λ (b : Bool). if b then files first else files_of (with_files files names) name) same ∙ ap files (same_name first name same)
    by false other later = ap (λ (b : Bool). if b then files first else files_of (with_files files names) name) other
        ∙ later (sym (ap (λ (b : Bool). b || is_one_of names name) other) ∙ is)

-- a plan over its tables with their files is the plan over all files
pub text_over_tables : (files : List ℕ → List (List ℕ)) (plan : List Node) → committed_text (files_of (with_files files (tables_of plan))) plan ≡ committed_text files plan
text_over_tables files plan = ap (sink_sections plan)
    (bags_agree (files_of (with_files files (tables_of plan))) files plan []
    (λ name is. given_agree files (tables_of plan) name (once_keeps (flat_map (λ node. source_table node.op) plan) name ∙ is)))

-- the same files of all tables give the same text
pub text_agrees : (f g : List ℕ → List (List ℕ)) (plan : List Node) → ((name : List ℕ) → f name ≡ g name) → committed_text f plan ≡ committed_text g plan
text_agrees f g plan same = ap (sink_sections plan) (bags_agree f g plan [] (λ name is. same name))

-- the names of listed tables
pub listed_names : (files : List ℕ → List (List ℕ)) (names : List (List ℕ)) → map (λ table. table.table) (listed files names) ≡ names
listed_names files [] = refl
listed_names files (name ∷ names) = ap (λ (rest : List (List ℕ)). name ∷ rest) (listed_names files names)

-- a listed table says the number of its files
pub listed_right : (files : List ℕ → List (List ℕ)) (names : List (List ℕ)) → All (λ table. table.files ≡ length (files table.table)) (listed files names)
listed_right files names = All-map (λ (table : ListedTable). table.files ≡ length (files table.table)) (λ name. record { table = name; files = length (files name) }) names (λ k d lt. refl)

-- a call that succeeds counts no fault
pub steady_ok : {T : Type 0} (result : Result T InputError) (value : T) (before now : ℕ) → result ≡ Ok value → InputSteady before now result → now ≡ before
steady_ok {T} result value before now is (inl failed) = let impossible : Ok value ≡ Err Failed = sym is ∙ failed in absurd (cc impossible)
steady_ok result value before now is (inr same) = same

-- what holds of all items holds of the first
pub all_first : {A : Type 0} (P : A → Type 0) (x : A) (xs ys : List A) → ys ≡ x ∷ xs → All P ys → P x
all_first {A} P x xs ys is all = let fact : All P (x ∷ xs) = subst (λ (l : List A). All P l) is all in fact 0 x (omega arith)

-- and of the others
pub all_rest : {A : Type 0} (P : A → Type 0) (x : A) (xs ys : List A) → ys ≡ x ∷ xs → All P ys → All P xs
all_rest {A} P x xs ys is all = let fact : All P (x ∷ xs) = subst (λ (l : List A). All P l) is all in (λ k d lt. fact (suc k) d (omega arith))

abbrev with_rows : List ℕ → List (List ℕ) → TableFiles
with_rows name rows = record { table = name; rows = rows }

-- one table more is read
pub read_more : (from before : Contents) → KeepsContents from before → IsTrue from.told → (made more : List TableFiles) (entry : TableFiles) (table : ListedTable) (later rest : List ListedTable) (all : List TableFiles)
    → rest ≡ table ∷ later → more ≡ made ++ entry ∷ [] → (IsTrue before.told → entry ≡ with_rows table.table (before.files table.table))
    → made ++ with_files from.files (map (λ t. t.table) rest) ≡ all → more ++ with_files from.files (map (λ t. t.table) later) ≡ all
read_more from before keeps told made more entry table later rest all next pushed read so_far =
    let files = λ (tables : List ListedTable). with_files from.files (map (λ t. t.table) tables) in
    let told_before = subst (λ (t : Bool). IsTrue t) (sym keeps.told) told in
    ap (λ (l : List TableFiles). l ++ files later) pushed
    ∙ append_assoc made (entry ∷ []) (files later)
    ∙ ap (λ (e : TableFiles). made ++ e ∷ files later) (read told_before ∙ ap (λ (rows : List (List ℕ)). with_rows table.table rows) (keeps.files told table.table))
    ∙ ap (λ (l : List ListedTable). made ++ files l) (sym next)
    ∙ so_far
