-- What the definitions say at small tables.
use Rattle.std.proofs.Common.{◌≡◌, ℕ, List, [], ◌∷◌, ◌++◌, Bool, filter, get_or, refl, ◌∙◌, ap}
use Rattle.std.specs.Prelude.{pos, negsuc, codes, cond, false}
use Rattle.std.proofs.lemmas.List.{append-nil}
use Rattle.csv.proofs.OnLiterals.{csv_on_literals}
use Rattle.csv.specs.Writing.{escaped, fields_text, is_blank}
use Rattle.std.specs.Fmt.{digits}
use Rattle.row_core.specs.declared.value.Value.{Value}
use Rattle.row_core.specs.declared.value.Value.TheVariants.{Null, Int, Text}
use Rattle.plan_model.specs.declared.kind.Kind.TheVariants.{IntKind, TextKind}
use Rattle.plan_model.specs.declared.join_kind.JoinKind.TheVariants as kind
use Rattle.plan_model.specs.Sinks.{sorted_lines}
use Rattle.plan_model.specs.Tables.{table_rows}
use Rattle.plan_model.specs.Operators.{sum_value, aggregated, exploded, filtered}
use Rattle.plan_model.specs.Plans.{committed_text}
use Rattle.row_core.specs.Exprs.{compared, is_yes, truth_of}
use Rattle.row_core.proofs.Laws.{truth_of-Test, value_at-Col, value_at-Const}
use Rattle.plan_model.specs.declared.agg.Agg.TheVariants.{Count, Sum, Min, Max}
use Rattle.plan_model.specs.declared.node.Node.{Node}
use Rattle.plan_model.specs.declared.op.Op.TheVariants.{Source, Filter, Sink}
use Rattle.row_core.specs.declared.cmp.Cmp.TheVariants.{Ge}
use Rattle.row_core.specs.declared.expr.Expr.{Col, Const}
use Rattle.row_core.specs.declared.pred.Pred.{Pred, Test}
use Rattle.plan_model.specs.Joins.{joined}

abbrev number : ℕ → Value
number n = Int (pos n)

abbrev three_rows : List (List Value)
three_rows = (number 1 ∷ Text (codes "a\nb") ∷ number 5 ∷ []) ∷ (number 2 ∷ Text (codes "x") ∷ Null ∷ []) ∷ (Null ∷ Text (codes "y") ∷ number 7 ∷ []) ∷ []

read : table_rows (IntKind ∷ TextKind ∷ IntKind ∷ []) (codes "1,\"a\nb\",5\n2,x\nz,y,7\n") ≡ three_rows
unfolding csv_on_literals
read = refl

written : sorted_lines three_rows ≡ codes ",y,7\n1,\"a\nb\",5\n2,x,\n"
unfolding csv_on_literals escaped fields_text is_blank digits
written = refl

abbrev keys : List (ℕ × ℕ)
keys = (0, 0) ∷ []

left_join : sorted_lines (joined keys 2 2 ((Null ∷ number 1 ∷ []) ∷ (number 7 ∷ number 2 ∷ []) ∷ (number 7 ∷ number 3 ∷ []) ∷ [])
    ((Null ∷ number 9 ∷ []) ∷ (number 7 ∷ number 8 ∷ []) ∷ (number 7 ∷ number 8 ∷ []) ∷ []) kind.Left) ≡ codes ",1,,\n7,2,7,8\n7,2,7,8\n7,3,7,8\n7,3,7,8\n"
unfolding escaped fields_text is_blank digits
left_join = refl

abbrev anti_left : List (List Value)
anti_left = (number 1 ∷ number 5 ∷ []) ∷ (Null ∷ number 6 ∷ []) ∷ []

anti_empty : sorted_lines (joined keys 2 1 anti_left [] kind.Anti) ≡ codes ",6\n1,5\n"
unfolding escaped fields_text is_blank digits
anti_empty = refl

anti_null : sorted_lines (joined keys 2 1 anti_left ((Null ∷ []) ∷ []) kind.Anti) ≡ codes ",6\n1,5\n"
unfolding escaped fields_text is_blank digits
anti_null = refl

too_large : sum_value (pos 9223372036854775807 ∷ pos 1 ∷ []) ≡ Null
too_large = refl

within : sum_value (pos 9223372036854775807 ∷ pos 1 ∷ negsuc 0 ∷ []) ≡ number 9223372036854775807
within = refl

-- ---- a job of three nodes

abbrev job : List Node
job = record { op = Source (codes "orders") (record { name = codes "id"; kind = IntKind } ∷ record { name = codes "city"; kind = TextKind } ∷ record { name = codes "amount"; kind = IntKind } ∷ []); inputs = []; rebalance = false }
    ∷ record { op = Filter (Test Ge (Col 2) (Const (number 10))); inputs = 0 ∷ []; rebalance = false }
    ∷ record { op = Sink (codes "out"); inputs = 1 ∷ []; rebalance = false } ∷ []

abbrev large : Pred
large = Test Ge (Col 2) (Const (number 10))

large_is : (values : List Value) → is_yes (truth_of values large) ≡ is_yes (compared Ge (get_or values 2 Null) (number 10))
large_is values = ap is_yes (truth_of-Test values Ge (Col 2) (Const (number 10)) ∙ (λ i. compared Ge (value_at-Col values 2 i) (value_at-Const values (number 10) i)))

filter_by : (p q : List Value → Bool) → ((row : List Value) → p row ≡ q row) → (rows : List (List Value)) → filter p rows ≡ filter q rows
filter_by p q e [] = refl
filter_by p q e (row ∷ rows) = (λ i. cond (e row i) (row ∷ filter_by p q e rows i) (filter_by p q e rows i))

abbrev orders : List ℕ
orders = codes "1,Bonn,20\n2,Kiel,5\n3,Bonn,10\n"

job_rows : filtered large (table_rows (IntKind ∷ TextKind ∷ IntKind ∷ []) orders) ≡ (number 1 ∷ Text (codes "Bonn") ∷ number 20 ∷ []) ∷ (number 3 ∷ Text (codes "Bonn") ∷ number 10 ∷ []) ∷ []
unfolding csv_on_literals
job_rows = filter_by (λ row. is_yes (truth_of row large)) (λ values. is_yes (compared Ge (get_or values 2 Null) (number 10))) large_is (table_rows (IntKind ∷ TextKind ∷ IntKind ∷ []) orders) ∙ refl

job_text : (rows : List (List Value)) → filtered large (table_rows (IntKind ∷ TextKind ∷ IntKind ∷ []) orders ++ []) ≡ rows
    → committed_text (λ table. orders ∷ []) job ≡ codes "sink " ++ codes "out" ++ (10 ∷ sorted_lines rows) ++ []
job_text rows e = ap (λ (l : List (List Value)). codes "sink " ++ codes "out" ++ (10 ∷ sorted_lines l) ++ []) e

job_answer : committed_text (λ table. orders ∷ []) job ≡ codes "sink out\n1,Bonn,20\n3,Bonn,10\n"
unfolding csv_on_literals escaped fields_text is_blank digits
job_answer = job_text ((number 1 ∷ Text (codes "Bonn") ∷ number 20 ∷ []) ∷ (number 3 ∷ Text (codes "Bonn") ∷ number 10 ∷ []) ∷ [])
    (ap (filtered large) (append-nil (table_rows (IntKind ∷ TextKind ∷ IntKind ∷ []) orders)) ∙ job_rows) ∙ refl

job_empty : committed_text (λ table. []) job ≡ codes "sink out\n"
unfolding csv_on_literals escaped fields_text is_blank digits
job_empty = refl

grouped : aggregated (0 ∷ []) (Count ∷ Sum 1 ∷ Min 1 ∷ Max 1 ∷ []) ((Null ∷ number 3 ∷ []) ∷ (number 1 ∷ Text (codes "a") ∷ []) ∷ (Null ∷ Null ∷ []) ∷ (Null ∷ number 1 ∷ []) ∷ [])
    ≡ (Null ∷ number 3 ∷ number 4 ∷ number 1 ∷ number 3 ∷ []) ∷ (number 1 ∷ number 1 ∷ Null ∷ Text (codes "a") ∷ Text (codes "a") ∷ []) ∷ []
grouped = refl

cut : exploded 0 44 ((Text (codes "a,,b") ∷ number 1 ∷ []) ∷ (Null ∷ number 2 ∷ []) ∷ (number 7 ∷ number 3 ∷ []) ∷ [])
    ≡ (Text (codes "a") ∷ number 1 ∷ []) ∷ (Text [] ∷ number 1 ∷ []) ∷ (Text (codes "b") ∷ number 1 ∷ []) ∷ (Text (codes "7") ∷ number 3 ∷ []) ∷ []
unfolding digits
cut = refl

full_join : joined keys 1 1 ((number 1 ∷ []) ∷ (Null ∷ []) ∷ []) ((number 2 ∷ []) ∷ (number 1 ∷ []) ∷ (Null ∷ []) ∷ []) kind.Full
    ≡ (number 1 ∷ number 1 ∷ []) ∷ (Null ∷ Null ∷ []) ∷ (Null ∷ number 2 ∷ []) ∷ (Null ∷ Null ∷ []) ∷ []
full_join = refl
