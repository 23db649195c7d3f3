-- Texts within a JSON text are no longer than it.
use Rattle.std.proofs.Common.{◌≡◌, ◌<◌, ◌≤◌, ℕ, zero, suc, pos, negsuc, nat_lt, ◌^◌, ◌&&◌, Bool, true, false, cond, List, [], ◌∷◌, ◌++◌, length, map, get_or, codes, IsTrue, refl, sym, ap, subst, ◌∙◌, length-append, arith}
use Rattle.std.specs.Prelude.{All, FitsSigned}
use Rattle.std.specs.List.{list_all}
use Rattle.std.specs.Int.{w64}
use Rattle.std.proofs.lemmas.Bool.{ltb-true}
use Rattle.std.proofs.lemmas.Int.{ints}
use Rattle.std.proofs.lemmas.List.{get_or-map, length-map}
use Rattle.std.proofs.lemmas.List.Sums.{AllPass-from_list_all}
use Rattle.json.specs.Print.{escape, escape_byte, escape_letter, quoted}
use Rattle.serde_json.specs.Data.{Data, Members, member, no_members, null, string, object}
use Rattle.serde_json.specs.View.{items_of}
use Rattle.serde_json.specs.Written.{comma_if, compact_text, items_text, members_text}
use Rattle.row_core.specs.declared.expr.Expr.{Expr, Const}
use Rattle.row_core.specs.declared.expr.Expr.TheOpen.{Expr-F}
use Rattle.row_core.specs.declared.expr.Expr.TheFolds.{fold-roll-Expr}
use Rattle.row_core.specs.declared.expr.Expr.TheVariants.{rolls-Const}
use Rattle.row_core.specs.declared.value.Value.{Value}
use Rattle.row_core.specs.declared.value.Value.TheVariants.{Null, Int, Text}
use Rattle.row_core.specs.Encoding.{ValueFits}
use Rattle.plan_model.specs.declared.node.Node.{Node}
use Rattle.plan_model.specs.declared.op.Op.{Op}
use Rattle.plan_model.specs.declared.op.Op.TheVariants.{Source, Filter, Project, Explode, Union, Aggregate, Distinct, Join, Sink}
use Rattle.operator_laws.specs.Texts.{ConstantFits, ConstantsFit}
use Rattle.expr_json.specs.Ranges.{in_range, literal_in_range, range_step}
use Rattle.expr_json.specs.Spelling.{expr_step, expr_value, literal_value}
use Rattle.job_json.specs.Spelling.{job_value, list_value, node_value, op_members, settings_value, with_ship}
use Rattle.job_json.specs.Texts.{IsWellFormed, printed_text}
use Rattle.job_json.specs.WellFormed.{IsOpForm, is_shallow_expr}
use Rattle.job_json.specs.declared.job.Job.{Job}

-- ---- what stands in a text

escaped_longer : (x : ℕ) → 1 ≤ length (escape_byte x)
unfolding escape_byte
escaped_longer x = by (nat_lt 0 (escape_letter x)) (nat_lt x 32) _ _ _
  where
    by : (a b : Bool) (first second : ℕ) (more : List ℕ) → 1 ≤ length (cond a (first ∷ second ∷ []) (cond b (first ∷ more) (x ∷ [])))
    by true b first second more = omega arith
    by false true first second more = omega arith
    by false false first second more = omega arith

escape_longer : (text : List ℕ) → length text ≤ length (escape text)
escape_longer [] = omega arith
escape_longer (x ∷ text) = omega (arith, length-append (escape_byte x) (escape text), escaped_longer x, escape_longer text)

quoted_longer : (text : List ℕ) → length text ≤ length (quoted text)
quoted_longer text = omega (arith, length-append (escape text) (34 ∷ []), escape_longer text)

item_within : (values : List Data) (later : Bool) (k : ℕ) (d : Data) → k < length values → length (compact_text (get_or values k d)) ≤ length (items_text later (items_of values))
item_within [] later k d lt = absurd (omega arith)
item_within (value ∷ values) later zero d lt =
    omega (arith, length-append (comma_if later) (compact_text value ++ items_text true (items_of values)), length-append (compact_text value) (items_text true (items_of values)))
item_within (value ∷ values) later (suc k) d lt =
    let there = item_within values true k d (omega arith) in
    omega (arith, there, length-append (comma_if later) (compact_text value ++ items_text true (items_of values)), length-append (compact_text value) (items_text true (items_of values)))

list_within : (values : List Data) (k : ℕ) (d : Data) → k < length values → length (compact_text (get_or values k d)) ≤ length (compact_text (list_value values))
list_within values k d lt = omega (arith, item_within values false k d lt)

-- the items of a list that stands as the value of an object's first member
first_member : (key : List ℕ) (value : Data) (more : List ℕ) → length (compact_text value) ≤ length (123 ∷ (quoted key ++ 58 ∷ (compact_text value ++ more)))
first_member key value more = omega (arith, length-append (quoted key) (58 ∷ (compact_text value ++ more)), length-append (compact_text value) more)

-- ---- constants

literal_longer : (text : List ℕ) → length text ≤ length (compact_text (literal_value (Text text)))
literal_longer text =
    omega (arith, quoted_longer text, list_within (string (codes "text") ∷ string text ∷ []) (suc zero) null (omega arith))

value_of-Const : (value : Value) → expr_value (Const value) ≡ literal_value value
value_of-Const value = ap expr_value (sym (rolls-Const value)) ∙ fold-roll-Expr Data expr_step (Expr-F.Const value)

range-Const : (value : Value) → in_range (Const value) ≡ literal_in_range value
range-Const value = ap in_range (sym (rolls-Const value)) ∙ fold-roll-Expr Bool range_step (Expr-F.Const value)

constant_fits : (value : Value) → literal_in_range value ≡ true → length (compact_text (literal_value value)) ≤ 1048576 → ValueFits value
constant_fits Null range short = tt
constant_fits (Int (pos n)) range short = let below : n < 2 ^ 63 = ltb-true n (2 ^ 63) range in omega (arith, ints, below)
constant_fits (Int (negsuc n)) range short = let below : n < 2 ^ 63 = ltb-true n (2 ^ 63) range in omega (arith, ints, below)
constant_fits (Text text) range short = omega (arith, literal_longer text)

left_of : (a b : Bool) → (a && b) ≡ true → a ≡ true
left_of true b both = refl
left_of false b both = both

expr_fits : (expr : Expr) → is_shallow_expr expr ≡ true → length (compact_text (expr_value expr)) ≤ 1048576 → ConstantFits expr
expr_fits expr shallow short value is =
    let range : in_range expr ≡ true = left_of (in_range expr) _ shallow in
    constant_fits value (sym (range-Const value) ∙ ap in_range (sym is) ∙ range)
    (subst (λ (d : Data). length (compact_text d) ≤ 1048576) (ap expr_value is ∙ value_of-Const value) short)

-- ---- nodes and jobs

exprs_within : (exprs : List Expr) (inputs : List ℕ) (ship : Bool) → length (compact_text (list_value (map expr_value exprs))) ≤ length (compact_text (object (with_ship ship (op_members (Project exprs) inputs))))
exprs_within exprs inputs true = first_member (codes "exprs") (list_value (map expr_value exprs)) _
exprs_within exprs inputs false = first_member (codes "exprs") (list_value (map expr_value exprs)) _

op_fits : (op : Op) (inputs : List ℕ) (ship : Bool) → IsOpForm op inputs → length (compact_text (object (with_ship ship (op_members op inputs)))) ≤ 1048576 → ConstantsFit op
op_fits (Project exprs) inputs ship form short = λ k d lt.
    let exprs_short = exprs_within exprs inputs ship in
    let long = length-map exprs expr_value in
    let one = list_within (map expr_value exprs) k null (omega (arith, lt, long)) in
    let is : get_or (map expr_value exprs) k null ≡ expr_value (get_or exprs k d) = get_or-map expr_value exprs k d null lt in
    let here : length (compact_text (expr_value (get_or exprs k d))) ≤ 1048576 =
    subst (λ (value : Data). length (compact_text value) ≤ 1048576) is (omega (arith, one, exprs_short, short)) in
    expr_fits (get_or exprs k d) (AllPass-from_list_all is_shallow_expr exprs form.1.each k d lt) here
op_fits (Source table columns) inputs ship form short = tt
op_fits (Filter test) inputs ship form short = tt
op_fits (Explode column separator) inputs ship form short = tt
op_fits Union inputs ship form short = tt
op_fits (Aggregate keys aggs) inputs ship form short = tt
op_fits Distinct inputs ship form short = tt
op_fits (Join kind keys) inputs ship form short = tt
op_fits (Sink name) inputs ship form short = tt

-- a member's value, and the members behind it
value_within : (later : Bool) (key : List ℕ) (value : Data) (more : Members) → length (compact_text value) ≤ length (members_text later (member key value more))
value_within later key value more =
    omega (arith, length-append (comma_if later) (quoted key ++ 58 ∷ (compact_text value ++ members_text true more)), length-append (quoted key) (58 ∷ (compact_text value ++ members_text true more)), length-append (compact_text value) (members_text true more))

rest_within : (later : Bool) (key : List ℕ) (value : Data) (more : Members) → length (members_text true more) ≤ length (members_text later (member key value more))
rest_within later key value more =
    omega (arith, length-append (comma_if later) (quoted key ++ 58 ∷ (compact_text value ++ members_text true more)), length-append (quoted key) (58 ∷ (compact_text value ++ members_text true more)), length-append (compact_text value) (members_text true more))

nodes_within : (job : Job) → length (compact_text (list_value (map node_value job.plan))) ≤ length (printed_text job)
unfolding job_value
nodes_within job =
    let behind = member (codes "settings") (settings_value job.settings) no_members in
    let nodes = list_value (map node_value job.plan) in
    omega (arith, value_within true (codes "nodes") nodes behind, rest_within false (codes "job") (string job.name) (member (codes "nodes") nodes behind))

pub job_constants_fit : (job : Job) → IsWellFormed job → All (λ node. ConstantsFit node.op) job.plan
job_constants_fit job well = λ k d lt.
    let node = get_or job.plan k d in
    let long = length-map job.plan node_value in
    let one = list_within (map node_value job.plan) k null (omega (arith, lt, long)) in
    let is : get_or (map node_value job.plan) k null ≡ node_value node = get_or-map node_value job.plan k d null lt in
    let all = nodes_within job in
    let short : length (compact_text (node_value node)) ≤ 1048576 =
    subst (λ (value : Data). length (compact_text value) ≤ 1048576) is (omega (arith, one, all, well.printed)) in
    op_fits node.op node.inputs node.rebalance (well.form.nodes k d lt).op short
