-- The value of a job has no float and nests no deeper than a text may.
use Rattle.std.proofs.Common.{◌≡◌, ℕ, suc, zero, ◌≤◌, nat_le, Bool, true, false, ◌||◌, All, List, [], ◌∷◌, map, get_or, refl, arith}
use Rattle.std.proofs.lemmas.Bool.Decides.{nat_tests}
use Rattle.std.specs.List.{list_all}
use Rattle.serde_json.specs.Data.{Data, depth, items_depth, members_depth}
use Rattle.serde_json.specs.View.{items_of}
use Rattle.serde_json.specs.Written.{has_float, items_have_float, members_have_float}
use Rattle.row_core.specs.declared.expr.Expr.{Expr}
use Rattle.row_core.specs.declared.pred.Pred.{Pred}
use Rattle.plan_model.specs.declared.agg.Agg.{Agg}
use Rattle.plan_model.specs.declared.agg.Agg.TheVariants.{Count, Sum, Min, Max}
use Rattle.plan_model.specs.declared.node.Node.{Node}
use Rattle.plan_model.specs.declared.op.Op.{Op}
use Rattle.plan_model.specs.declared.op.Op.TheVariants.{Source, Filter, Project, Explode, Union, Aggregate, Distinct, Join, Sink}
use Rattle.plan_model.specs.declared.setting_values.SettingValues.{SettingValues}
use Rattle.expr_json.specs.Depths.{expr_depth, test_depth}
use Rattle.expr_json.specs.Ranges.{in_range, test_in_range}
use Rattle.expr_json.specs.Spelling.{expr_value, test_value}
use Rattle.expr_json.proofs.Laws.{nests-expr, nests-test, plain-expr, plain-test}
use Rattle.job_json.specs.Spelling.{number_value, column_value, pair_value, agg_value, op_members, with_ship, node_value, settings_value, job_value}
use Rattle.job_json.specs.WellFormed.{is_shallow_expr, is_shallow_test, IsOpForm, IsNodeForm, IsJobForm}
use Rattle.job_json.specs.declared.job.Job.{Job}
use Rattle.job_json.proofs.Tools.{both_parts}

-- ---- no floats

or_none : (a b : Bool) → a ≡ false → b ≡ false → (a || b) ≡ false
or_none a b p q = rw p q

items_plain : {A : Type 0} (f : A → Data) → ((x : A) → has_float (f x) ≡ false) → (xs : List A) → items_have_float (items_of (map f xs)) ≡ false
items_plain f plain [] = refl
items_plain f plain (x ∷ xs) = or_none (has_float (f x)) (items_have_float (items_of (map f xs))) (plain x) (items_plain f plain xs)

agg_plain : (agg : Agg) → has_float (agg_value agg) ≡ false
agg_plain Count = refl
agg_plain (Sum k) = refl
agg_plain (Min k) = refl
agg_plain (Max k) = refl

put_plain : (b : Bool) (op : Op) (inputs : List ℕ) → members_have_float (op_members op inputs) ≡ false → members_have_float (with_ship b (op_members op inputs)) ≡ false
put_plain false op inputs h = h
put_plain true (Source t c) inputs h = h
put_plain true (Filter t) inputs h = h
put_plain true (Project es) inputs h = h
put_plain true (Explode c s) inputs h = h
put_plain true Union inputs h = h
put_plain true (Aggregate ks gs) inputs h = h
put_plain true Distinct inputs h = h
put_plain true (Join k ks) inputs h = h
put_plain true (Sink n) inputs h = h

op_plain : (op : Op) (inputs : List ℕ) → members_have_float (op_members op inputs) ≡ false
op_plain (Source t c) inputs = or_none _ _ (items_plain column_value (λ x. refl) c) refl
op_plain (Filter t) inputs = or_none _ _ (plain-test t) refl
op_plain (Project es) inputs = or_none _ _ (items_plain expr_value plain-expr es) refl
op_plain (Explode c s) inputs = refl
op_plain Union inputs = or_none _ _ (items_plain number_value (λ x. refl) inputs) refl
op_plain (Aggregate ks gs) inputs = or_none _ _ (items_plain agg_value agg_plain gs) (or_none _ _ (items_plain number_value (λ x. refl) ks) refl)
op_plain Distinct inputs = refl
op_plain (Join k ks) inputs = or_none _ _ (items_plain pair_value (λ x. refl) ks) refl
op_plain (Sink n) inputs = refl

node_plain : (node : Node) → has_float (node_value node) ≡ false
node_plain node = put_plain node.rebalance node.op node.inputs (op_plain node.op node.inputs)

pub plain_job : (job : Job) → has_float (job_value job) ≡ false
unfolding job_value
plain_job job = or_none _ _ (items_plain node_value node_plain job.plan) refl

-- ---- depths

items_nest : {A : Type 0} (f : A → Data) (n : ℕ) → (xs : List A) → All (λ x. depth (f x) ≤ n) xs → items_depth (items_of (map f xs)) ≤ n
items_nest f n [] all = omega arith
items_nest {A} f n (x ∷ xs) all =
    let first : depth (f x) ≤ n = all 0 x (omega arith) in
    let rest : items_depth (items_of (map f xs)) ≤ n = items_nest f n xs (λ k d h. all (suc k) d (omega arith)) in
    omega arith

everywhere : {A : Type 0} (P : A → Type 0) → ((x : A) → P x) → (xs : List A) → All P xs
everywhere P one xs k d h = one (get_or xs k d)

agg_nests : (agg : Agg) → depth (agg_value agg) ≤ 1
agg_nests Count = omega arith
agg_nests (Sum k) = omega arith
agg_nests (Min k) = omega arith
agg_nests (Max k) = omega arith

shallow_expr : (e : Expr) → is_shallow_expr e ≡ true → depth (expr_value e) ≤ 32
shallow_expr e h =
    let parts = both_parts (in_range e) (nat_le (expr_depth e) 32) h in
    let low : expr_depth e ≤ 32 = let t : nat_le (expr_depth e) 32 ≡ true = parts.1 in grind (arith, nat_tests) in
    omega (arith, nests-expr e)

shallow_exprs : (es : List Expr) → list_all is_shallow_expr es ≡ true → All (λ e. depth (expr_value e) ≤ 32) es
shallow_exprs [] h k d lt = absurd (omega arith)
shallow_exprs (e ∷ es) h zero d lt = shallow_expr e (both_parts (is_shallow_expr e) (list_all is_shallow_expr es) h).0
shallow_exprs (e ∷ es) h (suc k) d lt = shallow_exprs es (both_parts (is_shallow_expr e) (list_all is_shallow_expr es) h).1 k d (omega arith)

put_nests : (b : Bool) (op : Op) (inputs : List ℕ) → members_depth (with_ship b (op_members op inputs)) ≤ members_depth (op_members op inputs)
put_nests false op inputs = omega arith
put_nests true (Source t c) inputs = omega arith
put_nests true (Filter t) inputs = omega arith
put_nests true (Project es) inputs = omega arith
put_nests true (Explode c s) inputs = omega arith
put_nests true Union inputs = omega arith
put_nests true (Aggregate ks gs) inputs = omega arith
put_nests true Distinct inputs = omega arith
put_nests true (Join k ks) inputs = omega arith
put_nests true (Sink n) inputs = omega arith

shallow_test : (t : Pred) → is_shallow_test t ≡ true → depth (test_value t) ≤ 32
shallow_test t h =
    let parts = both_parts (test_in_range t) (nat_le (test_depth t) 32) h in
    let low : test_depth t ≤ 32 = let e : nat_le (test_depth t) 32 ≡ true = parts.1 in grind (arith, nat_tests) in
    omega (arith, nests-test t)

op_nests : (op : Op) (inputs : List ℕ) → IsOpForm op inputs → members_depth (op_members op inputs) ≤ 33
op_nests (Source t c) inputs h =
    let items : items_depth (items_of (map column_value c)) ≤ 1 = items_nest column_value 1 c (everywhere (λ x. depth (column_value x) ≤ 1) (λ x. omega arith) c) in
    omega arith
op_nests (Filter t) inputs h = let test : depth (test_value t) ≤ 32 = shallow_test t h.0 in omega arith
op_nests (Project es) inputs h =
    let items : items_depth (items_of (map expr_value es)) ≤ 32 = items_nest expr_value 32 es (shallow_exprs es h.1.each) in
    omega arith
op_nests (Explode c s) inputs h = omega arith
op_nests Union inputs h =
    let items : items_depth (items_of (map number_value inputs)) ≤ 0 = items_nest number_value 0 inputs (everywhere (λ x. depth (number_value x) ≤ 0) (λ x. omega arith) inputs) in
    omega arith
op_nests (Aggregate ks gs) inputs h =
    let keys : items_depth (items_of (map number_value ks)) ≤ 0 = items_nest number_value 0 ks (everywhere (λ x. depth (number_value x) ≤ 0) (λ x. omega arith) ks) in
    let aggs : items_depth (items_of (map agg_value gs)) ≤ 1 = items_nest agg_value 1 gs (everywhere (λ x. depth (agg_value x) ≤ 1) agg_nests gs) in
    omega arith
op_nests Distinct inputs h = omega arith
op_nests (Join k ks) inputs h =
    let keys : items_depth (items_of (map pair_value ks)) ≤ 1 = items_nest pair_value 1 ks (everywhere (λ x. depth (pair_value x) ≤ 1) (λ x. omega arith) ks) in
    omega arith
op_nests (Sink n) inputs h = omega arith

node_nests : (node : Node) → IsNodeForm node → depth (node_value node) ≤ 34
node_nests node h =
    let members : members_depth (op_members node.op node.inputs) ≤ 33 = op_nests node.op node.inputs h.op in
    let shipped : members_depth (with_ship node.rebalance (op_members node.op node.inputs)) ≤ members_depth (op_members node.op node.inputs) = put_nests node.rebalance node.op node.inputs in
    omega arith

settings_nest : (values : SettingValues) → depth (settings_value values) ≤ 1
settings_nest values = omega arith

pub job_nests : (job : Job) → IsJobForm job → depth (job_value job) ≤ 127
unfolding job_value
job_nests job h =
    let nodes : items_depth (items_of (map node_value job.plan)) ≤ 34 = items_nest node_value 34 job.plan (λ k d lt. node_nests (get_or job.plan k d) (h.nodes k d lt)) in
    let settings : depth (settings_value job.settings) ≤ 1 = settings_nest job.settings in
    omega arith
