-- The nodes and the job that are read are well-formed.
use Rattle.std.proofs.Common.{◌≡◌, ℕ, suc, zero, ◌≤◌, nat_le, true, false, IsTrue, All, List, [], ◌∷◌, length, codes, Option, Some, None, Ok, refl, ap, subst, lit≤, arith}
use Rattle.std.proofs.lemmas.Bool.Decides.{nat_tests}
use Rattle.std.specs.List.{list_all}
use Rattle.serde_json.specs.Data.{Data, Members, no_members, member}
use Rattle.serde_json.specs.Find.{get, as_number, as_object, as_u64}
use Rattle.plan_model.specs.Settings.{setting_named, is_within, with_value, default_values, AreInRange}
use Rattle.plan_model.specs.declared.node.Node.{Node}
use Rattle.plan_model.specs.declared.setting_values.SettingValues.{SettingValues}
use Rattle.plan_model.proofs.Laws.{in_range_with, defaults_in_range}
use Rattle.job_json.specs.Faults.{or_fault, check}
use Rattle.job_json.specs.Jobs.{with_setting, settings_from, settings_in, settings_of, job_of}
use Rattle.job_json.specs.Members.{name_of, number_of, list_of, known_alone}
use Rattle.job_json.specs.Nodes.{source_of, filter_of, project_of, explode_of, union_of, aggregate_of, distinct_of, join_of, sink_of, node_by, op_kind_of, node_of, nodes_from}
use Rattle.job_json.specs.Parts.{columns_of, keys_of, inputs_of, pairs_of, aggs_of, where_of, exprs_of, separator_of, join_kind_of, ship_of}
use Rattle.job_json.specs.WellFormed.{has_utf8_texts_in, IsOpForm, may_rebalance, IsNodeForm, IsJobForm}
use Rattle.job_json.specs.declared.job.Job.{Job}
use Rattle.job_json.specs.declared.object.Object.TheVariants as object
use Rattle.job_json.specs.declared.op_kind.OpKind.{OpKind}
use Rattle.job_json.specs.declared.op_kind.OpKind.TheVariants.{Source, Filter, Project, Explode, Union, Aggregate, Distinct, Join, Sink}
use Rattle.job_json.proofs.Tools.{read_then, same_Ok, checked, both_parts}
use Rattle.job_json.proofs.WellRead.{name_read, number_read, columns_read, keys_read, inputs_read, pairs_read, aggs_read, where_read, exprs_read, separator_read}

-- an operator, its inputs and whether it may spread rows anew are well-formed
record IsRead (node : Node) : Type 0 where
  pub op : IsOpForm node.op node.inputs
  pub ship : node.rebalance ≡ true → may_rebalance node.op ≡ true

never : {P : Type 0} → false ≡ true → P
never e = absurd (cc e)

source_read : (k : Option ℕ) (d : Data) (node : Node) → source_of k d ≡ Ok node → IsRead node
unfolding source_of
source_read k d node e =
    read_then (name_of k (codes "table") d) _ node e (λ table table_is e1.
    read_then (columns_of k d) _ node e1 (λ columns columns_are e2.
    let c = columns_read k d columns columns_are in
    subst IsRead (same_Ok _ node e2) (record { op = (name_read k _ d table table_is, c.0, c.1, refl); ship = λ e. never e })))

filter_read : (k : Option ℕ) (d : Data) (node : Node) → filter_of k d ≡ Ok node → IsRead node
unfolding filter_of
filter_read k d node e =
    read_then (number_of k (codes "input") d) _ node e (λ input input_is e1.
    read_then (where_of k d) _ node e1 (λ test test_is e2.
    read_then (ship_of k d) _ node e2 (λ rebalance _ e3.
    subst IsRead (same_Ok _ node e3) (record { op = (where_read k d test test_is, number_read k _ d input input_is); ship = λ e. refl }))))

project_read : (k : Option ℕ) (d : Data) (node : Node) → project_of k d ≡ Ok node → IsRead node
unfolding project_of
project_read k d node e =
    read_then (number_of k (codes "input") d) _ node e (λ input input_is e1.
    read_then (exprs_of k d) _ node e1 (λ exprs exprs_are e2.
    read_then (ship_of k d) _ node e2 (λ rebalance _ e3.
    let x = exprs_read k d exprs exprs_are in
    subst IsRead (same_Ok _ node e3) (record { op = (x.0, x.1, number_read k _ d input input_is); ship = λ e. refl }))))

explode_read : (k : Option ℕ) (d : Data) (node : Node) → explode_of k d ≡ Ok node → IsRead node
unfolding explode_of
explode_read k d node e =
    read_then (number_of k (codes "input") d) _ node e (λ input input_is e1.
    read_then (number_of k (codes "column") d) _ node e1 (λ column column_is e2.
    read_then (separator_of k d) _ node e2 (λ separator separator_is e3.
    read_then (ship_of k d) _ node e3 (λ rebalance _ e4.
    subst IsRead (same_Ok _ node e4) (record { op = (number_read k _ d column column_is, separator_read k d separator separator_is, number_read k _ d input input_is); ship = λ e. refl })))))

union_read : (k : Option ℕ) (d : Data) (node : Node) → union_of k d ≡ Ok node → IsRead node
unfolding union_of
union_read k d node e =
    read_then (inputs_of k d) _ node e (λ inputs inputs_are e1.
    subst IsRead (same_Ok _ node e1) (record { op = inputs_read k d inputs inputs_are; ship = λ e. never e }))

aggregate_read : (k : Option ℕ) (d : Data) (node : Node) → aggregate_of k d ≡ Ok node → IsRead node
unfolding aggregate_of
aggregate_read k d node e =
    read_then (number_of k (codes "input") d) _ node e (λ input input_is e1.
    read_then (keys_of k d) _ node e1 (λ keys keys_are e2.
    read_then (aggs_of k d) _ node e2 (λ aggs aggs_are e3.
    subst IsRead (same_Ok _ node e3) (record { op = (keys_read k d keys keys_are, aggs_read k d aggs aggs_are, number_read k _ d input input_is); ship = λ e. never e }))))

distinct_read : (k : Option ℕ) (d : Data) (node : Node) → distinct_of k d ≡ Ok node → IsRead node
unfolding distinct_of
distinct_read k d node e =
    read_then (number_of k (codes "input") d) _ node e (λ input input_is e1.
    subst IsRead (same_Ok _ node e1) (record { op = number_read k _ d input input_is; ship = λ e. never e }))

join_read : (k : Option ℕ) (d : Data) (node : Node) → join_of k d ≡ Ok node → IsRead node
unfolding join_of
join_read k d node e =
    read_then (join_kind_of k d) _ node e (λ kind _ e1.
    read_then (number_of k (codes "left") d) _ node e1 (λ left left_is e2.
    read_then (number_of k (codes "right") d) _ node e2 (λ right right_is e3.
    read_then (pairs_of k d) _ node e3 (λ keys keys_are e4.
    subst IsRead (same_Ok _ node e4) (record { op = (pairs_read k d keys keys_are, (number_read k _ d left left_is, number_read k _ d right right_is)); ship = λ e. never e })))))

sink_read : (k : Option ℕ) (d : Data) (node : Node) → sink_of k d ≡ Ok node → IsRead node
unfolding sink_of
sink_read k d node e =
    read_then (number_of k (codes "input") d) _ node e (λ input input_is e1.
    read_then (name_of k (codes "name") d) _ node e1 (λ name name_is e2.
    read_then (ship_of k d) _ node e2 (λ rebalance _ e3.
    subst IsRead (same_Ok _ node e3) (record { op = (name_read k _ d name name_is, number_read k _ d input input_is); ship = λ e. refl }))))

by_kind : (kind : OpKind) (k : Option ℕ) (d : Data) (node : Node) → node_by kind k d ≡ Ok node → IsRead node
by_kind Source = source_read
by_kind Filter = filter_read
by_kind Project = project_read
by_kind Explode = explode_read
by_kind Union = union_read
by_kind Aggregate = aggregate_read
by_kind Distinct = distinct_read
by_kind Join = join_read
by_kind Sink = sink_read

node_read : (k : ℕ) (d : Data) (node : Node) → node_of k d ≡ Ok node → IsRead node
unfolding node_of
node_read k d node e =
    read_then (or_fault _ (as_object d)) _ node e (λ members _ e1.
    read_then (op_kind_of (Some k) d) _ node e1 (λ kind _ e2.
    read_then (node_by kind (Some k) d) _ node e2 (λ read read_is e3.
    read_then (known_alone (Some k) (object.Node kind) members) _ node e3 (λ u _ e4.
    subst IsRead (same_Ok read node e4) (by_kind kind (Some k) d read read_is)))))

form_of : (node : Node) → IsRead node → IsTrue (has_utf8_texts_in node) → IsNodeForm node
form_of node r texts = record { op = r.op; texts = texts; ship = r.ship }

all_nodes : (node : Node) (nodes : List Node) → IsNodeForm node → All IsNodeForm nodes → All IsNodeForm (node ∷ nodes)
all_nodes node nodes one rest zero d lt = one
all_nodes node nodes one rest (suc k) d lt = rest k d (omega arith)

record AreRead (n : ℕ) (nodes : List Node) : Type 0 where
  pub forms : IsTrue (list_all has_utf8_texts_in nodes) → All IsNodeForm nodes
  pub count : length nodes ≡ n

nodes_read : (k : ℕ) (ds : List Data) (nodes : List Node) → nodes_from k ds ≡ Ok nodes → AreRead (length ds) nodes
nodes_read k [] nodes e = subst (AreRead 0) (same_Ok [] nodes e) (record { forms = λ texts k d lt. absurd (omega arith); count = refl })
nodes_read k (d ∷ ds) nodes e =
    read_then (node_of k d) _ nodes e (λ node node_is e1.
    read_then (nodes_from (suc k) ds) _ nodes e1 (λ rest rest_are e2.
    let r = nodes_read (suc k) ds rest rest_are in
    subst (AreRead (suc (length ds))) (same_Ok (node ∷ rest) nodes e2) (record {
      forms = λ texts. let p = both_parts (has_utf8_texts_in node) (list_all has_utf8_texts_in rest) texts in
          all_nodes node rest (form_of node (node_read k d node node_is) p.0) (r.forms p.1);
      count = ap suc r.count;
    })))

-- ---- settings

setting_read : (v : SettingValues) (name : List ℕ) (d : Data) (w : SettingValues) → AreInRange v → with_setting v name d ≡ Ok w → AreInRange w
unfolding with_setting
setting_read v name d w h e =
    read_then (or_fault _ (setting_named name)) _ w e (λ setting _ e1.
    read_then (or_fault _ (as_number d)) _ w e1 (λ n _ e2.
    read_then (or_fault _ (as_u64 n)) _ w e2 (λ value _ e3.
    read_then (check (is_within v setting value) _) _ w e3 (λ u within e4.
    subst AreInRange (same_Ok (with_value v setting value) w e4) (in_range_with v setting value h (checked (is_within v setting value) _ u within))))))

settings_read : (v : SettingValues) (ms : Members) (w : SettingValues) → AreInRange v → settings_from v ms ≡ Ok w → AreInRange w
settings_read v no_members w h e = subst AreInRange (same_Ok v w e) h
settings_read v (member name d ms) w h e =
    read_then (with_setting v name d) _ w e (λ x x_is e1. settings_read x ms w (setting_read v name d x h x_is) e1)

given_settings : (o : Option Data) (w : SettingValues) → settings_in o ≡ Ok w → AreInRange w
given_settings None w e = subst AreInRange (same_Ok default_values w e) defaults_in_range
given_settings (Some d) w e = read_then (or_fault _ (as_object d)) _ w e (λ ms _ e1. settings_read default_values ms w defaults_in_range e1)

settings_in_range : (d : Data) (w : SettingValues) → settings_of d ≡ Ok w → AreInRange w
unfolding settings_of
settings_in_range d w e = given_settings (get (codes "settings") d) w e

-- ---- jobs

up_to_256 : (n : ℕ) → nat_le n 256 ≡ true → n ≤ 256
up_to_256 n e = grind (arith, nat_tests)

-- a job with UTF-8 texts that is read is well-formed
pub job_read : (d : Data) (job : Job) → job_of d ≡ Ok job → IsTrue (list_all has_utf8_texts_in job.plan) → IsJobForm job
unfolding job_of
job_read d job e =
    read_then (or_fault _ (as_object d)) _ job e (λ members _ e1.
    read_then (name_of None (codes "job") d) _ job e1 (λ name name_is e2.
    read_then (list_of None (codes "nodes") d) _ job e2 (λ items _ e3.
    read_then (settings_of d) _ job e3 (λ settings settings_are e4.
    read_then (known_alone None object.Top members) _ job e4 (λ u _ e5.
    read_then (check (nat_le (length items) 256) _) _ job e5 (λ w few e6.
    read_then (nodes_from 0 items) _ job e6 (λ nodes nodes_are e7.
    let r = nodes_read 0 items nodes nodes_are in
    let most : length items ≤ 256 = up_to_256 (length items) (checked (nat_le (length items) 256) _ w few) in
    let count : length nodes ≤ 256 = omega (arith, r.count) in
    let read : Job = record { name = name; plan = nodes; settings = settings } in
    subst (λ (job : Job). IsTrue (list_all has_utf8_texts_in job.plan) → IsJobForm job) (same_Ok read job e7)
    (λ texts. record { name = name_read None _ d name name_is; most = count; nodes = r.forms texts; settings = settings_in_range d settings settings_are }))))))))
