-- The nodes and the job that are spelled are read.
use Rattle.std.proofs.Common.{◌≡◌, ℕ, suc, ◌≤◌, nat_le, Bool, true, false, ◌&&◌, IsTrue, All, List, [], ◌∷◌, length, map, codes, Some, None, Ok, refl, arith}
use Rattle.serde_json.specs.Data.{Data, string, object, Members}
use Rattle.serde_json.specs.Find.{get}
use Rattle.plan_model.proofs.Laws.{is_within_range}
use Rattle.plan_model.specs.Settings.{settings, setting_name, setting_named, is_within, value_of, with_value, AreInRange, default_values}
use Rattle.plan_model.specs.declared.setting.Setting.{Setting}
use Rattle.plan_model.specs.declared.setting.Setting.TheVariants.{Attempts, BlockMs, BroadcastBytes, FlushEvery, MaxParallelism, MinParallelism, RestartLimit, SkewBytes, SkewPercent, SlotsPerWorker, SlowLowerMs, SlowPercent, SlowRatio, TargetBytes}
use Rattle.plan_model.specs.declared.node.Node.{Node}
use Rattle.plan_model.specs.declared.op.Op.{Op}
use Rattle.plan_model.specs.declared.op.Op.TheVariants as op
use Rattle.plan_model.specs.declared.setting_values.SettingValues.{SettingValues}
use Rattle.job_json.specs.Jobs.{with_setting, settings_from, settings_of, job_of}
use Rattle.job_json.specs.Members.{op_kind_named, known_alone}
use Rattle.job_json.specs.Nodes.{source_of, filter_of, project_of, explode_of, union_of, aggregate_of, distinct_of, join_of, sink_of, node_by, op_kind_of, node_of, nodes_from}
use Rattle.job_json.specs.Spelling.{members_from, number_value, setting_member, op_members, with_ship, node_value, job_value}
use Rattle.job_json.specs.WellFormed.{IsOpForm, may_rebalance, IsNodeForm, IsJobForm}
use Rattle.job_json.specs.declared.job.Job.{Job}
use Rattle.job_json.specs.declared.object.Object.TheVariants as object
use Rattle.job_json.specs.declared.op_kind.OpKind.{OpKind}
use Rattle.job_json.specs.declared.op_kind.OpKind.TheVariants.{Source, Filter, Project, Explode, Union, Aggregate, Distinct, Join, Sink}
use Rattle.job_json.proofs.Tools.{both_true}
use Rattle.job_json.proofs.SpelledParts.{as_many, le_test, name_at, number_at, list_at, columns_at, keys_at, inputs_at, pairs_at, aggs_at, where_at, exprs_at, separator_at, join_kind_at, ship_at, no_ship_at}

-- a node of its operator, whose members are all known, is read
by_parts : (k : ℕ) (kind : OpKind) (word : List ℕ) (ms : Members) (node : Node) → get (codes "op") (object ms) ≡ Some (string word) → op_kind_named word ≡ Some kind
    → node_by kind (Some k) (object ms) ≡ Ok node → known_alone (Some k) (object.Node kind) ms ≡ Ok tt → node_of k (object ms) ≡ Ok node
unfolding node_of op_kind_of
by_parts k kind word ms node at named read known = rw (at, named, read, known) refl

-- what a node of this operator is spelled as
abbrev spelled : Bool → Op → List ℕ → Data
spelled b o inputs = object (with_ship b (op_members o inputs))

abbrev node_with : Op → List ℕ → Bool → Node
node_with o inputs b = record { op = o; inputs = inputs; rebalance = b }

node_again : (k : ℕ) (o : Op) (inputs : List ℕ) (b : Bool) → IsOpForm o inputs → (b ≡ true → may_rebalance o ≡ true) → node_of k (spelled b o inputs) ≡ Ok (node_with o inputs b)
unfolding op_kind_named source_of filter_of project_of explode_of union_of aggregate_of distinct_of join_of sink_of
node_again k (op.Source t c) inputs true h ship = absurd (cc (ship refl))
node_again k (op.Source t c) inputs false h ship =
    let d = spelled false (op.Source t c) inputs in
    by_parts k Source (codes "source") (op_members (op.Source t c) inputs) _ refl refl
    (rw (name_at (Some k) (codes "table") d t refl h.0, columns_at (Some k) d c refl h.1 h.2, h.3) refl) refl
node_again k (op.Filter t) [] b h ship = absurd h.1
node_again k (op.Filter t) (i ∷ j ∷ js) b h ship = absurd h.1
node_again k (op.Filter t) (i ∷ []) true h ship =
    let d = spelled true (op.Filter t) (i ∷ []) in
    by_parts k Filter (codes "filter") (with_ship true (op_members (op.Filter t) (i ∷ []))) _ refl refl
    (rw (number_at (Some k) (codes "input") d i refl h.1, where_at (Some k) d t refl h.0, ship_at (Some k) d refl) refl) refl
node_again k (op.Filter t) (i ∷ []) false h ship =
    let d = spelled false (op.Filter t) (i ∷ []) in
    by_parts k Filter (codes "filter") (with_ship false (op_members (op.Filter t) (i ∷ []))) _ refl refl
    (rw (number_at (Some k) (codes "input") d i refl h.1, where_at (Some k) d t refl h.0, no_ship_at (Some k) d refl) refl) refl
node_again k (op.Project es) [] b h ship = absurd h.2
node_again k (op.Project es) (i ∷ j ∷ js) b h ship = absurd h.2
node_again k (op.Project es) (i ∷ []) true h ship =
    let d = spelled true (op.Project es) (i ∷ []) in
    by_parts k Project (codes "project") (with_ship true (op_members (op.Project es) (i ∷ []))) _ refl refl
    (rw (number_at (Some k) (codes "input") d i refl h.2, exprs_at (Some k) d es refl h.0 h.1, ship_at (Some k) d refl) refl) refl
node_again k (op.Project es) (i ∷ []) false h ship =
    let d = spelled false (op.Project es) (i ∷ []) in
    by_parts k Project (codes "project") (with_ship false (op_members (op.Project es) (i ∷ []))) _ refl refl
    (rw (number_at (Some k) (codes "input") d i refl h.2, exprs_at (Some k) d es refl h.0 h.1, no_ship_at (Some k) d refl) refl) refl
node_again k (op.Explode c s) [] b h ship = absurd h.2
node_again k (op.Explode c s) (i ∷ j ∷ js) b h ship = absurd h.2
node_again k (op.Explode c s) (i ∷ []) true h ship =
    let d = spelled true (op.Explode c s) (i ∷ []) in
    by_parts k Explode (codes "explode") (with_ship true (op_members (op.Explode c s) (i ∷ []))) _ refl refl
    (rw (number_at (Some k) (codes "input") d i refl h.2, number_at (Some k) (codes "column") d c refl h.0, separator_at (Some k) d s refl h.1, ship_at (Some k) d refl) refl) refl
node_again k (op.Explode c s) (i ∷ []) false h ship =
    let d = spelled false (op.Explode c s) (i ∷ []) in
    by_parts k Explode (codes "explode") (with_ship false (op_members (op.Explode c s) (i ∷ []))) _ refl refl
    (rw (number_at (Some k) (codes "input") d i refl h.2, number_at (Some k) (codes "column") d c refl h.0, separator_at (Some k) d s refl h.1, no_ship_at (Some k) d refl) refl) refl
node_again k op.Union inputs true h ship = absurd (cc (ship refl))
node_again k op.Union inputs false h ship =
    let d = spelled false op.Union inputs in
    by_parts k Union (codes "union") (op_members op.Union inputs) _ refl refl
    (rw (inputs_at (Some k) d inputs refl h.0 h.1 h.2) refl) refl
node_again k (op.Aggregate ks gs) inputs true h ship = absurd (cc (ship refl))
node_again k (op.Aggregate ks gs) [] false h ship = absurd h.2
node_again k (op.Aggregate ks gs) (i ∷ j ∷ js) false h ship = absurd h.2
node_again k (op.Aggregate ks gs) (i ∷ []) false h ship =
    let d = spelled false (op.Aggregate ks gs) (i ∷ []) in
    by_parts k Aggregate (codes "aggregate") (op_members (op.Aggregate ks gs) (i ∷ [])) _ refl refl
    (rw (number_at (Some k) (codes "input") d i refl h.2, keys_at (Some k) d ks refl h.0, aggs_at (Some k) d gs refl h.1) refl) refl
node_again k op.Distinct inputs true h ship = absurd (cc (ship refl))
node_again k op.Distinct [] false h ship = absurd h
node_again k op.Distinct (i ∷ j ∷ js) false h ship = absurd h
node_again k op.Distinct (i ∷ []) false h ship =
    let d = spelled false op.Distinct (i ∷ []) in
    by_parts k Distinct (codes "distinct") (op_members op.Distinct (i ∷ [])) _ refl refl
    (rw (number_at (Some k) (codes "input") d i refl h) refl) refl
node_again k (op.Join kind ks) inputs true h ship = absurd (cc (ship refl))
node_again k (op.Join kind ks) [] false h ship = absurd h.1
node_again k (op.Join kind ks) (i ∷ []) false h ship = absurd h.1
node_again k (op.Join kind ks) (i ∷ j ∷ l ∷ ls) false h ship = absurd h.1
node_again k (op.Join kind ks) (i ∷ j ∷ []) false h ship =
    let d = spelled false (op.Join kind ks) (i ∷ j ∷ []) in
    by_parts k Join (codes "join") (op_members (op.Join kind ks) (i ∷ j ∷ [])) _ refl refl
    (rw (join_kind_at (Some k) d kind refl, number_at (Some k) (codes "left") d i refl h.1.0, number_at (Some k) (codes "right") d j refl h.1.1, pairs_at (Some k) d ks refl h.0) refl) refl
node_again k (op.Sink n) [] b h ship = absurd h.1
node_again k (op.Sink n) (i ∷ j ∷ js) b h ship = absurd h.1
node_again k (op.Sink n) (i ∷ []) true h ship =
    let d = spelled true (op.Sink n) (i ∷ []) in
    by_parts k Sink (codes "sink") (with_ship true (op_members (op.Sink n) (i ∷ []))) _ refl refl
    (rw (number_at (Some k) (codes "input") d i refl h.1, name_at (Some k) (codes "name") d n refl h.0, ship_at (Some k) d refl) refl) refl
node_again k (op.Sink n) (i ∷ []) false h ship =
    let d = spelled false (op.Sink n) (i ∷ []) in
    by_parts k Sink (codes "sink") (with_ship false (op_members (op.Sink n) (i ∷ []))) _ refl refl
    (rw (number_at (Some k) (codes "input") d i refl h.1, name_at (Some k) (codes "name") d n refl h.0, no_ship_at (Some k) d refl) refl) refl

nodes_again : (k : ℕ) (nodes : List Node) → All IsNodeForm nodes → nodes_from k (map node_value nodes) ≡ Ok nodes
nodes_again k [] h = refl
nodes_again k (node ∷ nodes) h =
    let first : IsNodeForm node = h 0 node (omega arith) in
    let one : node_of k (node_value node) ≡ Ok node = node_again k node.op node.inputs node.rebalance first.op first.ship in
    rw (one, nodes_again (suc k) nodes (λ i d lt. h (suc i) d (omega arith))) refl

-- ---- settings

named_again : (s : Setting) → setting_named (setting_name s) ≡ Some s
named_again Attempts = refl
named_again BlockMs = refl
named_again BroadcastBytes = refl
named_again FlushEvery = refl
named_again MaxParallelism = refl
named_again MinParallelism = refl
named_again RestartLimit = refl
named_again SkewBytes = refl
named_again SkewPercent = refl
named_again SlotsPerWorker = refl
named_again SlowLowerMs = refl
named_again SlowPercent = refl
named_again SlowRatio = refl
named_again TargetBytes = refl

-- the settings so far, with this one as in v
abbrev step : SettingValues → SettingValues → Setting → SettingValues
step v so_far s = with_value so_far s (value_of v s)

abbrev after : SettingValues → SettingValues → List Setting → SettingValues
after v so_far [] = so_far
after v so_far (s ∷ ss) = after v (step v so_far s) ss

-- each of these may be changed to what it is in v, one after another
abbrev Fit : SettingValues → SettingValues → List Setting → Type 0
Fit v so_far [] = Unit {0}
Fit v so_far (s ∷ ss) = IsTrue (is_within so_far s (value_of v s)) × Fit v (step v so_far s) ss

with_again : (so_far : SettingValues) (s : Setting) (n : ℕ) → is_within so_far s n ≡ true → with_setting so_far (setting_name s) (number_value n) ≡ Ok (with_value so_far s n)
unfolding with_setting
with_again so_far s n fits = rw (named_again s, fits) refl

changed_again : (v so_far : SettingValues) (ss : List Setting) → Fit v so_far ss → settings_from so_far (members_from (map (setting_member v) ss)) ≡ Ok (after v so_far ss)
changed_again v so_far [] h = refl
changed_again v so_far (s ∷ ss) h = rw (with_again so_far s (value_of v s) h.0) (changed_again v (step v so_far s) ss h.1)

settings_again : (v : SettingValues) → AreInRange v → settings_from default_values (members_from (map (setting_member v) settings)) ≡ Ok v
settings_again v h =
    let low : 1 ≤ v.max_parallelism = omega (arith, (h MinParallelism).0, (h MaxParallelism).0) in
    changed_again v default_values settings (is_within_range v Attempts v.attempts (h Attempts), (is_within_range v BlockMs v.block_ms (h BlockMs), (is_within_range v BroadcastBytes v.broadcast_bytes (h BroadcastBytes), (is_within_range v FlushEvery v.flush_every (h FlushEvery), (is_within_range (after v default_values (Attempts ∷ BlockMs ∷ BroadcastBytes ∷ FlushEvery ∷ [])) MaxParallelism v.max_parallelism (low, (h MaxParallelism).1), (is_within_range v MinParallelism v.min_parallelism (h MinParallelism), (is_within_range v RestartLimit v.restart_limit (h RestartLimit), (is_within_range v SkewBytes v.skew_bytes (h SkewBytes), (is_within_range v SkewPercent v.skew_percent (h SkewPercent), (is_within_range v SlotsPerWorker v.slots_per_worker (h SlotsPerWorker), (is_within_range v SlowLowerMs v.slow_lower_ms (h SlowLowerMs), (is_within_range v SlowPercent v.slow_percent (h SlowPercent), (is_within_range v SlowRatio v.slow_ratio (h SlowRatio), (is_within_range v TargetBytes v.target_bytes (h TargetBytes), tt))))))))))))))

-- ---- jobs

job_settings : (job : Job) → AreInRange job.settings → settings_of (job_value job) ≡ Ok job.settings
unfolding job_value settings_of
job_settings job h = settings_again job.settings h

pub job_again : (job : Job) → IsJobForm job → job_of (job_value job) ≡ Ok job
unfolding job_value job_of
job_again job h =
    let d = job_value job in
    let count : length (map node_value job.plan) ≤ 256 = omega (arith, as_many node_value job.plan, h.most) in
    rw (name_at None (codes "job") d job.name refl h.name, list_at None (codes "nodes") d (map node_value job.plan) refl, job_settings job h.settings, le_test (length (map node_value job.plan)) 256 count, nodes_again 0 job.plan h.nodes) refl
