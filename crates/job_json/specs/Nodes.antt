-- Nodes: their members in the order in which faults are looked for.
use Rattle.std.specs.Prelude.{ℕ, suc, false, List, [], ◌∷◌, codes, Option, Some, None, Result, Ok}
use Rattle.serde_json.specs.Data.{Data}
use Rattle.serde_json.specs.Find.{as_str, as_object}
use Rattle.plan_model.specs.declared.node.Node.{Node}
use Rattle.plan_model.specs.declared.op.Op.TheVariants as op
use Rattle.job_json.specs.Faults.{◌>>=◌, or_fault, fault}
use Rattle.job_json.specs.Members.{op_kind_named, member_of, name_of, number_of, known_alone}
use Rattle.job_json.specs.Parts.{columns_of, keys_of, inputs_of, pairs_of, aggs_of, where_of, exprs_of, separator_of, join_kind_of, ship_of}
use Rattle.job_json.specs.declared.job_fault.JobFault.{JobFault}
use Rattle.job_json.specs.declared.job_fault_kind.JobFaultKind.TheVariants.{BadMember, UnknownOp}
use Rattle.job_json.specs.declared.object.Object.TheVariants as object
use Rattle.job_json.specs.declared.op_kind.OpKind.{OpKind}
use Rattle.job_json.specs.declared.op_kind.OpKind.TheVariants.{Source, Filter, Project, Explode, Union, Aggregate, Distinct, Join, Sink}

-- a source: its table and columns
unfoldable pub source_of : Option ℕ → Data → Result Node JobFault
source_of node d = do
  table ← name_of node (codes "table") d
  columns ← columns_of node d
  Ok (record { op = op.Source table columns; inputs = []; rebalance = false })

-- a filter: its input, its test and how rows are shipped
unfoldable pub filter_of : Option ℕ → Data → Result Node JobFault
filter_of node d = do
  input ← number_of node (codes "input") d
  test ← where_of node d
  rebalance ← ship_of node d
  Ok (record { op = op.Filter test; inputs = input ∷ []; rebalance = rebalance })

-- a project node: its input, its expressions and how rows are shipped
unfoldable pub project_of : Option ℕ → Data → Result Node JobFault
project_of node d = do
  input ← number_of node (codes "input") d
  exprs ← exprs_of node d
  rebalance ← ship_of node d
  Ok (record { op = op.Project exprs; inputs = input ∷ []; rebalance = rebalance })

-- an explode node: its input, a column, a separator and how rows are shipped
unfoldable pub explode_of : Option ℕ → Data → Result Node JobFault
explode_of node d = do
  input ← number_of node (codes "input") d
  column ← number_of node (codes "column") d
  separator ← separator_of node d
  rebalance ← ship_of node d
  Ok (record { op = op.Explode column separator; inputs = input ∷ []; rebalance = rebalance })

-- a union: its inputs
unfoldable pub union_of : Option ℕ → Data → Result Node JobFault
union_of node d = do
  inputs ← inputs_of node d
  Ok (record { op = op.Union; inputs = inputs; rebalance = false })

-- an aggregate: its input, keys and aggregates
unfoldable pub aggregate_of : Option ℕ → Data → Result Node JobFault
aggregate_of node d = do
  input ← number_of node (codes "input") d
  keys ← keys_of node d
  aggs ← aggs_of node d
  Ok (record { op = op.Aggregate keys aggs; inputs = input ∷ []; rebalance = false })

-- a distinct node: its input
unfoldable pub distinct_of : Option ℕ → Data → Result Node JobFault
distinct_of node d = do
  input ← number_of node (codes "input") d
  Ok (record { op = op.Distinct; inputs = input ∷ []; rebalance = false })

-- a join: its kind, its inputs and keys
unfoldable pub join_of : Option ℕ → Data → Result Node JobFault
join_of node d = do
  kind ← join_kind_of node d
  left ← number_of node (codes "left") d
  right ← number_of node (codes "right") d
  keys ← pairs_of node d
  Ok (record { op = op.Join kind keys; inputs = left ∷ right ∷ []; rebalance = false })

-- a sink: its input, its name and how rows are shipped
unfoldable pub sink_of : Option ℕ → Data → Result Node JobFault
sink_of node d = do
  input ← number_of node (codes "input") d
  name ← name_of node (codes "name") d
  rebalance ← ship_of node d
  Ok (record { op = op.Sink name; inputs = input ∷ []; rebalance = rebalance })

-- a node of this operator
abbrev pub node_by : OpKind → Option ℕ → Data → Result Node JobFault
node_by Source = source_of
node_by Filter = filter_of
node_by Project = project_of
node_by Explode = explode_of
node_by Union = union_of
node_by Aggregate = aggregate_of
node_by Distinct = distinct_of
node_by Join = join_of
node_by Sink = sink_of

-- the operator that a node names
unfoldable pub op_kind_of : Option ℕ → Data → Result OpKind JobFault
op_kind_of node d = do
  value ← member_of node (codes "op") d
  word ← or_fault (fault BadMember node (codes "op")) (as_str value)
  or_fault (fault UnknownOp node (codes "op")) (op_kind_named word)

-- a node
unfoldable pub node_of : ℕ → Data → Result Node JobFault
node_of k d = do
  members ← or_fault (record { kind = BadMember; node = Some k; name = None }) (as_object d)
  kind ← op_kind_of (Some k) d
  node ← node_by kind (Some k) d
  known ← known_alone (Some k) (object.Node kind) members
  Ok node

-- the nodes, from this number on
abbrev pub nodes_from : ℕ → List Data → Result (List Node) JobFault
nodes_from k [] = Ok []
nodes_from k (d ∷ ds) =
    node_of k d >>= λ node. nodes_from (suc k) ds >>= λ nodes. Ok (node ∷ nodes)
