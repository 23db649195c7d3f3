-- The generated job: the total amount of the larger orders of each city.
use Rattle.std.specs.Prelude.{◌≡◌, ℕ, pos, false, List, [], ◌∷◌, ◌++◌, codes, Ok}
use Rattle.std.specs.Fmt.{decimal}
use Rattle.row_core.specs.declared.cmp.Cmp.TheVariants.{Ge}
use Rattle.row_core.specs.declared.expr.Expr.TheVariants.{Col, Const}
use Rattle.row_core.specs.declared.pred.Pred.TheVariants.{Test}
use Rattle.row_core.specs.declared.value.Value.TheVariants.{Int}
use Rattle.plan_model.specs.Checks.{plan_faults}
use Rattle.plan_model.specs.Settings.{default_values}
use Rattle.plan_model.specs.declared.agg.Agg.TheVariants.{Count, Sum}
use Rattle.plan_model.specs.declared.column.Column.{Column}
use Rattle.plan_model.specs.declared.join_kind.JoinKind.TheVariants.{Inner}
use Rattle.plan_model.specs.declared.kind.Kind.{Kind}
use Rattle.plan_model.specs.declared.kind.Kind.TheVariants.{IntKind, TextKind}
use Rattle.plan_model.specs.declared.node.Node.{Node}
use Rattle.plan_model.specs.declared.op.Op.{Op}
use Rattle.plan_model.specs.declared.op.Op.TheVariants.{Source, Filter, Aggregate, Join, Sink}
use Rattle.plan_model.specs.declared.setting_values.SettingValues.{SettingValues}
use Rattle.job_json.specs.Texts.{job_in}
use Rattle.job_json.specs.declared.job.Job.{Job}

-- a column of a table
abbrev pub column : List ℕ → Kind → Column
column name kind = record { name = name; kind = kind }

-- a node with these inputs
abbrev pub node : Op → List ℕ → Node
node op inputs = record { op = op; inputs = inputs; rebalance = false }

-- node 0: the orders, each with its city's number
abbrev pub orders : Node
orders = node
    (Source (codes "orders")
    (column (codes "id") IntKind ∷ column (codes "city") IntKind
    ∷ column (codes "amount") IntKind ∷ []))
    []

-- node 1: those of an amount of 20 or more
abbrev pub large_orders : Node
large_orders = node (Filter (Test Ge (Col 2) (Const (Int (pos 20))))) (0 ∷ [])

-- node 2: the cities' names
abbrev pub cities : Node
cities = node
    (Source (codes "cities") (column (codes "city") IntKind ∷ column (codes "name") TextKind ∷ []))
    []

-- node 3: each of these orders with its city
abbrev pub with_cities : Node
with_cities = node (Join Inner ((1, 0) ∷ [])) (1 ∷ 2 ∷ [])

-- node 4: the number of them, and the sum of their amounts, by the city's name
abbrev pub by_city : Node
by_city = node (Aggregate (4 ∷ []) (Count ∷ Sum 2 ∷ [])) (3 ∷ [])

-- node 5: what is committed
abbrev pub totals : Node
totals = node (Sink (codes "totals")) (4 ∷ [])

-- the plan, for any number of orders
abbrev pub generated_nodes : List Node
generated_nodes = orders ∷ large_orders ∷ cities ∷ with_cities ∷ by_city ∷ totals ∷ []

-- small limits, so that few rows make several subtasks
abbrev pub generated_settings : SettingValues
generated_settings = record default_values {
  target_bytes = 4096;
  max_parallelism = 8;
  broadcast_bytes = 1024;
  attempts = 1;
}

-- the name of the job with n orders
abbrev pub generated_name : ℕ → List ℕ
generated_name n = codes "generated_" ++ decimal n

-- the job with n orders
abbrev pub generated_job : ℕ → Job
generated_job n =
    record { name = generated_name n; plan = generated_nodes; settings = generated_settings }

-- the text reads as the job, and the job's plan has no fault
pub record IsAccepted (text : List ℕ) (job : Job) : Type 0 where
  pub reads : job_in text ≡ Ok job
  pub faultless : plan_faults job.plan ≡ []
