-- What a job can be, so that some text spells it.
use Rattle.std.specs.Prelude.{◌≡◌, ℕ, ◌<◌, ◌≤◌, ◌^◌, nat_lt, nat_le, Bool, true, false, ◌&&◌, IsTrue, All, List, [], ◌∷◌, length}
use Rattle.std.specs.List.{list_all}
use Rattle.row_core.specs.declared.expr.Expr.{Expr}
use Rattle.row_core.specs.declared.pred.Pred.{Pred}
use Rattle.plan_model.specs.Settings.{AreInRange}
use Rattle.plan_model.specs.declared.agg.Agg.{Agg}
use Rattle.plan_model.specs.declared.agg.Agg.TheVariants.{Count, Sum, Min, Max}
use Rattle.plan_model.specs.declared.column.Column.{Column}
use Rattle.plan_model.specs.declared.node.Node.{Node}
use Rattle.plan_model.specs.declared.op.Op.{Op}
use Rattle.plan_model.specs.declared.op.Op.TheVariants.{Source, Filter, Project, Explode, Union, Aggregate, Distinct, Join, Sink}
use Rattle.expr_json.specs.Depths.{expr_depth, test_depth}
use Rattle.expr_json.specs.Ranges.{in_range, test_in_range, has_utf8_texts, test_has_utf8_texts}
use Rattle.job_json.specs.declared.node_reader.TheConstants.{LIST_LIMIT}
use Rattle.job_json.specs.declared.numbers.TheConstants.{LEAST_INPUTS, INPUT_LIMIT}
use Rattle.job_json.specs.declared.exprs.TheConstants.{DEPTH_LIMIT}
use Rattle.job_json.specs.declared.reading.TheConstants.{NODE_LIMIT}
use Rattle.job_json.specs.Members.{is_name}
use Rattle.job_json.specs.declared.job.Job.{Job}

-- ---- the parts of nodes

-- an integer of 32 bits
abbrev pub is_u32 : ℕ → Bool
is_u32 n = nat_lt n (2 ^ 32)

-- two of them
abbrev pub is_u32_pair : ℕ × ℕ → Bool
is_u32_pair pair = is_u32 pair.0 && is_u32 pair.1

-- an aggregate of such a column
abbrev pub is_u32_agg : Agg → Bool
is_u32_agg Count = true
is_u32_agg (Sum column) = is_u32 column
is_u32_agg (Min column) = is_u32 column
is_u32_agg (Max column) = is_u32 column

-- a column whose name is one
abbrev pub is_named : Column → Bool
is_named column = is_name column.name

-- numbers in their ranges, and lists that stand at most 32 deep one within another
abbrev pub is_shallow_expr : Expr → Bool
is_shallow_expr expr = in_range expr && nat_le (expr_depth expr) DEPTH_LIMIT

-- the same of a test
abbrev pub is_shallow_test : Pred → Bool
is_shallow_test test = test_in_range test && nat_le (test_depth test) DEPTH_LIMIT

-- at most 256 items, each of which passes a test
pub record IsShort {A : Type 0} (passes : A → Bool) (items : List A) : Type 0 where
  pub most : length items ≤ LIST_LIMIT
  pub each : IsTrue (list_all passes items)

-- the texts within an operator's expressions are UTF-8
abbrev pub has_utf8 : Op → Bool
has_utf8 (Filter test) = test_has_utf8_texts test
has_utf8 (Project exprs) = list_all has_utf8_texts exprs
has_utf8 _ = true

-- the same of a node
abbrev pub has_utf8_texts_in : Node → Bool
has_utf8_texts_in node = has_utf8 node.op

-- ---- nodes

-- one node as input
abbrev pub HasOneInput : List ℕ → Type 0
HasOneInput (input ∷ []) = IsTrue (is_u32 input)
HasOneInput _ = ⊥

-- two nodes as inputs
abbrev pub HasTwoInputs : List ℕ → Type 0
HasTwoInputs (left ∷ right ∷ []) = IsTrue (is_u32 left) × IsTrue (is_u32 right)
HasTwoInputs _ = ⊥

-- names, ranges and sizes of an operator and its inputs
abbrev pub IsOpForm : Op → List ℕ → Type 0
IsOpForm (Source table columns) inputs =
    IsTrue (is_name table) × (0 < length columns) × IsShort is_named columns × (inputs ≡ [])
IsOpForm (Filter test) inputs = IsTrue (is_shallow_test test) × HasOneInput inputs
IsOpForm (Project exprs) inputs =
    (0 < length exprs) × IsShort is_shallow_expr exprs × HasOneInput inputs
IsOpForm (Explode column separator) inputs =
    IsTrue (is_u32 column) × (separator < 128) × HasOneInput inputs
IsOpForm Union inputs =
    (LEAST_INPUTS ≤ length inputs) × (length inputs ≤ INPUT_LIMIT)
    × IsTrue (list_all is_u32 inputs)
IsOpForm (Aggregate keys aggs) inputs =
    IsShort is_u32 keys × IsShort is_u32_agg aggs × HasOneInput inputs
IsOpForm Distinct inputs = HasOneInput inputs
IsOpForm (Join kind keys) inputs = IsShort is_u32_pair keys × HasTwoInputs inputs
IsOpForm (Sink name) inputs = IsTrue (is_name name) × HasOneInput inputs

-- whether a node of this operator may spread its rows anew
abbrev pub may_rebalance : Op → Bool
may_rebalance (Filter test) = true
may_rebalance (Project exprs) = true
may_rebalance (Explode column separator) = true
may_rebalance (Sink name) = true
may_rebalance _ = false

-- a node that some JSON value spells
pub record IsNodeForm (node : Node) : Type 0 where
  pub op : IsOpForm node.op node.inputs
  pub texts : IsTrue (has_utf8 node.op)
  pub ship : node.rebalance ≡ true → may_rebalance node.op ≡ true

-- ---- jobs

-- a job that some JSON value spells
pub record IsJobForm (job : Job) : Type 0 where
  pub name : IsTrue (is_name job.name)
  pub most : length job.plan ≤ NODE_LIMIT
  pub nodes : All IsNodeForm job.plan
  pub settings : AreInRange job.settings
