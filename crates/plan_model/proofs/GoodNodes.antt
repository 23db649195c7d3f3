-- In a plan without a fault nothing is wrong with any node.
use Rattle.std.proofs.Common.{◌≡◌, ℕ, zero, suc, ◌<◌, ◌≤◌, Bool, true, false, not, ◌&&◌, ◌||◌, nat_le, leb-true, All, List, [], ◌∷◌, ◌++◌, length, map, take, Some, slice_get, slice_index_or, refl, sym, ◌∙◌, ap, subst, append_assoc, arith, length-take-le}
use Rattle.std.specs.List.{list_all}
use Rattle.std.proofs.lemmas.Bool.{false≢true}
use Rattle.std.proofs.lemmas.Bool.Decides.{nat_tests}
use Rattle.std.proofs.lemmas.List.{append-nil}
use Rattle.std.proofs.lemmas.List.Sums.{AllPass-from_list_all}
use Rattle.std.proofs.lemmas.Option.{slice_get_within, get_or_from_slice_get}
use Rattle.plan_model.specs.Checks.{plan_faults, told_at, node_kinds, unless, takes, has_keys, columns_fit, widths_agree, gives_rows, no_sink_faults, dangling_kinds, same_sink_kinds}
use Rattle.plan_model.specs.Nodes.{IsGoodNode, widths_into}
use Rattle.plan_model.specs.Operators.{may_rebalance, takes_one}
use Rattle.plan_model.specs.Widths.{width_of}
use Rattle.plan_model.specs.declared.node.Node.{Node}
use Rattle.plan_model.specs.declared.op.Op.{Op}
use Rattle.plan_model.specs.declared.op.Op.TheVariants.{Source, Filter, Project, Explode, Union, Aggregate, Distinct, Join, Sink}
use Rattle.plan_model.specs.declared.plan_kind.PlanKind.{PlanKind}
use Rattle.plan_model.specs.declared.plan_kind.PlanKind.TheVariants.{BadInput, NoKeys, BadShip, BadColumn, BadWidth, TooWide}
use Rattle.plan_model.proofs.Told.{fault_of}

-- ---- empty lists of faults

module _ {X : Type 0} where
  front_empty : (xs ys : List X) → xs ++ ys ≡ [] → xs ≡ []
  front_empty [] ys e = refl
  front_empty (x ∷ xs) ys e = cc

  back_empty : (xs ys : List X) → xs ++ ys ≡ [] → ys ≡ []
  back_empty [] ys e = e
  back_empty (x ∷ xs) ys e = cc

no_kinds : (place : ℕ) (kinds : List PlanKind) → map (fault_of place) kinds ≡ [] → kinds ≡ []
no_kinds place [] e = refl
no_kinds place (kind ∷ kinds) e = cc

-- the six tests of a node, where none of them fails
pub record AllHold (a b c d e f : Bool) : Type 0 where
  pub first : a ≡ true
  pub second : b ≡ true
  pub third : c ≡ true
  pub fourth : d ≡ true
  pub fifth : e ≡ true
  pub sixth : f ≡ true

all_hold : (a b c d e f : Bool) → unless a BadInput ++ unless b NoKeys ++ unless c BadShip ++ unless d BadColumn ++ unless e BadWidth ++ unless f TooWide ≡ [] → AllHold a b c d e f
all_hold true true true true true true none = record { first = refl; second = refl; third = refl; fourth = refl; fifth = refl; sixth = refl }
all_hold false b c d e f none = cc
all_hold true false c d e f none = cc
all_hold true true false d e f none = cc
all_hold true true true false e f none = cc
all_hold true true true true false f none = cc
all_hold true true true true true false none = cc

both_hold : (a b : Bool) → (a && b) ≡ true → (a ≡ true) × (b ≡ true)
both_hold true b e = (refl, e)
both_hold false b e = cc

-- ---- one node

-- what gives rows is a node before
pub gives_within : (before : List Node) (place : ℕ) → gives_rows before place ≡ true → place < length before
gives_within [] place gives = cc
gives_within (node ∷ before) zero gives = omega arith
gives_within (node ∷ before) (suc place) gives = let lt : place < length before = gives_within before place gives in omega (arith, lt)

pub takes_few : (op : Op) (n : ℕ) → takes op n ≡ true → n ≤ 64
takes_few (Source table columns) n e = grind (arith, nat_tests)
takes_few (Filter test) n e = grind (arith, nat_tests)
takes_few (Project exprs) n e = grind (arith, nat_tests)
takes_few (Explode column separator) n e = grind (arith, nat_tests)
takes_few Union n e = grind (arith, nat_tests)
takes_few (Aggregate keys aggs) n e = grind (arith, nat_tests)
takes_few Distinct n e = grind (arith, nat_tests)
takes_few (Join kind keys) n e = grind (arith, nat_tests)
takes_few (Sink name) n e = grind (arith, nat_tests)

pub takes_only_one : (op : Op) (n : ℕ) → takes op n ≡ true → takes_one op ≡ true → n ≡ 1
takes_only_one (Source table columns) n e one = absurd (false≢true one)
takes_only_one (Filter test) n e one = grind (arith, nat_tests)
takes_only_one (Project exprs) n e one = grind (arith, nat_tests)
takes_only_one (Explode column separator) n e one = grind (arith, nat_tests)
takes_only_one Union n e one = absurd (false≢true one)
takes_only_one (Aggregate keys aggs) n e one = grind (arith, nat_tests)
takes_only_one Distinct n e one = grind (arith, nat_tests)
takes_only_one (Join kind keys) n e one = absurd (false≢true one)
takes_only_one (Sink name) n e one = grind (arith, nat_tests)

-- a node of which nothing is told
pub good_of_none : (before : List Node) (node : Node) → node_kinds before node ≡ [] → IsGoodNode before node
good_of_none before node none =
    let widths = widths_into before node in
    let number = takes node.op (length node.inputs) in
    let rows = list_all (gives_rows before) node.inputs in
    let h = all_hold (number && rows) (has_keys node.op) (not node.rebalance || may_rebalance node.op) (columns_fit node.op widths) (widths_agree node.op widths) (nat_le (width_of node.op widths) 256) none in
    let both = both_hold number rows h.first in
    let each = AllPass-from_list_all (gives_rows before) node.inputs both.1 in
    record {
      number = both.0;
      earlier = λ k d lt. gives_within before _ (each k d lt);
      rows = each;
      keys = h.second;
      ship = h.third;
      columns = h.fourth;
      agree = h.fifth;
      narrow = leb-true (width_of node.op widths) 256 h.sixth;
    }

-- ---- the nodes of a plan

-- where nothing is told, nothing is told of each node
none_of_each : (kinds : List Node → Node → List PlanKind) (before nodes : List Node) → told_at kinds before nodes ≡ []
    → (k : ℕ) (node : Node) → slice_get nodes k ≡ Some node → kinds (before ++ take k nodes) node ≡ []
none_of_each kinds before [] e k node at = cc
none_of_each kinds before (first ∷ nodes) e zero node at =
    ap (λ (all : List Node). kinds all node) (append-nil before)
    ∙ ap (kinds before) (sym (get_or_from_slice_get (first ∷ nodes) 0 node node at))
    ∙ no_kinds (length before) (kinds before first) (front_empty (map (fault_of (length before)) (kinds before first)) (told_at kinds (before ++ first ∷ []) nodes) e)
none_of_each kinds before (first ∷ nodes) e (suc k) node at =
    ap (λ (all : List Node). kinds all node) (sym (append_assoc before (first ∷ []) (take k nodes)))
    ∙ none_of_each kinds (before ++ first ∷ []) nodes (back_empty (map (fault_of (length before)) (kinds before first)) (told_at kinds (before ++ first ∷ []) nodes) e) k node at

pub none_at : (nodes : List Node) (place : ℕ) (node : Node) → plan_faults nodes ≡ [] → slice_get nodes place ≡ Some node → node_kinds (take place nodes) node ≡ []
none_at nodes place node faultless at =
    let of_nodes = told_at node_kinds [] nodes in
    let no_sink = no_sink_faults nodes in
    let dangling = told_at (dangling_kinds nodes) [] nodes in
    let none = front_empty of_nodes no_sink (front_empty (of_nodes ++ no_sink) dangling (front_empty (of_nodes ++ no_sink ++ dangling) (told_at same_sink_kinds [] nodes) faultless)) in
    none_of_each node_kinds [] nodes none place node at

pub good_at : (nodes : List Node) (place : ℕ) (node : Node) → plan_faults nodes ≡ [] → slice_get nodes place ≡ Some node → IsGoodNode (take place nodes) node
good_at nodes place node faultless at = good_of_none (take place nodes) node (none_at nodes place node faultless at)

pub long_before : (nodes : List Node) (place : ℕ) (node : Node) → slice_get nodes place ≡ Some node → length (take place nodes) ≡ place
long_before nodes place node at = length-take-le place nodes (let lt = slice_get_within nodes place node at in omega (arith, lt))

pub earlier_at : (nodes : List Node) (place : ℕ) (node : Node) → plan_faults nodes ≡ [] → slice_get nodes place ≡ Some node → All (λ input. input < place) node.inputs
earlier_at nodes place node faultless at =
    subst (λ (n : ℕ). All (λ input. input < n) node.inputs) (long_before nodes place node at) (good_at nodes place node faultless at).earlier

pub few_at : (nodes : List Node) (place : ℕ) (node : Node) → plan_faults nodes ≡ [] → slice_get nodes place ≡ Some node → length node.inputs ≤ 64
few_at nodes place node faultless at = takes_few node.op (length node.inputs) (good_at nodes place node faultless at).number

pub one_at : (nodes : List Node) (place : ℕ) (node : Node) → plan_faults nodes ≡ [] → slice_get nodes place ≡ Some node → takes_one node.op ≡ true → length node.inputs ≡ 1
one_at nodes place node faultless at one = takes_only_one node.op (length node.inputs) (good_at nodes place node faultless at).number one
