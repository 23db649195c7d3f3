-- The laws of plans and settings, for proofs of the crates above. Those of plans are contracts as well, in src/node_laws.
use Rattle.std.proofs.Common.{◌≡◌, ℕ, ◌+◌, ◌<◌, ◌≤◌, All, IsTrue, List, [], ◌∷◌, ◌++◌, length, map, get_or, take, Some, slice_get, slice_index_or, refl}
use Rattle.std.proofs.lemmas.Option.{slice_get_read}
use Rattle.plan_model.specs.Checks.{plan_faults, gives_rows, node_kinds}
use Rattle.plan_model.specs.Nodes.{HasItsWidth, IsGood, IsGoodNode, bag_widths, widths_into}
use Rattle.plan_model.specs.Operators.{takes_one}
use Rattle.plan_model.specs.Plans.{Bag, bag_at, bag_of, bags_of}
use Rattle.plan_model.specs.Settings.{AreInRange, IsInRange, default_values, is_within, with_value}
use Rattle.plan_model.specs.Widths.{width_of, widths_of, input_widths}
use Rattle.plan_model.specs.declared.node.Node.{Node}
use Rattle.plan_model.specs.declared.op.Op.{Op}
use Rattle.plan_model.specs.declared.setting.Setting.{Setting}
use Rattle.plan_model.specs.declared.setting_values.SettingValues.{SettingValues}
use Rattle.plan_model.proofs.GoodNodes as nodes
use Rattle.plan_model.proofs.NodeWidths as widths
use Rattle.plan_model.proofs.NodeBags as bags
use Rattle.plan_model.proofs.RowWidths as rows
use Rattle.plan_model.proofs.SettingRanges as ranges

-- the node that a loop over the nodes reads at a place
pub node_read : (all : List Node) (place : ℕ) (node : Node) → place < length all → node ≡ slice_index_or all place node → slice_get all place ≡ Some node
node_read all place node lt is = slice_get_read all (length all) place node refl lt is

-- ---- a plan without a fault

pub no_kinds : (all : List Node) (place : ℕ) (node : Node) → plan_faults all ≡ [] → slice_get all place ≡ Some node → node_kinds (take place all) node ≡ []
no_kinds = nodes.none_at

pub good_node : (all : List Node) (place : ℕ) (node : Node) → plan_faults all ≡ [] → slice_get all place ≡ Some node → IsGoodNode (take place all) node
good_node = nodes.good_at

pub inputs_earlier : (all : List Node) (place : ℕ) (node : Node) → plan_faults all ≡ [] → slice_get all place ≡ Some node → All (λ input. input < place) node.inputs
inputs_earlier = nodes.earlier_at

pub few_inputs : (all : List Node) (place : ℕ) (node : Node) → plan_faults all ≡ [] → slice_get all place ≡ Some node → length node.inputs ≤ 64
few_inputs = nodes.few_at

pub one_input : (all : List Node) (place : ℕ) (node : Node) → plan_faults all ≡ [] → slice_get all place ≡ Some node → IsTrue (takes_one node.op) → length node.inputs ≡ 1
one_input = nodes.one_at

pub width_here : (all : List Node) (place : ℕ) (node : Node) → plan_faults all ≡ [] → slice_get all place ≡ Some node
    → get_or (widths_of all) place 0 ≡ width_of node.op (input_widths (widths_of all) node.inputs)
width_here = widths.width_here

pub widths_here : (all : List Node) (place : ℕ) (node : Node) → plan_faults all ≡ [] → slice_get all place ≡ Some node
    → widths_into (take place all) node ≡ input_widths (widths_of all) node.inputs
widths_here = widths.inputs_are

pub narrow : (all : List Node) → plan_faults all ≡ [] → All (λ width. width ≤ 256) (widths_of all)
narrow = widths.narrow_all

pub bag_here : (files : List ℕ → List (List ℕ)) (all : List Node) (place : ℕ) (node : Node) → plan_faults all ≡ [] → slice_get all place ≡ Some node
    → bag_at (bags_of files all) place ≡ bag_of files node.op (map (bag_at (bags_of files all)) node.inputs)
bag_here files all place node faultless at = bags.bag_here files all faultless place node at

pub good_inputs : (files : List ℕ → List (List ℕ)) (all : List Node) (place : ℕ) (node : Node) → plan_faults all ≡ [] → slice_get all place ≡ Some node
    → IsGood node.op (map (bag_at (bags_of files all)) node.inputs)
good_inputs files all place node faultless at = bags.good_here files all faultless place node at

pub all_wide : (files : List ℕ → List (List ℕ)) (all : List Node) → plan_faults all ≡ [] → All HasItsWidth (bags_of files all)
all_wide = bags.all_wide

-- ---- any nodes

pub gives_within : (before : List Node) (place : ℕ) → IsTrue (gives_rows before place) → place < length before
gives_within = nodes.gives_within

pub widths_long : (all : List Node) → length (widths_of all) ≡ length all
widths_long = widths.one_each

pub widths_next : (before : List Node) (node : Node) → widths_of (before ++ node ∷ []) ≡ widths_of before ++ width_of node.op (widths_into before node) ∷ []
widths_next = widths.widths_of-more

pub widths_of-next : (all : List Node) (k : ℕ) (node : Node) → k < length all → node ≡ slice_index_or all k node
    → widths_of (take (k + 1) all) ≡ widths_of (take k all) ++ width_of node.op (widths_into (take k all) node) ∷ []
widths_of-next = widths.widths_of-next

pub bags_long : (files : List ℕ → List (List ℕ)) (all : List Node) → length (bags_of files all) ≡ length all
bags_long = bags.one_bag_each

pub bags_next : (files : List ℕ → List (List ℕ)) (before : List Node) (node : Node)
    → bags_of files (before ++ node ∷ []) ≡ bags_of files before ++ bag_of files node.op (map (bag_at (bags_of files before)) node.inputs) ∷ []
bags_next = bags.bags_of-more

pub bags_widths : (files : List ℕ → List (List ℕ)) (all : List Node) → bag_widths (bags_of files all) ≡ widths_of all
bags_widths = bags.widths_of_bags

-- ---- lists of bags that grow by one

pub old_at : (all : List Bag) (bag : Bag) (place : ℕ) → place < length all → bag_at (all ++ bag ∷ []) place ≡ bag_at all place
old_at = bags.old_at

pub new_at : (all : List Bag) (bag : Bag) (place : ℕ) → place ≡ length all → bag_at (all ++ bag ∷ []) place ≡ bag
new_at = bags.new_at

-- ---- operators on bags

pub width_at : (inputs : List Bag) (place : ℕ) → (bag_at inputs place).width ≡ get_or (bag_widths inputs) place 0
width_at = rows.width_at

pub wide_at : (inputs : List Bag) → All HasItsWidth inputs → (place : ℕ) → HasItsWidth (bag_at inputs place)
wide_at = rows.wide_at

pub widths_are : (all : List Bag) (inputs : List ℕ) → bag_widths (map (bag_at all) inputs) ≡ input_widths (bag_widths all) inputs
widths_are = bags.widths_are

pub bag_width : (files : List ℕ → List (List ℕ)) (op : Op) (inputs : List Bag) → (bag_of files op inputs).width ≡ width_of op (bag_widths inputs)
bag_width = rows.bag_width

pub bag_wide : (files : List ℕ → List (List ℕ)) (op : Op) (inputs : List Bag) → IsGood op inputs → HasItsWidth (bag_of files op inputs)
bag_wide = rows.bag_wide

-- ---- settings

pub is_within_range : (v : SettingValues) (setting : Setting) (n : ℕ) → IsInRange v setting n → IsTrue (is_within v setting n)
is_within_range = ranges.is_within_range

pub in_range_with : (v : SettingValues) (setting : Setting) (n : ℕ) → AreInRange v → IsTrue (is_within v setting n) → AreInRange (with_value v setting n)
in_range_with = ranges.in_range_with

pub defaults_in_range : AreInRange default_values
defaults_in_range = ranges.defaults_in_range
