-- What running a node does, beside the bags of the definition.
use Rattle.std.specs.Prelude.{◌≡◌, ℕ, ◌<◌, nat_lt, Bool, not, List, ◌++◌, length, map, get_or, All, IsTrue}
use Rattle.row_core.specs.Bags.{SameBag}
use Rattle.row_core.specs.declared.value.Value.{Value}
use Rattle.plan_model.specs.Nodes.{IsGood, bag_widths}
use Rattle.plan_model.specs.Operators.{is_sink}
use Rattle.plan_model.specs.Plans.{Bag, bag_at, bag_of, sink_section}
use Rattle.plan_model.specs.Widths.{width_of}
use Rattle.plan_model.specs.declared.op.Op.{Op}
use Rattle.plan_eval.specs.declared.evaluation.Evaluation.{Evaluation}

abbrev pub bag_with : ℕ → List (List Value) → Bag
bag_with width rows = record { width = width; rows = rows }

-- all widths stay, and the bags at the places that are kept
pub record Stays (kept : ℕ → Type 0) (old new : List Bag) : Type 0 where
  pub widths : bag_widths new ≡ bag_widths old
  pub rows : (place : ℕ) → kept place → SameBag (bag_at new place).rows (bag_at old place).rows

-- the bags of these inputs
abbrev pub inputs_in : Evaluation → List ℕ → List Bag
inputs_in e inputs = map (bag_at e.outputs.items) inputs

-- some node behind the next one takes the rows at this place
abbrev pub is_taken_later : Evaluation → ℕ → Bool
is_taken_later e place = nat_lt (length e.outputs.items) (get_or e.last.items place 0)

-- the bag is what the operator gives on these inputs; that of a sink is left open
pub record IsOutput (files : List ℕ → List (List ℕ)) (op : Op) (inputs : List Bag) (bag : Bag) : Type 0 where
  pub width : bag.width ≡ width_of op (bag_widths inputs)
  pub rows : IsTrue (not (is_sink op)) → SameBag bag.rows (bag_of files op inputs).rows

-- the operator may run on these inputs
pub record MayRun (op : Op) (inputs : List ℕ) (e : Evaluation) : Type 0 where
  pub earlier : All (λ input. input < length e.outputs.items) inputs
  pub good : IsGood op (inputs_in e inputs)

-- the bags that are taken later stay
pub record Keeps (old new : Evaluation) : Type 0 where
  pub outputs : Stays (λ place. IsTrue (is_taken_later old place)) old.outputs.items new.outputs.items
  pub last : new.last.items ≡ old.last.items

-- the operator has run on these inputs and gives the bag
pub record HasRun (files : List ℕ → List (List ℕ)) (op : Op) (inputs : List ℕ) (old new : Evaluation) (bag : Bag) : Type 0 where
  pub output : IsOutput files op (inputs_in old inputs) bag
  pub kept : Keeps old new
  pub text : new.text ≡ old.text ++ sink_section op (bag_at (inputs_in old inputs) 0)
