-- What a task reads at the inputs of its head, and what the head gives of it.
use Rattle.std.proofs.Common.{◌≡◌, ℕ, zero, suc, ◌+◌, ◌<◌, ◌≤◌, Bool, true, false, All, List, [], ◌∷◌, ◌++◌, length, map, take, drop, get_or, Option, Some, slice_get, refl, sym, ◌∙◌, ap, subst, arith, if◌then◌else◌}
use Rattle.std.specs.Arc.{arc_value}
use Rattle.std.specs.List.{AllByRecursion}
use Rattle.std.specs.Option.{option_map_or}
use Rattle.std.proofs.lemmas.Bool.{false≢true}
use Rattle.std.proofs.lemmas.List.{append-nil, length-append, length-map}
use Rattle.std.proofs.lemmas.List.Elements.{All-from_recursion, recursion_from_All}
use Rattle.std.proofs.lemmas.Option.{slice_get-get_or, slice_get_within}
use Rattle.bag_laws.specs.Rows.{OneRow as Row}
use Rattle.bag_laws.proofs.Laws.{same_refl}
use Rattle.operator_laws.specs.Texts.{ConstantsFit}
use Rattle.plan_model.specs.Checks.{plan_faults}
use Rattle.plan_model.specs.Nodes.{Alike, HasItsWidth, IsGood, bag_widths}
use Rattle.plan_model.specs.Operators.{is_source}
use Rattle.plan_model.specs.Plans.{Bag, bag_at, bag_of, bags_of}
use Rattle.plan_model.specs.Widths.{input_widths, width_of, widths_of}
use Rattle.plan_model.specs.declared.node.Node.{Node}
use Rattle.plan_model.specs.declared.op.Op.{Op}
use Rattle.plan_model.specs.declared.op.Op.TheVariants.{Source, Filter, Project, Explode, Union, Aggregate, Distinct, Join, Sink}
use Rattle.plan_model.proofs.Laws.{bag_width, bags_widths, good_inputs, narrow, width_here, widths_are}
use Rattle.vertex_builder.specs.Edges.{edges_into, input_edges}
use Rattle.vertex_builder.specs.Vertices.{chain_builds, files_input, head_inputs, head_of, inputs_at, is_source_at, vertex_input}
use Rattle.vertex_builder.specs.declared.edge.Edge.{Edge}
use Rattle.vertex_builder.specs.declared.vertex_input.VertexInput.{VertexInput}
use Rattle.vertex_builder.proofs.Laws.{inputs_of_edges, into_edges}
use Rattle.vertex_laws.specs.VertexRows.{head_bag, head_count, input_bags, no_files, op_at, widths_at}
use Rattle.task_body.specs.Inputs.{ReadsFiles, input_bag, input_rows, rows_read, width_into}
use Rattle.task_body.specs.TaskRows.{task_head, task_inputs}
use Rattle.task_body.specs.declared.task.Task.{Task}
use Rattle.task_body.specs.declared.task_input.TaskInput.{TaskInput}
use Rattle.task_body.proofs.Alike.{good_again}
use Rattle.task_body.proofs.Inputs.{input_fits, reads_none}

-- ---- fronts and rests of lists

take_front : {X : Type 0} (xs ys : List X) → take (length xs) (xs ++ ys) ≡ xs
take_front [] ys = refl
take_front (x ∷ xs) ys = ap (λ (l : List _). x ∷ l) (take_front xs ys)

drop_front : {X : Type 0} (xs ys : List X) → drop (length xs) (xs ++ ys) ≡ ys
drop_front [] ys = refl
drop_front (x ∷ xs) ys = drop_front xs ys

take_map : {X Y : Type 0} (f : X → Y) (n : ℕ) (xs : List X) → map f (take n xs) ≡ take n (map f xs)
take_map f zero xs = refl
take_map f (suc n) [] = refl
take_map f (suc n) (x ∷ xs) = ap (λ (l : List _). f x ∷ l) (take_map f n xs)

drop_map : {X Y : Type 0} (f : X → Y) (n : ℕ) (xs : List X) → map f (drop n xs) ≡ drop n (map f xs)
drop_map f zero xs = refl
drop_map f (suc n) [] = refl
drop_map f (suc n) (x ∷ xs) = drop_map f n xs

abbrev pub wide_of : TaskInput → ℕ
wide_of input = input.width

-- ---- widths

narrow_at : (ws : List ℕ) → AllByRecursion (λ n. n ≤ 256) ws → (k : ℕ) → get_or ws k 0 ≤ 256
narrow_at [] all k = omega arith
narrow_at (w ∷ ws) all zero = all.0
narrow_at (w ∷ ws) all (suc k) = narrow_at ws all.1 k

pub node_narrow : (nodes : List Node) → plan_faults nodes ≡ [] → (node : ℕ) → get_or (widths_of nodes) node 0 ≤ 256
node_narrow nodes good node = narrow_at (widths_of nodes) (recursion_from_All (λ n. n ≤ 256) (widths_of nodes) (narrow nodes good)) node

-- an operator of a plan is good on bags of the widths of its inputs
pub good_on : (nodes : List Node) → plan_faults nodes ≡ [] → (place : ℕ) (it : Node) → slice_get nodes place ≡ Some it → (inputs : List Bag)
    → bag_widths inputs ≡ input_widths (widths_of nodes) it.inputs → All HasItsWidth inputs → IsGood it.op inputs
good_on nodes good place it at inputs same wide =
    let bags = bags_of no_files nodes in
    good_again it.op (map (bag_at bags) it.inputs) inputs (good_inputs no_files nodes place it good at)
    (same ∙ sym (widths_are bags it.inputs ∙ ap (λ (ws : List ℕ). input_widths ws it.inputs) (bags_widths no_files nodes))) wide

-- and what it gives has its width
pub width_on : (nodes : List Node) → plan_faults nodes ≡ [] → (place : ℕ) (it : Node) → slice_get nodes place ≡ Some it → (inputs : List Bag)
    → bag_widths inputs ≡ input_widths (widths_of nodes) it.inputs → (bag_of no_files it.op inputs).width ≡ get_or (widths_of nodes) place 0
width_on nodes good place it at inputs same =
    bag_width no_files it.op inputs ∙ ap (width_of it.op) same ∙ sym (width_here nodes place it good at)

pub op_is : (nodes : List Node) (place : ℕ) (it : Node) → slice_get nodes place ≡ Some it → op_at nodes place ≡ it.op
op_is nodes place it at = ap (λ (o : Option Node). option_map_or (λ n. n.op) o Union) at

pub inputs_are : (nodes : List Node) (place : ℕ) (it : Node) → slice_get nodes place ≡ Some it → inputs_at nodes place ≡ it.inputs
inputs_are nodes place it at = ap (λ (o : Option Node). option_map_or (λ n. n.inputs) o []) at

-- ---- what is read

module _ (nodes : List Node) where
  none_read : (ats : List VertexInput) → rows_read nodes ats [] ≡ []
  none_read [] = refl
  none_read (at ∷ ats) = refl

  read_take : (n : ℕ) (ats : List VertexInput) (inputs : List TaskInput) → take n (rows_read nodes ats inputs) ≡ rows_read nodes (take n ats) (take n inputs)
  read_take zero ats inputs = refl
  read_take (suc n) [] inputs = refl
  read_take (suc n) (at ∷ ats) [] = refl
  read_take (suc n) (at ∷ ats) (input ∷ inputs) = ap (λ (l : List (List Row)). input_rows (op_at nodes at.into) input ∷ l) (read_take n ats inputs)

  pub read_drop : (n : ℕ) (ats : List VertexInput) (inputs : List TaskInput) → drop n (rows_read nodes ats inputs) ≡ rows_read nodes (drop n ats) (drop n inputs)
  read_drop zero ats inputs = refl
  read_drop (suc n) [] inputs = refl
  read_drop (suc n) (at ∷ ats) [] = sym (none_read (drop n ats))
  read_drop (suc n) (at ∷ ats) (input ∷ inputs) = read_drop n ats inputs

  read_into : (head : ℕ) (ats : List VertexInput) (inputs : List TaskInput) → AllByRecursion (λ at. at.into ≡ head) ats → length inputs ≡ length ats
      → rows_read nodes ats inputs ≡ map (input_rows (op_at nodes head)) inputs
  read_into head [] [] into long = refl
  read_into head [] (input ∷ inputs) into long = absurd (omega (arith, long))
  read_into head (at ∷ ats) [] into long = absurd (omega (arith, long))
  read_into head (at ∷ ats) (input ∷ inputs) into long =
      λ i. input_rows (op_at nodes (into.0 i)) input ∷ read_into head ats inputs into.1 (omega (arith, long)) i

  -- the inputs of a head lead into it
  into_head : (head : ℕ) → AllByRecursion (λ at. at.into ≡ head) (head_inputs nodes head)
  into_head head = by (is_source_at nodes head)
    where
      each : (edges : List Edge) → AllByRecursion (λ edge. edge.into ≡ head) edges → AllByRecursion (λ (at : VertexInput). at.into ≡ head) (map (vertex_input nodes) edges)
      each [] into = tt
      each (edge ∷ edges) into = (into.0, each edges into.1)

      by : (b : Bool) → AllByRecursion (λ (at : VertexInput). at.into ≡ head) (if b then files_input head ∷ [] else map (vertex_input nodes) (input_edges nodes head))
      by true = (refl, tt)
      by false = each (input_edges nodes head) (recursion_from_All (λ edge. edge.into ≡ head) (input_edges nodes head) (into_edges nodes head))

  edge_widths : (head place : ℕ) (ins : List ℕ) → map (width_into nodes) (map (vertex_input nodes) (edges_into head place ins)) ≡ input_widths (widths_of nodes) ins
  edge_widths head place [] = refl
  edge_widths head place (i ∷ ins) = ap (λ (l : List ℕ). get_or (widths_of nodes) i 0 ∷ l) (edge_widths head (place + 1) ins)

bags_read : (op : Op) (inputs : List TaskInput) → input_bags (map wide_of inputs) (map (input_rows op) inputs) ≡ map (input_bag op) inputs
bags_read op [] = refl
bags_read op (input ∷ inputs) = ap (λ (l : List Bag). input_bag op input ∷ l) (bags_read op inputs)

bag_widths_read : (op : Op) (inputs : List TaskInput) → bag_widths (map (input_bag op) inputs) ≡ map wide_of inputs
bag_widths_read op [] = refl
bag_widths_read op (input ∷ inputs) = ap (λ (l : List ℕ). input.width ∷ l) (bag_widths_read op inputs)

inputs_fit : (op : Op) → is_source op ≡ false → (inputs : List TaskInput) → AllByRecursion (λ n. n ≤ 256) (map wide_of inputs) → AllByRecursion HasItsWidth (map (input_bag op) inputs)
inputs_fit op other [] narrow = tt
inputs_fit op other (input ∷ inputs) narrow = ((input_fits op input (reads_none op input.width other) narrow.0).wide, inputs_fit op other inputs narrow.1)

all_narrow : (nodes : List Node) → plan_faults nodes ≡ [] → (ins : List ℕ) → AllByRecursion (λ n. n ≤ 256) (input_widths (widths_of nodes) ins)
all_narrow nodes good [] = tt
all_narrow nodes good (i ∷ ins) = (node_narrow nodes good i, all_narrow nodes good ins)

from_files : (op : Op) (inputs : List Bag) → is_source op ≡ false → head_bag op inputs ≡ bag_of no_files op inputs
from_files (Source table columns) inputs other = absurd (false≢true (sym other))
from_files (Filter test) inputs other = refl
from_files (Project exprs) inputs other = refl
from_files (Explode column separator) inputs other = refl
from_files Union inputs other = refl
from_files (Aggregate keys aggs) inputs other = refl
from_files Distinct inputs other = refl
from_files (Join kind keys) inputs other = refl
from_files (Sink name) inputs other = refl

-- ---- of a task

blank : Node
blank = record { op = Union; inputs = []; rebalance = false }

module _ (task : Task) where
  abbrev nodes : List Node
  nodes = arc_value task.plan

  abbrev head : ℕ
  head = head_of task.vertex

  abbrev op : Op
  op = op_at nodes head

  abbrev count : ℕ
  count = head_count nodes task.vertex

  abbrev heads : List TaskInput
  heads = take count task.inputs.items

  abbrev ats : List VertexInput
  ats = head_inputs nodes head

  abbrev behind : List VertexInput
  behind = map (vertex_input nodes) (chain_builds nodes task.widened task.vertex.nodes)

  head_node : slice_get nodes head ≡ Some (get_or nodes head blank)
  head_node = slice_get-get_or nodes head blank task.within

  take_ats : take count task.vertex.inputs ≡ ats
  take_ats = ap (take count) task.is.inputs ∙ take_front ats behind

  pub drop_ats : drop count task.vertex.inputs ≡ behind
  drop_ats = ap (drop count) task.is.inputs ∙ drop_front ats behind

  head_widths : map wide_of heads ≡ map (width_into nodes) ats
  head_widths =
      take_map wide_of count task.inputs.items ∙ ap (take count) task.widths ∙ sym (take_map (width_into nodes) count task.vertex.inputs)
      ∙ ap (map (width_into nodes)) take_ats

  pub build_widths : map wide_of (drop count task.inputs.items) ≡ map (width_into nodes) behind
  build_widths =
      drop_map wide_of count task.inputs.items ∙ ap (drop count) task.widths ∙ sym (drop_map (width_into nodes) count task.vertex.inputs)
      ∙ ap (map (width_into nodes)) drop_ats

  pub heads_long : length heads ≡ count
  heads_long = sym (length-map heads wide_of) ∙ ap length head_widths ∙ length-map ats (width_into nodes)

  pub count_within : count ≤ length task.inputs.items
  count_within =
      let inputs = length-map task.inputs.items wide_of in
      let come = length-map task.vertex.inputs (width_into nodes) in
      let same = ap length task.widths in
      let parts = ap length task.is.inputs ∙ length-append ats behind in
      omega arith

  read_heads : take count (task_inputs task) ≡ map (input_rows op) heads
  read_heads =
      read_take nodes count task.vertex.inputs task.inputs.items ∙ ap (λ (l : List VertexInput). rows_read nodes l heads) take_ats
      ∙ read_into nodes head ats heads (into_head nodes head) heads_long

  -- the chain begins with the head
  pub chain_some : 0 < length task.vertex.nodes
  chain_some = slice_get_within task.vertex.nodes 0 head task.is.chain.first

  pub head_constants : ConstantsFit op
  head_constants = task.constants 0 0 chain_some

  -- ---- a head that is no source

  module _ (other : is_source op ≡ false) where
    plain : is_source (get_or nodes head blank).op ≡ false
    plain = ap is_source (sym (op_is nodes head (get_or nodes head blank) head_node)) ∙ other

    abbrev ins : List ℕ
    ins = (get_or nodes head blank).inputs

    widths_come : map wide_of heads ≡ input_widths (widths_of nodes) ins
    widths_come =
        head_widths ∙ ap (map (width_into nodes)) (inputs_of_edges nodes head (get_or nodes head blank) head_node plain)
        ∙ edge_widths nodes head 0 (get_or nodes head blank).inputs

    pub head_is : task_head task ≡ bag_of no_files op (map (input_bag op) heads)
    head_is =
        let at = ap (λ (l : List ℕ). input_widths (widths_of nodes) l) (inputs_are nodes head (get_or nodes head blank) head_node) in
        ap (λ (rows : List (List Row)). head_bag op (input_bags (widths_at nodes head) rows)) read_heads
        ∙ ap (λ (ws : List ℕ). head_bag op (input_bags ws (map (input_rows op) heads))) (at ∙ sym widths_come)
        ∙ ap (head_bag op) (bags_read op heads)
        ∙ from_files op (map (input_bag op) heads) other

    same_widths : bag_widths (map (input_bag op) heads) ≡ input_widths (widths_of nodes) (get_or nodes head blank).inputs
    same_widths = bag_widths_read op heads ∙ widths_come

    pub head_good : IsGood op (map (input_bag op) heads)
    head_good =
        let narrow = subst (AllByRecursion (λ n. n ≤ 256)) (sym widths_come) (all_narrow nodes task.faultless (get_or nodes head blank).inputs) in
        subst (λ (o : Op). IsGood o (map (input_bag op) heads)) (sym (op_is nodes head (get_or nodes head blank) head_node))
        (good_on nodes task.faultless head (get_or nodes head blank) head_node (map (input_bag op) heads) same_widths
        (All-from_recursion HasItsWidth (map (input_bag op) heads) (inputs_fit op other heads narrow)))

    plain_width : (task_head task).width ≡ get_or (widths_of nodes) head 0
    plain_width =
        ap (λ (bag : Bag). bag.width) head_is
        ∙ ap (λ (o : Op). (bag_of no_files o (map (input_bag op) heads)).width) (op_is nodes head (get_or nodes head blank) head_node)
        ∙ width_on nodes task.faultless head (get_or nodes head blank) head_node (map (input_bag op) heads) same_widths

  -- ---- a source

  module _ (source : is_source op ≡ true) where
    one_file : ats ≡ files_input head ∷ []
    one_file =
        ap (λ (b : Bool). if b then files_input head ∷ [] else map (vertex_input nodes) (input_edges nodes head))
        (ap (λ (o : Option Node). option_map_or (λ n. is_source n.op) o false) head_node ∙ ap is_source (sym (op_is nodes head (get_or nodes head blank) head_node)) ∙ source)

    pub one_head : length heads ≡ 1
    one_head = heads_long ∙ ap length one_file

    pub file_width : map wide_of heads ≡ get_or (widths_of nodes) head 0 ∷ []
    file_width = head_widths ∙ ap (map (width_into nodes)) one_file

  source_width : (o : Op) → op ≡ o → (width : ℕ) → width ≡ get_or (widths_of nodes) head 0 → ReadsFiles o width
  source_width (Source table columns) is width same =
      let at = head_node in
      same ∙ width_here nodes head (get_or nodes head blank) task.faultless at
      ∙ ap (λ (o : Op). width_of o (input_widths (widths_of nodes) (get_or nodes head blank).inputs)) (sym (op_is nodes head (get_or nodes head blank) at) ∙ is)
  source_width (Filter test) is width same = tt
  source_width (Project exprs) is width same = tt
  source_width (Explode column separator) is width same = tt
  source_width Union is width same = tt
  source_width (Aggregate keys aggs) is width same = tt
  source_width Distinct is width same = tt
  source_width (Join kind keys) is width same = tt
  source_width (Sink name) is width same = tt

  -- what a source reads of its one input
  pub record ReadsOne (input : TaskInput) : Type 0 where
    pub files : ReadsFiles op input.width
    pub narrow : input.width ≤ 256
    pub given : (batch : Bag) → Alike batch (input_bag op input) → Alike batch (task_head task)

  source_rows : (o : Op) → is_source o ≡ true → (ws : List ℕ) (input : TaskInput) → ReadsFiles o input.width → head_bag o (input_bags ws (input_rows o input ∷ [])) ≡ input_bag o input
  source_rows (Source table columns) e [] input reads = λ i. record { width = sym reads i; rows = append-nil (input_rows (Source table columns) input) i }
  source_rows (Source table columns) e (w ∷ ws) input reads = λ i. record { width = sym reads i; rows = append-nil (input_rows (Source table columns) input) i }
  source_rows (Filter test) e ws input reads = absurd (false≢true e)
  source_rows (Project exprs) e ws input reads = absurd (false≢true e)
  source_rows (Explode column separator) e ws input reads = absurd (false≢true e)
  source_rows Union e ws input reads = absurd (false≢true e)
  source_rows (Aggregate keys aggs) e ws input reads = absurd (false≢true e)
  source_rows Distinct e ws input reads = absurd (false≢true e)
  source_rows (Join kind keys) e ws input reads = absurd (false≢true e)
  source_rows (Sink name) e ws input reads = absurd (false≢true e)

  pub reads_one : is_source op ≡ true → (input : TaskInput) → heads ≡ input ∷ [] → ReadsOne input
  reads_one source input one =
      let width : input.width ≡ get_or (widths_of nodes) head 0 = ap (λ (l : List ℕ). get_or l 0 0) (sym (ap (map wide_of) one) ∙ file_width source) in
      let files = source_width op refl input.width width in
      let rows = read_heads ∙ ap (map (input_rows op)) one in
      let is : task_head task ≡ input_bag op input = ap (λ (l : List (List Row)). head_bag op (input_bags (widths_at nodes head) l)) rows ∙ source_rows op source (widths_at nodes head) input files in
      record {
        files = files;
        narrow = subst (λ (n : ℕ). n ≤ 256) (sym width) (node_narrow nodes task.faultless head);
        given = λ batch same. subst (Alike batch) (sym is) same;
      }

  pub head_width : (task_head task).width ≡ get_or (widths_of nodes) head 0
  head_width = by (is_source op) refl
    where
      on : (source : is_source op ≡ true) (l : List TaskInput) → heads ≡ l → length l ≡ 1 → (task_head task).width ≡ get_or (widths_of nodes) head 0
      on source [] is long = absurd (omega (arith, long))
      on source (input ∷ []) is long =
          sym ((reads_one source input is).given (input_bag op input) (record { width = refl; rows = same_refl (input_rows op input) })).width
          ∙ ap (λ (l : List ℕ). get_or l 0 0) (sym (ap (map wide_of) is) ∙ file_width source)
      on source (input ∷ more ∷ l) is long = absurd (omega (arith, long))

      by : (b : Bool) → is_source op ≡ b → (task_head task).width ≡ get_or (widths_of nodes) head 0
      by true source = on source heads refl (one_head source)
      by false other = plain_width other
