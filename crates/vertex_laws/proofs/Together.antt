-- The sum over the subtasks of a cover, and the plan's bag.
use Rattle.std.proofs.Common.{◌≡◌, ℕ, zero, suc, ◌+◌, ◌<◌, nat_eq, Bool, true, false, ◌⊎◌, inl, inr, List, [], ◌∷◌, ◌++◌, length, map, take, drop, get_or, Option, None, Some, slice_get, refl, sym, ◌∙◌, ap, subst, arith, if◌then◌else◌}
use Rattle.std.specs.List.{filter_map, flat_map, AllZip}
use Rattle.std.specs.Option.{option_map_or}
use Rattle.std.proofs.lemmas.Bool.{false≢true}
use Rattle.std.proofs.lemmas.Bool.Decides.{nat_tests}
use Rattle.std.proofs.lemmas.List.{length-map}
use Rattle.std.proofs.lemmas.Option.{none-some, slice_get-get_or}
use Rattle.row_core.specs.Bags.{SameBag}
use Rattle.bag_laws.specs.Rows.{OneRow as Row}
use Rattle.plan_model.specs.Checks.{plan_faults, takes}
use Rattle.plan_model.specs.Operators.{is_source, may_rebalance}
use Rattle.bag_laws.proofs.Laws.{same_each, same_on, same_sym}
use Rattle.plan_model.specs.Nodes.{bag_widths}
use Rattle.plan_model.specs.Plans.{Bag, bag_at, bag_of, bags_of}
use Rattle.plan_model.specs.Widths.{width_of}
use Rattle.plan_model.specs.declared.side.Side.{Side}
use Rattle.plan_model.specs.declared.node.Node.{Node}
use Rattle.plan_model.specs.declared.op.Op.{Op}
use Rattle.plan_model.specs.declared.op.Op.TheVariants.{Source, Filter, Project, Explode, Union, Aggregate, Distinct, Join, Sink}
use Rattle.plan_model.proofs.Laws.{bag_width, good_node}
use Rattle.rect_cover.specs.declared.shape_kind.ShapeKind.{ShapeKind}
use Rattle.rect_cover.specs.Cells.{Reads, Input, read_of, rows_of, whole}
use Rattle.rect_cover.specs.Chains.{chained}
use Rattle.rect_cover.specs.Covers.{IsCover}
use Rattle.rect_cover.specs.Laws.{VertexLaw}
use Rattle.rect_cover.specs.Vertices.{grids_of, head_rows, linked, readings, wholes}
use Rattle.vertex_builder.specs.Chains.{IsChain, TakesAfter, TakesProbe, TakesRows}
use Rattle.vertex_builder.specs.Edges.{build_side, edges_into}
use Rattle.vertex_builder.specs.Vertices.{build_edge, files_input, head_of, last_in, last_of, vertex_input, head_inputs, IsVertex}
use Rattle.vertex_builder.specs.declared.vertex.Vertex.{Vertex}
use Rattle.vertex_builder.specs.declared.vertex_input.VertexInput.{VertexInput}
use Rattle.vertex_builder.specs.declared.widening.Widening.{Widening}
use Rattle.vertex_builder.proofs.Laws.{inputs_of_edges, takes_after}
use Rattle.vertex_laws.specs.Inputs.{AreShipped, HoldBags, HoldsBag, IsShipped}
use Rattle.vertex_laws.specs.VertexRows.{MayRepeat, chain_bag, head_bag, input_bags, no_files, op_at, vertex_rows, vertex_shape, widths_at}
use Rattle.vertex_laws.proofs.ChainRows.{AllSuit, BuiltByBags, ChainsByBags, Suits, chain_same, links_by_bags, links_of}
use Rattle.vertex_laws.proofs.HeadRows.{JoinsAreHeads, head_is, head_kind, op_head, reads}
use Rattle.vertex_laws.proofs.Placed.{HeadLaws, placed}
use Rattle.vertex_laws.proofs.PlanBags.{begins, chain_alike, head_alike, op_is, rest_of_chain}

-- ---- how many inputs are read

same_number : (m n : ℕ) → nat_eq m n ≡ true → m ≡ n
same_number m n e = grind (arith, nat_tests)

module _ {A B : Type 0} (R : A → B → Type 0) where
  zip_long : (xs : List A) (ys : List B) → AllZip R xs ys → length ys ≡ length xs
  zip_long [] [] all = refl
  zip_long [] (y ∷ ys) all = absurd all
  zip_long (x ∷ xs) [] all = absurd all
  zip_long (x ∷ xs) (y ∷ ys) all = ap suc (zip_long xs ys all.1)

edges_long : (nodes : List Node) (node place : ℕ) (inputs : List ℕ) → length (map (vertex_input nodes) (edges_into node place inputs)) ≡ length inputs
edges_long nodes node place [] = refl
edges_long nodes node place (input ∷ inputs) = ap suc (edges_long nodes node (place + 1) inputs)

readings_long : (inputs : List Input) (first : ℕ) (subtask : Reads) → length (readings inputs first subtask) ≡ length inputs
readings_long [] first subtask = refl
readings_long (input ∷ inputs) first subtask = ap suc (readings_long inputs (suc first) subtask)

reads_other : (op : Op) (n : ℕ) → is_source op ≡ false → takes op n ≡ true → reads op n ≡ true
reads_other (Source table columns) n other e = absurd (false≢true (sym other))
reads_other (Filter test) n other e = e
reads_other (Project exprs) n other e = e
reads_other (Explode column separator) n other e = e
reads_other Union n other e = e
reads_other (Aggregate keys aggs) n other e = e
reads_other Distinct n other e = e
reads_other (Join kind keys) n other e = e
reads_other (Sink name) n other e = e

reads_source : (op : Op) → is_source op ≡ true → reads op 1 ≡ true
reads_source (Source table columns) e = refl
reads_source (Filter test) e = absurd (false≢true e)
reads_source (Project exprs) e = absurd (false≢true e)
reads_source (Explode column separator) e = absurd (false≢true e)
reads_source Union e = absurd (false≢true e)
reads_source (Aggregate keys aggs) e = absurd (false≢true e)
reads_source Distinct e = absurd (false≢true e)
reads_source (Join kind keys) e = absurd (false≢true e)
reads_source (Sink name) e = absurd (false≢true e)

module _ (nodes : List Node) (head : ℕ) (node : Node) (good : plan_faults nodes ≡ []) (at : slice_get nodes head ≡ Some node) where
  source_inputs : is_source node.op ≡ true → head_inputs nodes head ≡ files_input head ∷ []
  source_inputs is =
      ap (λ (o : Option Node). if option_map_or (λ n. is_source n.op) o false then files_input head ∷ [] else map (vertex_input nodes) (option_map_or (λ n. edges_into head 0 n.inputs) o [])) at
      ∙ ap (λ (b : Bool). if b then files_input head ∷ [] else map (vertex_input nodes) (edges_into head 0 node.inputs)) is

  reads_all : reads node.op (length (head_inputs nodes head)) ≡ true
  reads_all = by (is_source node.op) refl
    where
      by : (b : Bool) → is_source node.op ≡ b → reads node.op (length (head_inputs nodes head)) ≡ true
      by true is = ap (λ (ins : List VertexInput). reads node.op (length ins)) (source_inputs is) ∙ reads_source node.op is
      by false is =
          ap (λ (ins : List VertexInput). reads node.op (length ins)) (inputs_of_edges nodes head node at is)
          ∙ ap (reads node.op) (edges_long nodes head 0 node.inputs)
          ∙ reads_other node.op (length node.inputs) is (good_node nodes head node good at).number

-- ---- inputs of the head, and build sides

module _ {A B : Type 0} (R : A → B → Type 0) where
  zip_front : (xs more : List A) (ys : List B) → AllZip R (xs ++ more) ys → AllZip R xs (take (length xs) ys)
  zip_front [] more ys all = tt
  zip_front (x ∷ xs) more [] all = absurd all
  zip_front (x ∷ xs) more (y ∷ ys) all = (all.0, zip_front xs more ys all.1)

  zip_back : (xs more : List A) (ys : List B) → AllZip R (xs ++ more) ys → AllZip R more (drop (length xs) ys)
  zip_back [] more ys all = all
  zip_back (x ∷ xs) more [] all = absurd all
  zip_back (x ∷ xs) more (y ∷ ys) all = zip_back xs more ys all.1

module _ {X : Type 0} where
  front_of : (xs ys : List X) (n : ℕ) → length xs ≡ n → take n (xs ++ ys) ≡ xs
  front_of [] ys zero e = refl
  front_of [] ys (suc n) e = absurd (omega (arith, e))
  front_of (x ∷ xs) ys zero e = absurd (omega (arith, e))
  front_of (x ∷ xs) ys (suc n) e = ap (λ (l : List X). x ∷ l) (front_of xs ys n (omega (arith, e)))

  back_of : (xs ys : List X) (n : ℕ) → length xs ≡ n → drop n (xs ++ ys) ≡ ys
  back_of [] ys zero e = refl
  back_of [] ys (suc n) e = absurd (omega (arith, e))
  back_of (x ∷ xs) ys zero e = absurd (omega (arith, e))
  back_of (x ∷ xs) ys (suc n) e = back_of xs ys n (omega (arith, e))

  both_of : (n : ℕ) (xs : List X) → take n xs ++ drop n xs ≡ xs
  both_of zero xs = refl
  both_of (suc n) [] = refl
  both_of (suc n) (x ∷ xs) = ap (λ (l : List X). x ∷ l) (both_of n xs)

readings_both : (inputs more : List Input) (first n : ℕ) (subtask : Reads) → n ≡ first + length inputs → readings (inputs ++ more) first subtask ≡ readings inputs first subtask ++ readings more n subtask
readings_both [] more first n subtask e = let same : first ≡ n = omega (arith, e) in ap (λ (k : ℕ). readings more k subtask) same
readings_both (input ∷ inputs) more first n subtask e =
    ap (λ (l : List (List Row)). read_of input first subtask ∷ l) (readings_both inputs more (suc first) n subtask (omega (arith, e)))

wholes_both : (inputs more : List Input) → wholes (inputs ++ more) ≡ wholes inputs ++ wholes more
wholes_both [] more = refl
wholes_both (input ∷ inputs) more = ap (λ (l : List (List Row)). rows_of input ∷ l) (wholes_both inputs more)

-- what is read at as many inputs has the same widths
same_widths : (widths : List ℕ) (read others : List (List Row)) → length read ≡ length others → bag_widths (input_bags widths read) ≡ bag_widths (input_bags widths others)
same_widths widths [] [] e = refl
same_widths widths [] (rows ∷ others) e = absurd (omega (arith, e))
same_widths widths (rows ∷ read) [] e = absurd (omega (arith, e))
same_widths [] (rows ∷ read) (more ∷ others) e = ap (λ (l : List ℕ). 0 ∷ l) (same_widths [] read others (omega (arith, e)))
same_widths (width ∷ widths) (rows ∷ read) (more ∷ others) e = ap (λ (l : List ℕ). width ∷ l) (same_widths widths read others (omega (arith, e)))

head_width : (op : Op) (widths : List ℕ) (read others : List (List Row)) → length read ≡ length others → (head_bag op (input_bags widths read)).width ≡ (head_bag op (input_bags widths others)).width
head_width op widths read others e = by op
  where
    same : (op : Op) → (bag_of no_files op (input_bags widths read)).width ≡ (bag_of no_files op (input_bags widths others)).width
    same op = bag_width no_files op (input_bags widths read) ∙ ap (width_of op) (same_widths widths read others e) ∙ sym (bag_width no_files op (input_bags widths others))

    by : (op : Op) → (head_bag op (input_bags widths read)).width ≡ (head_bag op (input_bags widths others)).width
    by (Source table columns) = refl
    by (Filter test) = same (Filter test)
    by (Project exprs) = same (Project exprs)
    by (Explode column separator) = same (Explode column separator)
    by Union = same Union
    by (Aggregate keys aggs) = same (Aggregate keys aggs)
    by Distinct = same Distinct
    by (Join kind keys) = same (Join kind keys)
    by (Sink name) = same (Sink name)

-- ---- the chain

suits : (nodes : List Node) (widened : List Widening) (before node : ℕ) (side : Option Side) → MayRepeat nodes widened → build_side nodes widened node ≡ side → TakesAfter nodes widened before node → Suits (op_at nodes node) side
suits nodes widened before node None may is by = on by.takes
  where
    on : TakesRows by.it before ⊎ TakesProbe by.it (build_side nodes widened node) before → may_rebalance (op_at nodes node) ≡ true
    on (inl rows) = ap may_rebalance (op_is nodes node by.it by.at) ∙ rows.row
    on (inr probe) = absurd (none-some probe.build (sym is ∙ probe.is))
suits nodes widened before node (Some side) may is by = may.each node side is

all_suit : (nodes : List Node) (widened : List Widening) (head : ℕ) (chain : List ℕ) → plan_faults nodes ≡ [] → MayRepeat nodes widened → IsChain nodes widened head (head ∷ chain) → AllSuit nodes widened chain
all_suit nodes widened head [] good may of = tt
all_suit nodes widened head (node ∷ chain) good may of =
    let by = takes_after nodes widened good head node (sym (of.next 0 (omega arith))) in
    (suits nodes widened head node (build_side nodes widened node) may refl by, all_suit nodes widened node chain good may (rest_of_chain nodes widened head head node chain of))

abbrev no_node : Node
no_node = record { op = Union; inputs = []; rebalance = false }

pub record ChainLaws : Type 0 where
  pub built : BuiltByBags
  pub chains : ChainsByBags

module _ (nodes : List Node) (widened : List Widening) (max_parallelism : ℕ) (vertex : Vertex) (good : plan_faults nodes ≡ []) (is : IsVertex nodes widened max_parallelism vertex) (within : head_of vertex < length nodes) where
  abbrev head : ℕ
  head = head_of vertex

  abbrev node : Node
  node = get_or nodes head no_node

  at : slice_get nodes head ≡ Some node
  at = slice_get-get_or nodes head no_node within

  abbrev chain : List ℕ
  chain = drop 1 vertex.nodes

  whole_chain : vertex.nodes ≡ head ∷ chain
  whole_chain = begins vertex.nodes head is.chain.first

  of_chain : IsChain nodes widened head (head ∷ chain)
  of_chain = subst (IsChain nodes widened head) whole_chain is.chain

  abbrev op : Op
  op = op_at nodes head

  abbrev widths : List ℕ
  widths = widths_at nodes head

  abbrev count : ℕ
  count = length (head_inputs nodes head)

  abbrev come : List VertexInput
  come = head_inputs nodes head

  abbrev built : List VertexInput
  built = map (vertex_input nodes) (filter_map (build_edge nodes widened) chain)

  abbrev head_of_rows : List (List Row) → Bag
  head_of_rows read = head_bag op (input_bags widths read)

  -- what is read at the head's inputs, and at the build sides
  rows_of_both : (read builds : List (List Row)) → length read ≡ count → vertex_rows nodes widened vertex (read ++ builds) ≡ (chain_bag nodes widened chain (head_of_rows read) builds).rows
  rows_of_both read builds e =
      ap (λ (l : List (List Row)). (chain_bag nodes widened chain (head_of_rows l) (drop count (read ++ builds))).rows) (front_of read builds count e)
      ∙ ap (λ (l : List (List Row)). (chain_bag nodes widened chain (head_of_rows read) l).rows) (back_of read builds count e)

  rows_are : JoinsAreHeads → ChainLaws → MayRepeat nodes widened → (width : ℕ) (read builds : List (List Row)) → length read ≡ count → (head_of_rows read).width ≡ width
      → SameBag (vertex_rows nodes widened vertex (read ++ builds)) (chained (linked (links_of nodes widened chain width) builds) (head_rows (op_head op widths) read))
  rows_are joins laws may width read builds counted wide =
      let number : reads op (length read) ≡ true = (λ i. reads (op_is nodes head node at i) (counted i)) ∙ reads_all nodes head node good at in
      let suit = all_suit nodes widened head chain good may of_chain in
      let same = chain_same laws.built laws.chains nodes widened chain suit (head_of_rows read) builds in
      let gives = head_is widths read joins op number in
      let linked_rows : chained (linked (links_of nodes widened chain (head_of_rows read).width) builds) (head_of_rows read).rows ≡ chained (linked (links_of nodes widened chain width) builds) (head_rows (op_head op widths) read) =
      λ i. chained (linked (links_of nodes widened chain (wide i)) builds) (gives i) in
      subst (λ (rows : List Row). SameBag rows (chained (linked (links_of nodes widened chain width) builds) (head_rows (op_head op widths) read))) (sym (rows_of_both read builds counted))
      (subst (SameBag (chain_bag nodes widened chain (head_of_rows read) builds).rows) linked_rows same)

  pub sums : VertexLaw → JoinsAreHeads → HeadLaws → ChainLaws → MayRepeat nodes widened → (hash : Row → ℕ) (inputs : List Input) (subtasks : List Reads)
      → AreShipped hash max_parallelism vertex inputs → IsCover (vertex_shape nodes vertex inputs) subtasks
      → SameBag (flat_map (λ subtask. vertex_rows nodes widened vertex (readings inputs 0 subtask)) subtasks) (vertex_rows nodes widened vertex (wholes inputs))
  sums law joins laws chain_laws may hash inputs subtasks shipped cover =
      let H = op_head op widths in
      let heads = take count inputs in
      let wide = drop count inputs in
      let Ship : VertexInput → Input → Type 0 = λ come input. IsShipped hash max_parallelism come.ship input in
      let all : AllZip Ship (come ++ built) inputs = subst (λ (ins : List VertexInput). AllZip Ship ins inputs) is.inputs shipped in
      let come_in : AllZip Ship come heads = zip_front Ship come built inputs all in
      let counted : length heads ≡ count = zip_long Ship come heads come_in in
      let width = (head_of_rows (wholes heads)).width in
      let links = links_of nodes widened chain width in
      let covers = subst (λ (kind : ShapeKind). IsCover (record { kind = kind; heads = grids_of heads; wide = grids_of wide }) subtasks) (sym (head_kind op widths)) cover in
      let stand = placed nodes hash max_parallelism head node good at laws widths heads op (sym (op_is nodes head node at)) come_in in
      let same = law H links heads wide subtasks covers stand (links_by_bags chain_laws.built nodes widened chain width) in
      let whole_long : length (wholes heads) ≡ length heads = length-map heads (λ input. whole input.grid input.rows) in
      let one : (subtask : Reads) → SameBag (vertex_rows nodes widened vertex (readings inputs 0 subtask)) (chained (linked links (readings wide (length heads) subtask)) (head_rows H (readings heads 0 subtask))) =
      λ subtask.
      let long = readings_long heads 0 subtask in
      let split : readings inputs 0 subtask ≡ readings heads 0 subtask ++ readings wide (length heads) subtask =
      ap (λ (l : List Input). readings l 0 subtask) (sym (both_of count inputs)) ∙ readings_both heads wide 0 (length heads) subtask (omega arith) in
      subst (λ (read : List (List Row)). SameBag (vertex_rows nodes widened vertex read) (chained (linked links (readings wide (length heads) subtask)) (head_rows H (readings heads 0 subtask)))) (sym split)
      (rows_are joins chain_laws may width (readings heads 0 subtask) (readings wide (length heads) subtask) (long ∙ counted) (head_width op widths (readings heads 0 subtask) (wholes heads) (long ∙ sym whole_long))) in
      let all_whole : wholes inputs ≡ wholes heads ++ wholes wide = ap wholes (sym (both_of count inputs)) ∙ wholes_both heads wide in
      let whole_rows : SameBag (vertex_rows nodes widened vertex (wholes inputs)) (chained (linked links (wholes wide)) (head_rows H (wholes heads))) =
      subst (λ (read : List (List Row)). SameBag (vertex_rows nodes widened vertex read) (chained (linked links (wholes wide)) (head_rows H (wholes heads)))) (sym all_whole)
      (rows_are joins chain_laws may width (wholes heads) (wholes wide) (whole_long ∙ counted) refl) in
      same_on (same_each (λ subtask. vertex_rows nodes widened vertex (readings inputs 0 subtask)) (λ subtask. chained (linked links (readings wide (length heads) subtask)) (head_rows H (readings heads 0 subtask))) subtasks one)
      (same_on same (same_sym whole_rows))

  pub gives_bag : (files : List ℕ → List (List ℕ)) (rows : List (List Row)) → HoldBags files nodes vertex rows
      → SameBag (vertex_rows nodes widened vertex rows) (bag_at (bags_of files nodes) (last_of vertex)).rows
  gives_bag files rows hold =
      let held : AllZip (HoldsBag files nodes) (come ++ built) rows = subst (λ (ins : List VertexInput). AllZip (HoldsBag files nodes) ins rows) is.inputs hold in
      let first = head_alike files nodes good head node at (take count rows) (zip_front (HoldsBag files nodes) come built rows held) in
      let all = chain_alike files nodes good widened head chain (head_of_rows (take count rows)) (drop count rows) of_chain (zip_back (HoldsBag files nodes) come built rows held) first in
      subst (λ (l : List ℕ). SameBag (vertex_rows nodes widened vertex rows) (bag_at (bags_of files nodes) (last_in l)).rows) (sym whole_chain) all.rows
