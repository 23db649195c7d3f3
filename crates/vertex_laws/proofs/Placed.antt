-- Where the rows of a head's inputs stand: rows that meet stand in one column.
use Rattle.std.proofs.Common.{◌≡◌, ◌%◌, ℕ, nat_eq, Bool, true, false, not, ◌||◌, List, [], ◌∷◌, length, map, get_or, Option, Some, slice_get, refl, sym, ◌∙◌, ap, subst, arith, if◌then◌else◌}
use Rattle.std.specs.List.{AllZip, range_with_len}
use Rattle.std.specs.Option.{option_map_or}
use Rattle.std.proofs.lemmas.Bool.{false≢true}
use Rattle.std.proofs.lemmas.Bool.Decides.{nat_tests}
use Rattle.row_core.specs.Values.{same_row}
use Rattle.bag_laws.specs.Rows.{OneRow as Row}
use Rattle.bag_laws.proofs.Laws.{same_row_is}
use Rattle.plan_model.specs.Checks.{plan_faults, takes}
use Rattle.plan_model.specs.Joins.{matches}
use Rattle.plan_model.specs.Operators.{key_of, is_source, may_rebalance}
use Rattle.plan_model.specs.Widths.{widths_of}
use Rattle.plan_model.proofs.Laws.{good_node}
use Rattle.plan_model.specs.declared.agg.Agg.{Agg}
use Rattle.plan_model.specs.declared.join_kind.JoinKind.{JoinKind}
use Rattle.plan_model.specs.declared.join_kind.JoinKind.TheVariants as kind
use Rattle.plan_model.specs.declared.node.Node.{Node}
use Rattle.plan_model.specs.declared.op.Op.{Op}
use Rattle.plan_model.specs.declared.op.Op.TheVariants.{Source, Filter, Project, Explode, Union, Aggregate, Distinct, Join, Sink}
use Rattle.plan_model.specs.declared.ship.Ship.{Ship}
use Rattle.plan_model.specs.declared.ship.Ship.TheVariants.{Forward, Hash, Rebalance}
use Rattle.operator_laws.specs.Applied.{left_columns, right_columns}
use Rattle.rect_cover.specs.Cells.{Input}
use Rattle.rect_cover.specs.Heads.{MatchesInColumn, MeetsInColumn, StandsAt}
use Rattle.rect_cover.specs.Operators.{aggregate_head, distinct_head, join_head}
use Rattle.rect_cover.specs.Vertices.{GoesByBags, IsPlaced}
use Rattle.vertex_builder.specs.Edges.{edges_into, edge_ship, op_ship, ship_into}
use Rattle.vertex_builder.specs.Vertices.{vertex_input, head_inputs}
use Rattle.vertex_builder.specs.declared.edge.Edge.{Edge}
use Rattle.vertex_builder.specs.declared.vertex_input.VertexInput.{VertexInput}
use Rattle.vertex_builder.proofs.Laws.{inputs_of_edges}
use Rattle.vertex_laws.specs.Inputs.{IsHashed, IsShipped}
use Rattle.vertex_laws.proofs.HeadRows.{op_head}

-- ---- the laws that are used

pub record HeadLaws : Type 0 where
  pub aggregates : (keys : List ℕ) (aggs : List Agg) → GoesByBags (aggregate_head keys aggs)
  pub distincts : GoesByBags distinct_head
  pub joins : (keys : List (ℕ × ℕ)) (left_width right_width : ℕ) (join : JoinKind) → GoesByBags (join_head keys left_width right_width join)
  pub keyed : (hash : Row → ℕ) (keys : List ℕ) (input : Input)
      → StandsAt (λ row. hash (key_of keys row) % input.grid.cells) input → MeetsInColumn (λ a b. same_row (key_of keys a) (key_of keys b)) input
  pub meeting : (meets : Row → Row → Bool) (place : Row → ℕ) (input : Input)
      → ((a b : Row) → meets a b ≡ true → place a ≡ place b) → StandsAt place input → MeetsInColumn meets input
  pub joined : (hash : Row → ℕ) (keys : List (ℕ × ℕ)) (left right : Input) → left.grid.cells ≡ right.grid.cells
      → StandsAt (λ row. hash (key_of (left_columns keys) row) % left.grid.cells) left
      → StandsAt (λ row. hash (key_of (right_columns keys) row) % right.grid.cells) right
      → MatchesInColumn (matches keys) left right

same_number : (m n : ℕ) → nat_eq m n ≡ true → m ≡ n
same_number m n e = grind (arith, nat_tests)

unspread : (spread may : Bool) → (not spread || may) ≡ true → may ≡ false → spread ≡ false
unspread true may e f = absurd (false≢true (sym f ∙ e))
unspread false may e f = refl

module _ (nodes : List Node) (hash : Row → ℕ) (cells head : ℕ) (node : Node) (good : plan_faults nodes ≡ []) (at : slice_get nodes head ≡ Some node) where
  abbrev edge_at : ℕ → ℕ → Edge
  edge_at input place = record { from = input; into = head; place = place }

  -- how rows come to an operator whose rows may not be spread anew
  ship_is : (op : Op) → node.op ≡ op → may_rebalance op ≡ false → (input place : ℕ) → edge_ship nodes (edge_at input place) ≡ op_ship op place (get_or (widths_of nodes) input 0)
  ship_is op is fixed input place =
      let width = get_or (widths_of nodes) input 0 in
      let still = unspread node.rebalance (may_rebalance node.op) (good_node nodes head node good at).ship (ap may_rebalance is ∙ fixed) in
      ap (λ (o : Option Node). option_map_or (λ n. ship_into n place width) o Forward) at
      ∙ ap (λ (b : Bool). if b then Rebalance else op_ship node.op place width) still
      ∙ ap (λ (o : Op). op_ship o place width) is

  abbrev Shipped : VertexInput → Input → Type 0
  Shipped come input = IsShipped hash cells come.ship input

  abbrev Comes : List ℕ → List Input → Type 0
  Comes ins inputs = AllZip Shipped (map (vertex_input nodes) (edges_into head 0 ins)) inputs

  record OneHashed (columns : ℕ → List ℕ) (inputs : List Input) : Type 0 where
    pub from : ℕ
    pub input : Input
    pub is : inputs ≡ input ∷ []
    pub hashed : IsHashed hash cells (columns from) input

  one_hashed : (columns : ℕ → List ℕ) (ins : List ℕ) (inputs : List Input) → length ins ≡ 1 → ((input : ℕ) → edge_ship nodes (edge_at input 0) ≡ Hash (columns input)) → Comes ins inputs → OneHashed columns inputs
  one_hashed columns [] inputs one ships come = absurd (omega (arith, one))
  one_hashed columns (i ∷ []) [] one ships come = absurd come
  one_hashed columns (i ∷ []) (input ∷ []) one ships come =
      record { from = i; input = input; is = refl; hashed = subst (λ (ship : Ship). IsShipped hash cells ship input) (ships i) come.0 }
  one_hashed columns (i ∷ []) (input ∷ more ∷ inputs) one ships come = absurd come.1
  one_hashed columns (i ∷ j ∷ ins) inputs one ships come = absurd (omega (arith, one))

  record TwoHashed (lefts rights : List ℕ) (inputs : List Input) : Type 0 where
    pub left : Input
    pub right : Input
    pub are : inputs ≡ left ∷ right ∷ []
    pub hashed_left : IsHashed hash cells lefts left
    pub hashed_right : IsHashed hash cells rights right

  two_hashed : (lefts rights : List ℕ) (ins : List ℕ) (inputs : List Input) → length ins ≡ 2
      → ((input : ℕ) → edge_ship nodes (edge_at input 0) ≡ Hash lefts) → ((input : ℕ) → edge_ship nodes (edge_at input 1) ≡ Hash rights)
      → Comes ins inputs → TwoHashed lefts rights inputs
  two_hashed lefts rights [] inputs two to_left to_right come = absurd (omega (arith, two))
  two_hashed lefts rights (i ∷ []) inputs two to_left to_right come = absurd (omega (arith, two))
  two_hashed lefts rights (i ∷ j ∷ []) [] two to_left to_right come = absurd come
  two_hashed lefts rights (i ∷ j ∷ []) (left ∷ []) two to_left to_right come = absurd come.1
  two_hashed lefts rights (i ∷ j ∷ []) (left ∷ right ∷ []) two to_left to_right come = record {
    left = left;
    right = right;
    are = refl;
    hashed_left = subst (λ (ship : Ship). IsShipped hash cells ship left) (to_left i) come.0;
    hashed_right = subst (λ (ship : Ship). IsShipped hash cells ship right) (to_right j) come.1.0;
  }
  two_hashed lefts rights (i ∷ j ∷ []) (left ∷ right ∷ more ∷ inputs) two to_left to_right come = absurd come.1.1
  two_hashed lefts rights (i ∷ j ∷ k ∷ ins) inputs two to_left to_right come = absurd (omega (arith, two))

  -- rows that stand by the hash of their key stand so by the grid's own number of columns
  by_grid : (columns : List ℕ) (input : Input) → IsHashed hash cells columns input → StandsAt (λ row. hash (key_of columns row) % input.grid.cells) input
  by_grid columns input hashed = subst (λ (n : ℕ). StandsAt (λ row. hash (key_of columns row) % n) input) (sym hashed.cells) hashed.stands

  module _ (laws : HeadLaws) (widths : List ℕ) (inputs : List Input) where
    comes : (op : Op) → node.op ≡ op → is_source op ≡ false → AllZip Shipped (head_inputs nodes head) inputs → Comes node.inputs inputs
    comes op is other come = subst (λ (ins : List VertexInput). AllZip Shipped ins inputs) (inputs_of_edges nodes head node at (ap is_source is ∙ other)) come

    number : (op : Op) → node.op ≡ op → takes op (length node.inputs) ≡ true
    number op is = sym (ap (λ (o : Op). takes o (length node.inputs)) is) ∙ (good_node nodes head node good at).number

    matched : (keys : List (ℕ × ℕ)) (two : TwoHashed (left_columns keys) (right_columns keys) inputs) → MatchesInColumn (matches keys) two.left two.right
    matched keys two =
        laws.joined hash keys two.left two.right (two.hashed_left.cells ∙ sym two.hashed_right.cells)
        (by_grid (left_columns keys) two.left two.hashed_left) (by_grid (right_columns keys) two.right two.hashed_right)

    join_placed : (keys : List (ℕ × ℕ)) (lw rw : ℕ) (join : JoinKind) (two : TwoHashed (left_columns keys) (right_columns keys) inputs) → IsPlaced (join_head keys lw rw join) (two.left ∷ two.right ∷ [])
    join_placed keys lw rw kind.Inner two = matched keys two
    join_placed keys lw rw kind.Left two = (laws.joins keys lw rw kind.Left, matched keys two)
    join_placed keys lw rw kind.Right two = (laws.joins keys lw rw kind.Right, matched keys two)
    join_placed keys lw rw kind.Full two = let gives = laws.joins keys lw rw kind.Full in (gives.0, gives.1, matched keys two)
    join_placed keys lw rw kind.Semi two = (laws.joins keys lw rw kind.Semi, matched keys two)
    join_placed keys lw rw kind.Anti two = (laws.joins keys lw rw kind.Anti, matched keys two)

    pub placed : (op : Op) → node.op ≡ op → AllZip Shipped (head_inputs nodes head) inputs → IsPlaced (op_head op widths) inputs
    placed (Source table columns) is come = tt
    placed (Filter test) is come = tt
    placed (Project exprs) is come = tt
    placed (Explode column separator) is come = tt
    placed Union is come = tt
    placed (Aggregate keys aggs) is come =
        let op = Aggregate keys aggs in
        let one = one_hashed (λ input. keys) node.inputs inputs (same_number (length node.inputs) 1 (number op is)) (λ input. ship_is op is refl input 0) (comes op is refl come) in
        subst (IsPlaced (aggregate_head keys aggs)) (sym one.is)
        (laws.aggregates keys aggs, laws.keyed hash keys one.input (by_grid keys one.input one.hashed))
    placed Distinct is come =
        let columns : ℕ → List ℕ = λ input. range_with_len 0 (get_or (widths_of nodes) input 0) in
        let one = one_hashed columns node.inputs inputs (same_number (length node.inputs) 1 (number Distinct is)) (λ input. ship_is Distinct is refl input 0) (comes Distinct is refl come) in
        let place : Row → ℕ = λ row. hash (key_of (columns one.from) row) % cells in
        subst (IsPlaced distinct_head) (sym one.is)
        (laws.distincts, laws.meeting same_row place one.input (λ a b e. ap place (same_row_is a b e)) one.hashed.stands)
    placed (Join join keys) is come =
        let op = Join join keys in
        let two = two_hashed (left_columns keys) (right_columns keys) node.inputs inputs (same_number (length node.inputs) 2 (number op is)) (λ input. ship_is op is refl input 0) (λ input. ship_is op is refl input 1) (comes op is refl come) in
        subst (IsPlaced (join_head keys (get_or widths 0 0) (get_or widths 1 0) join)) (sym two.are)
        (join_placed keys (get_or widths 0 0) (get_or widths 1 0) join two)
    placed (Sink name) is come = tt
