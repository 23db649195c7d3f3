-- What chained nodes give, row by row, as links.
use Rattle.std.proofs.Common.{◌≡◌, ℕ, true, List, [], ◌∷◌, get_or, Option, Some, None, refl, sym, subst}
use Rattle.std.specs.List.{flat_map, AllByRecursion, AllZip}
use Rattle.std.specs.Option.{option_map_or}
use Rattle.std.proofs.lemmas.Bool.{false≢true}
use Rattle.row_core.specs.Bags.{SameBag}
use Rattle.bag_laws.specs.Rows.{OneRow as Row}
use Rattle.bag_laws.proofs.Laws.{same_on, same_refl}
use Rattle.plan_model.specs.Joins.{joined}
use Rattle.plan_model.specs.Nodes.{bag_widths}
use Rattle.plan_model.specs.Operators.{may_rebalance}
use Rattle.plan_model.specs.Plans.{Bag, bag_of}
use Rattle.plan_model.specs.Widths.{width_of}
use Rattle.plan_model.specs.declared.join_kind.JoinKind.{JoinKind}
use Rattle.plan_model.specs.declared.node.Node.{Node}
use Rattle.plan_model.specs.declared.op.Op.{Op}
use Rattle.plan_model.specs.declared.op.Op.TheVariants.{Source, Filter, Project, Explode, Union, Aggregate, Distinct, Join, Sink}
use Rattle.plan_model.specs.declared.side.Side.{Side}
use Rattle.plan_model.specs.declared.side.Side.TheVariants.{Left, Right}
use Rattle.plan_model.proofs.Laws.{bag_width}
use Rattle.operator_laws.proofs.Laws.{left_each, right_each, row_each}
use Rattle.rect_cover.specs.Chains.{chained}
use Rattle.rect_cover.specs.Operators.{left_built, right_built}
use Rattle.rect_cover.specs.Vertices.{Link, input_at, plain, rest_of, linked, LinksByBags}
use Rattle.vertex_builder.specs.Edges.{build_place, build_side}
use Rattle.vertex_builder.specs.declared.widening.Widening.{Widening}
use Rattle.vertex_laws.specs.VertexRows.{build_bag, builds_left, chain_bag, may_repeat, no_files, op_at, taken_bags, widths_at}
use Rattle.vertex_laws.proofs.HeadRows.{each_row, passed}

row_step : (op : Op) (bag : Bag) → may_rebalance op ≡ true → (bag_of no_files op (bag ∷ [])).rows ≡ flat_map (each_row op) bag.rows
row_step (Source table columns) bag e = absurd (false≢true e)
row_step (Filter test) bag e = row_each (Filter test) bag.rows refl
row_step (Project exprs) bag e = row_each (Project exprs) bag.rows refl
row_step (Explode column separator) bag e = row_each (Explode column separator) bag.rows refl
row_step Union bag e = absurd (false≢true e)
row_step (Aggregate keys aggs) bag e = absurd (false≢true e)
row_step Distinct bag e = absurd (false≢true e)
row_step (Join kind keys) bag e = absurd (false≢true e)
row_step (Sink name) bag e = sym (passed bag.rows)

-- ---- links

-- a widened join as a link, by the width of its build side and of the rows that come
abbrev pub built_link : Op → Side → ℕ → ℕ → Link
built_link (Join kind keys) Left build width = left_built keys build width kind
built_link (Join kind keys) Right build width = right_built keys width build kind
built_link op side build width = plain (each_row op)

abbrev pub link_of : Op → Option Side → ℕ → ℕ → Link
link_of op None build width = plain (each_row op)
link_of op (Some side) build width = built_link op side build width

abbrev taken_widths : Option Side → ℕ → ℕ → List ℕ
taken_widths None width build = width ∷ []
taken_widths (Some Left) width build = build ∷ width ∷ []
taken_widths (Some Right) width build = width ∷ build ∷ []

abbrev build_width : List Node → ℕ → Option Side → ℕ
build_width nodes node side = get_or (widths_at nodes node) (option_map_or build_place side 0) 0

-- the chained nodes as links, the first of which takes rows of this width
abbrev pub links_of : List Node → List Widening → List ℕ → ℕ → List Link
links_of nodes widened [] width = []
links_of nodes widened (node ∷ chain) width =
    let side = build_side nodes widened node in
    let op = op_at nodes node in
    let build = build_width nodes node side in
    link_of op side build width ∷ links_of nodes widened chain (width_of op (taken_widths side width build))

-- it works row by row, or is a join whose build side may be repeated
abbrev pub Suits : Op → Option Side → Type 0
Suits op None = may_rebalance op ≡ true
Suits op (Some side) = may_repeat op side ≡ true

abbrev pub AllSuit : List Node → List Widening → List ℕ → Type 0
AllSuit nodes widened chain = AllByRecursion (λ node. Suits (op_at nodes node) (build_side nodes widened node)) chain

-- ---- they go by bags

abbrev pub BuiltByBags : Type 0
BuiltByBags = (keys : List (ℕ × ℕ)) (left_width right_width : ℕ) (join : JoinKind)
    → LinksByBags (right_built keys left_width right_width join ∷ left_built keys left_width right_width join ∷ [])

built_by_bags : BuiltByBags → (op : Op) (side : Side) (build width : ℕ) (links : List Link) → LinksByBags links → LinksByBags (built_link op side build width ∷ links)
built_by_bags law (Source table columns) side build width links rest = rest
built_by_bags law (Filter test) side build width links rest = rest
built_by_bags law (Project exprs) side build width links rest = rest
built_by_bags law (Explode column separator) side build width links rest = rest
built_by_bags law Union side build width links rest = rest
built_by_bags law (Aggregate keys aggs) side build width links rest = rest
built_by_bags law Distinct side build width links rest = rest
built_by_bags law (Join kind keys) Left build width links rest = ((law keys build width kind).1.0, rest)
built_by_bags law (Join kind keys) Right build width links rest = ((law keys width build kind).0, rest)
built_by_bags law (Sink name) side build width links rest = rest

link_by_bags : BuiltByBags → (op : Op) (side : Option Side) (build width : ℕ) (links : List Link) → LinksByBags links → LinksByBags (link_of op side build width ∷ links)
link_by_bags law op None build width links rest = rest
link_by_bags law op (Some side) build width links rest = built_by_bags law op side build width links rest

pub links_by_bags : BuiltByBags → (nodes : List Node) (widened : List Widening) (chain : List ℕ) (width : ℕ) → LinksByBags (links_of nodes widened chain width)
links_by_bags law nodes widened [] width = tt
links_by_bags law nodes widened (node ∷ chain) width =
    let side = build_side nodes widened node in
    let op = op_at nodes node in
    let build = build_width nodes node side in
    let after = width_of op (taken_widths side width build) in
    link_by_bags law op side build width (links_of nodes widened chain after) (links_by_bags law nodes widened chain after)

-- ---- what they give

abbrev pub ChainsByBags : Type 0
ChainsByBags = (links : List Link) (wide others : List (List Row)) (rows more : List Row)
    → LinksByBags links → AllZip SameBag wide others → SameBag rows more
    → SameBag (chained (linked links wide) rows) (chained (linked links others) more)

each_same : (wide : List (List Row)) → AllZip SameBag wide wide
each_same [] = tt
each_same (rows ∷ wide) = (same_refl rows, each_same wide)

same_from : (xs ys : List Row) → xs ≡ ys → SameBag xs ys
same_from xs ys e = subst (λ (rows : List Row). SameBag xs rows) e (same_refl xs)

module _ (law : BuiltByBags) (by_bags : ChainsByBags) (nodes : List Node) (widened : List Widening) where
  abbrev ChainSame : List ℕ → Type 0
  ChainSame chain = (bag : Bag) (builds : List (List Row))
      → SameBag (chain_bag nodes widened chain bag builds).rows (chained (linked (links_of nodes widened chain bag.width) builds) bag.rows)

  -- behind a node that gives these rows
  behind : (chain : List ℕ) (op : Op) (inputs : List Bag) (rows : List Row) (builds : List (List Row)) → ChainSame chain → SameBag (bag_of no_files op inputs).rows rows
      → SameBag (chain_bag nodes widened chain (bag_of no_files op inputs) builds).rows (chained (linked (links_of nodes widened chain (width_of op (bag_widths inputs))) builds) rows)
  behind chain op inputs rows builds rest same =
      let bag = bag_of no_files op inputs in
      let after = width_of op (bag_widths inputs) in
      let here = subst (λ (width : ℕ). SameBag (chain_bag nodes widened chain bag builds).rows (chained (linked (links_of nodes widened chain width) builds) bag.rows)) (bag_width no_files op inputs) (rest bag builds) in
      same_on here (by_bags (links_of nodes widened chain after) builds builds bag.rows rows (links_by_bags law nodes widened chain after) (each_same builds) same)

  -- a node of a chain and those behind it
  from_node : (node : ℕ) (chain : List ℕ) (op : Op) (side : Option Side) → Suits op side → ChainSame chain → (bag : Bag) (builds : List (List Row))
      → SameBag (chain_bag nodes widened chain (bag_of no_files op (taken_bags side bag (build_bag nodes node side builds))) (builds_left side builds)).rows
      (chained (linked (link_of op side (build_width nodes node side) bag.width ∷ links_of nodes widened chain (width_of op (taken_widths side bag.width (build_width nodes node side)))) builds) bag.rows)
  from_node node chain op None suits rest bag builds =
      behind chain op (bag ∷ []) (flat_map (each_row op) bag.rows) builds rest (same_from (bag_of no_files op (bag ∷ [])).rows (flat_map (each_row op) bag.rows) (row_step op bag suits))
  from_node node chain (Source table columns) (Some side) suits rest bag builds = absurd (false≢true suits)
  from_node node chain (Filter test) (Some side) suits rest bag builds = absurd (false≢true suits)
  from_node node chain (Project exprs) (Some side) suits rest bag builds = absurd (false≢true suits)
  from_node node chain (Explode column separator) (Some side) suits rest bag builds = absurd (false≢true suits)
  from_node node chain Union (Some side) suits rest bag builds = absurd (false≢true suits)
  from_node node chain (Aggregate keys aggs) (Some side) suits rest bag builds = absurd (false≢true suits)
  from_node node chain Distinct (Some side) suits rest bag builds = absurd (false≢true suits)
  from_node node chain (Join kind keys) (Some Left) suits rest bag builds =
      let width = build_width nodes node (Some Left) in
      let build = input_at builds 0 in
      behind chain (Join kind keys) (build_bag nodes node (Some Left) builds ∷ bag ∷ []) (flat_map (λ row. joined keys width bag.width build (row ∷ []) kind) bag.rows) (rest_of builds) rest
      (right_each kind keys width bag.width build bag.rows suits)
  from_node node chain (Join kind keys) (Some Right) suits rest bag builds =
      let width = build_width nodes node (Some Right) in
      let build = input_at builds 0 in
      behind chain (Join kind keys) (bag ∷ build_bag nodes node (Some Right) builds ∷ []) (flat_map (λ row. joined keys bag.width width (row ∷ []) build kind) bag.rows) (rest_of builds) rest
      (same_from (joined keys bag.width width bag.rows build kind) (flat_map (λ row. joined keys bag.width width (row ∷ []) build kind) bag.rows) (left_each kind keys bag.width width bag.rows build suits))
  from_node node chain (Sink name) (Some side) suits rest bag builds = absurd (false≢true suits)

  pub chain_same : (chain : List ℕ) → AllSuit nodes widened chain → ChainSame chain
  chain_same [] suit bag builds = same_refl bag.rows
  chain_same (node ∷ chain) suit bag builds = from_node node chain (op_at nodes node) (build_side nodes widened node) suit.0 (chain_same chain suit.1) bag builds
