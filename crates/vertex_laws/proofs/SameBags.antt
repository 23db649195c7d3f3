-- What a vertex gives goes by the bags of what is read at its inputs.
use Rattle.std.proofs.Common.{ℕ, zero, suc, List, [], ◌∷◌, take, drop, Option, Some, None, refl}
use Rattle.std.specs.List.{AllZip}
use Rattle.row_core.specs.Bags.{SameBag}
use Rattle.bag_laws.specs.Rows.{OneRow as Row}
use Rattle.bag_laws.proofs.Laws.{same_refl}
use Rattle.plan_model.specs.Nodes.{Alike}
use Rattle.plan_model.specs.Plans.{Bag, bag_at, bag_of}
use Rattle.plan_model.specs.declared.node.Node.{Node}
use Rattle.plan_model.specs.declared.op.Op.{Op}
use Rattle.plan_model.specs.declared.op.Op.TheVariants.{Source, Filter, Project, Explode, Union, Aggregate, Distinct, Join, Sink}
use Rattle.plan_model.specs.declared.side.Side.{Side}
use Rattle.plan_model.specs.declared.side.Side.TheVariants.{Left, Right}
use Rattle.operator_laws.proofs.Laws.{bags_same}
use Rattle.rect_cover.specs.Vertices.{input_at, rest_of}
use Rattle.vertex_builder.specs.Edges.{build_side}
use Rattle.vertex_builder.specs.Vertices.{head_of}
use Rattle.vertex_builder.specs.declared.vertex.Vertex.{Vertex}
use Rattle.vertex_builder.specs.declared.widening.Widening.{Widening}
use Rattle.vertex_laws.specs.VertexRows.{build_bag, builds_left, chain_bag, head_bag, head_count, input_bags, no_files, op_at, taken_bags, vertex_rows, widths_at}

module _ {A B : Type 0} (R : A → B → Type 0) where
  zip_take : (n : ℕ) (xs : List A) (ys : List B) → AllZip R xs ys → AllZip R (take n xs) (take n ys)
  zip_take zero xs ys all = tt
  zip_take (suc n) [] [] all = tt
  zip_take (suc n) [] (y ∷ ys) all = absurd all
  zip_take (suc n) (x ∷ xs) [] all = absurd all
  zip_take (suc n) (x ∷ xs) (y ∷ ys) all = (all.0, zip_take n xs ys all.1)

  zip_drop : (n : ℕ) (xs : List A) (ys : List B) → AllZip R xs ys → AllZip R (drop n xs) (drop n ys)
  zip_drop zero xs ys all = all
  zip_drop (suc n) [] [] all = tt
  zip_drop (suc n) [] (y ∷ ys) all = absurd all
  zip_drop (suc n) (x ∷ xs) [] all = absurd all
  zip_drop (suc n) (x ∷ xs) (y ∷ ys) all = zip_drop n xs ys all.1

-- ---- the head

alike_itself : (bag : Bag) → Alike bag bag
alike_itself bag = record { width = refl; rows = same_refl bag.rows }

bags_alike : (widths : List ℕ) (read others : List (List Row)) → AllZip SameBag read others → (place : ℕ)
    → Alike (bag_at (input_bags widths read) place) (bag_at (input_bags widths others) place)
bags_alike widths [] [] same place = alike_itself (bag_at [] place)
bags_alike widths [] (rows ∷ others) same place = absurd same
bags_alike widths (rows ∷ read) [] same place = absurd same
bags_alike [] (rows ∷ read) (more ∷ others) same zero = record { width = refl; rows = same.0 }
bags_alike [] (rows ∷ read) (more ∷ others) same (suc place) = bags_alike [] read others same.1 place
bags_alike (width ∷ widths) (rows ∷ read) (more ∷ others) same zero = record { width = refl; rows = same.0 }
bags_alike (width ∷ widths) (rows ∷ read) (more ∷ others) same (suc place) = bags_alike widths read others same.1 place

head_alike : (op : Op) (inputs others : List Bag) → ((place : ℕ) → Alike (bag_at inputs place) (bag_at others place))
    → Alike (head_bag op inputs) (head_bag op others)
head_alike (Source table columns) inputs others alike = record { width = refl; rows = (bags_same no_files Union inputs others alike).rows }
head_alike (Filter test) inputs others alike = bags_same no_files (Filter test) inputs others alike
head_alike (Project exprs) inputs others alike = bags_same no_files (Project exprs) inputs others alike
head_alike (Explode column separator) inputs others alike = bags_same no_files (Explode column separator) inputs others alike
head_alike Union inputs others alike = bags_same no_files Union inputs others alike
head_alike (Aggregate keys aggs) inputs others alike = bags_same no_files (Aggregate keys aggs) inputs others alike
head_alike Distinct inputs others alike = bags_same no_files Distinct inputs others alike
head_alike (Join kind keys) inputs others alike = bags_same no_files (Join kind keys) inputs others alike
head_alike (Sink name) inputs others alike = bags_same no_files (Sink name) inputs others alike

-- ---- the chain

first_same : (builds others : List (List Row)) → AllZip SameBag builds others → SameBag (input_at builds 0) (input_at others 0)
first_same [] [] same = same_refl []
first_same [] (rows ∷ others) same = absurd same
first_same (rows ∷ builds) [] same = absurd same
first_same (rows ∷ builds) (more ∷ others) same = same.0

rest_same : (builds others : List (List Row)) → AllZip SameBag builds others → AllZip SameBag (rest_of builds) (rest_of others)
rest_same [] [] same = tt
rest_same [] (rows ∷ others) same = absurd same
rest_same (rows ∷ builds) [] same = absurd same
rest_same (rows ∷ builds) (more ∷ others) same = same.1

left_same : (side : Option Side) (builds others : List (List Row)) → AllZip SameBag builds others → AllZip SameBag (builds_left side builds) (builds_left side others)
left_same None builds others same = same
left_same (Some side) builds others same = rest_same builds others same

two_alike : (a b c d : Bag) → Alike a c → Alike b d → (place : ℕ) → Alike (bag_at (a ∷ b ∷ []) place) (bag_at (c ∷ d ∷ []) place)
two_alike a b c d one two zero = one
two_alike a b c d one two (suc zero) = two
two_alike a b c d one two (suc (suc place)) = alike_itself (bag_at [] place)

one_alike : (a c : Bag) → Alike a c → (place : ℕ) → Alike (bag_at (a ∷ []) place) (bag_at (c ∷ []) place)
one_alike a c one zero = one
one_alike a c one (suc place) = alike_itself (bag_at [] place)

taken_alike : (side : Option Side) (bag other build more : Bag) → Alike bag other → Alike build more → (place : ℕ)
    → Alike (bag_at (taken_bags side bag build) place) (bag_at (taken_bags side other more) place)
taken_alike None bag other build more alike built place = one_alike bag other alike place
taken_alike (Some Left) bag other build more alike built place = two_alike build bag more other built alike place
taken_alike (Some Right) bag other build more alike built place = two_alike bag build other more alike built place

module _ (nodes : List Node) (widened : List Widening) where
  chain_alike : (chain : List ℕ) (bag other : Bag) (builds others : List (List Row)) → Alike bag other → AllZip SameBag builds others
      → Alike (chain_bag nodes widened chain bag builds) (chain_bag nodes widened chain other others)
  chain_alike [] bag other builds others alike same = alike
  chain_alike (node ∷ chain) bag other builds others alike same =
      let side = build_side nodes widened node in
      let build = build_bag nodes node side builds in
      let more = build_bag nodes node side others in
      let built : Alike build more = record { width = refl; rows = first_same builds others same } in
      let op = op_at nodes node in
      chain_alike chain (bag_of no_files op (taken_bags side bag build)) (bag_of no_files op (taken_bags side other more)) (builds_left side builds) (builds_left side others)
      (bags_same no_files op (taken_bags side bag build) (taken_bags side other more) (taken_alike side bag other build more alike built))
      (left_same side builds others same)

  pub vertex_same : (vertex : Vertex) (read others : List (List Row)) → AllZip SameBag read others
      → SameBag (vertex_rows nodes widened vertex read) (vertex_rows nodes widened vertex others)
  vertex_same vertex read others same =
      let head = head_of vertex in
      let count = head_count nodes vertex in
      let op = op_at nodes head in
      let widths = widths_at nodes head in
      let inputs = input_bags widths (take count read) in
      let inputs' = input_bags widths (take count others) in
      (chain_alike (drop 1 vertex.nodes) (head_bag op inputs) (head_bag op inputs') (drop count read) (drop count others)
      (head_alike op inputs inputs' (bags_alike widths (take count read) (take count others) (zip_take SameBag count read others same)))
      (zip_drop SameBag count read others same)).rows
