-- Edges among a plan's, and at their consumers and producers.
use Rattle.std.proofs.Common.{◌≡◌, ℕ, zero, suc, ◌+◌, ◌<◌, ◌==◌, All, false, List, [], ◌∷◌, length, get_or, Option, Some, None, slice_get, refl, sym, ◌∙◌, ap, subst, inl, inr, arith}
use Rattle.std.specs.Prelude.{Contains}
use Rattle.std.specs.Option.{option_map_or}
use Rattle.std.proofs.lemmas.List.Elements.{All-nil, All-cons, Contains-append_right}
use Rattle.std.proofs.lemmas.Option.{slice_get-get_or, slice_get_within}
use Rattle.plan_model.specs.declared.node.Node.{Node}
use Rattle.vertex_builder.specs.Edges.{edges_into, edges_of, chained_after, consumer_edges, input_edges, is_chained}
use Rattle.vertex_builder.specs.Inputs.{ComesFrom}
use Rattle.vertex_builder.specs.declared.edge.Edge.{Edge}
use Rattle.vertex_builder.specs.declared.widening.Widening.{Widening}
use Rattle.vertex_builder.proofs.Apart.{input_of}
use Rattle.vertex_builder.proofs.Chaining.{no_node}
use Rattle.vertex_builder.proofs.Coming as coming
use Rattle.vertex_builder.proofs.Covered.{in_edges_from}
use Rattle.vertex_builder.proofs.Membership.{IsIn, in_filter, same_yes}

-- ---- items of lists, by recursion

module _ {X : Type 0} where
  pub is_in : (xs : List X) (x : X) → Contains xs x → IsIn x xs
  is_in xs x has = at xs has.0 has.1 has.2
    where
      at : (ys : List X) (k : ℕ) → k < length ys → get_or ys k x ≡ x → IsIn x ys
      at [] k lt e = absurd (omega (arith, lt))
      at (y ∷ ys) zero lt e = inl (sym e)
      at (y ∷ ys) (suc k) lt e = inr (at ys k (omega (arith, lt)) e)

  pub contains : (xs : List X) (x : X) → IsIn x xs → Contains xs x
  contains [] x h = absurd h
  contains (y ∷ xs) x (inl e) = (0, omega arith, sym e)
  contains (y ∷ xs) x (inr h) = Contains-append_right (y ∷ []) xs x (contains xs x h)

-- ---- edges of a plan

pub comes_from : (nodes : List Node) (edge : Edge) → Contains (edges_of nodes) edge → ComesFrom nodes edge
comes_from nodes edge has =
    let input = input_of nodes edge (is_in (edges_of nodes) edge has) in
    ap (λ (o : Option Node). get_or (option_map_or (λ n. n.inputs) o []) edge.place 0) (slice_get-get_or nodes edge.into no_node input.within) ∙ input.item

pub input_among : (nodes : List Node) (node : ℕ) (edge : Edge) → Contains (input_edges nodes node) edge → Contains (edges_of nodes) edge
input_among nodes node edge has = contains (edges_of nodes) edge (at (slice_get nodes node) refl (is_in (input_edges nodes node) edge has))
  where
    at : (o : Option Node) → slice_get nodes node ≡ o → IsIn edge (option_map_or (λ n. edges_into node 0 n.inputs) o []) → IsIn edge (edges_of nodes)
    at None is h = absurd h
    at (Some it) is h =
        let within = slice_get_within nodes node it is in
        let same : Some it ≡ Some (get_or nodes node no_node) = sym is ∙ slice_get-get_or nodes node no_node within in
        in_edges_from 0 nodes node node edge within (omega arith)
        (subst (λ (o : Option Node). IsIn edge (option_map_or (λ n. edges_into node 0 n.inputs) o [])) same h)

pub is_consumer : (nodes : List Node) (edge : Edge) → Contains (edges_of nodes) edge → Contains (consumer_edges nodes edge.from) edge
is_consumer nodes edge has =
    contains (consumer_edges nodes edge.from) edge (in_filter edge (λ (e : Edge). e.from == edge.from) (edges_of nodes) (same_yes edge.from) (is_in (edges_of nodes) edge has))

pub into_edges : (nodes : List Node) (node : ℕ) → All (λ edge. edge.into ≡ node) (input_edges nodes node)
into_edges nodes node = at (slice_get nodes node)
  where
    into : (place : ℕ) (inputs : List ℕ) → All (λ edge. edge.into ≡ node) (edges_into node place inputs)
    into place [] = All-nil (λ edge. edge.into ≡ node)
    into place (input ∷ inputs) = All-cons (λ edge. edge.into ≡ node) (record { from = input; into = node; place = place }) (edges_into node (place + 1) inputs) refl (into (place + 1) inputs)

    at : (o : Option Node) → All (λ edge. edge.into ≡ node) (option_map_or (λ n. edges_into node 0 n.inputs) o [])
    at None = All-nil (λ edge. edge.into ≡ node)
    at (Some n) = into 0 n.inputs

pub nothing_after : (nodes : List Node) (widened : List Widening) (edge : Edge) → Contains (edges_of nodes) edge → is_chained nodes widened edge ≡ false → chained_after nodes widened edge.from ≡ None
nothing_after nodes widened edge has un = coming.nothing_after nodes widened edge (is_in (edges_of nodes) edge has) un
