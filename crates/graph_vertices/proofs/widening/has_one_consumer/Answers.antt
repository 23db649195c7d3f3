use Rattle.std.proofs.Common.{◌≡◌, ℕ, List, true, length, min, take, nat_eq, ap, ◌∙◌, arith}
use Rattle.std.specs.Prelude.{◌↔◌, IsTrue}
use Rattle.std.specs.List.{sum_by}
use Rattle.std.proofs.lemmas.Bool.Decides.{nat_tests}
use Rattle.std.proofs.lemmas.List.{take_all}
use Rattle.plan_model.specs.declared.node.Node.{Node}
use Rattle.vertex_builder.specs.Edges.{consumer_edges}
use Rattle.graph_vertices.proofs.Consumers.{consumers_count, times}
use Rattle.graph_vertices.proofs.widening.has_one_consumer.Goals as goal

is_same : (m n : ℕ) → nat_eq m n ≡ true → m ≡ n
is_same m n e = grind (arith, nat_tests)

same_is : (m n : ℕ) → m ≡ n → nat_eq m n ≡ true
same_is m n e = grind (arith, nat_tests)

one_is : (seen total count : ℕ) → seen ≡ min 2 total → count ≡ total → IsTrue (nat_eq seen 1) ↔ (count ≡ 1)
one_is seen total count least all =
    (λ e. let one : seen ≡ 1 = is_same seen 1 e in omega (arith, least, all, one), λ is. same_is seen 1 (omega (arith, least, all, is)))

pub returns : goal.returns
returns c =
    let nodes = c.args.nodes.now in
    let node = c.args.node in
    let whole : take c.loop-place.place nodes ≡ nodes = take_all c.loop-place.place nodes c.loop-place-test.false in
    one_is c.loop-place.seen (sum_by (times node) nodes) (length (consumer_edges nodes node))
    (c.loop-place.invariant ∙ ap (λ (l : List Node). min 2 (sum_by (times node) l)) whole) (consumers_count nodes node)
