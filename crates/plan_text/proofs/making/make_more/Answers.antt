use Rattle.std.proofs.Common.{◌≡◌, ◌++◌, List, [], All, sym, ◌∙◌, subst}
use Rattle.std.proofs.lemmas.List.Elements.{All-append}
use Rattle.vertex_builder.specs.declared.vertex.Vertex.{Vertex}
use Rattle.vertex_builder.specs.declared.widening.Widening.{Widening}
use Rattle.vertex_builder.specs.Vertices.{IsVertex}
use Rattle.plan_text.proofs.making.make_more.Goals as goal

pub returns-clause-vertices : goal.returns-clause-vertices
returns-clause-vertices c =
    let nodes = c.args.plan.now in
    let max_parallelism = c.args.settings.now.max_parallelism in
    let P : Vertex → Type 0 = IsVertex nodes [] max_parallelism in
    let old = c.args.vertices.now.items in
    let more = c.into_vec.result.items in
    let none : c.from_vec-widened.result ≡ [] = c.from_vec-widened.ensures ∙ c.new.ensures.items in
    let here : All (IsVertex nodes c.from_vec-widened.result max_parallelism) more = subst (All (IsVertex nodes c.from_vec-widened.result max_parallelism)) (sym c.into_vec.ensures) c.in_ok-more.ensures.vertices in
    let made : All P more = subst (λ (ws : List Widening). All (IsVertex nodes ws max_parallelism) more) none here in
    let both : c.append.new.self.items ≡ old ++ more = c.in_ok-append.ensures.items in
    subst (All P) (sym both) (All-append P old more c.requires made)
