use Rattle.std.proofs.Common.{◌≡◌, List, sym, ◌∙◌, subst}
use Rattle.std.proofs.lemmas.Slice.Eq.{slice_eq-Decides}
use Rattle.std.specs.Bool.{Decides}
use Rattle.graph_model.specs.declared.sub.Sub.{Sub}
use Rattle.graph_model.specs.Closures.{IsClosure}
use Rattle.region_closure.proofs.Same.{subs_decide}
use Rattle.region_closure.proofs.closure.is_closure.Goals as goal

pub returns : goal.returns
returns c =
    let vs = c.args.vertices.now in
    let gone = c.args.gone.now in
    let set = c.args.set.now in
    let closure = c.in_ok-closure.closure in
    let same : Decides c.eq.result (c.as_slice.result.now ≡ set) = slice_eq-Decides subs_decide _ _ _ c.eq.ensures in (
      λ yes. subst (λ (l : List Sub). IsClosure vs gone l) (sym c.as_slice.ensures ∙ same.0 yes) c.in_ok-closure.ensures,
      λ other. same.1 (c.as_slice.ensures ∙ c.closures_are_one.ensures vs gone closure set c.in_ok-closure.ensures other),
    )
