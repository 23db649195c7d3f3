use Rattle.std.proofs.Common.{List, ℕ, ◌∙◌, sym, subst}
use Rattle.std.specs.Prelude.{Contains}
use Rattle.rerun_set.proofs.Finding.{any_contains}
use Rattle.rerun_set.proofs.task_set.TaskSet.contains.Goals as goal

pub returns : goal.returns
returns c =
    let keys = c.self.inside.numbers.keys in
    let (to, back) = any_contains keys c.args.number in (
      λ is. subst (λ (l : List ℕ). Contains l c.args.number) c.self.view_is (to (sym c.contains.ensures ∙ is)),
      λ has. c.contains.ensures ∙ back (subst (λ (l : List ℕ). Contains l c.args.number) (sym c.self.view_is) has),
    )
