use Rattle.std.proofs.Common.{List, ℕ, ◌≡◌, sym, subst}
use Rattle.rerun_set.specs.Found.{Finds}
use Rattle.rerun_set.proofs.Finding.{inserted}
use Rattle.rerun_set.proofs.task_set.TaskSet.insert.Goals as goal

pub returns : goal.returns
returns c =
    let keys = c.self.inside.numbers.keys in
    subst (λ (l : List ℕ). Finds l (λ n. n ≡ c.args.number) c.insert.new.self.keys) c.self.view_is
    (subst (λ (l : List ℕ). Finds keys (λ n. n ≡ c.args.number) l) (sym c.in_ok-insert.ensures.keys) (inserted keys c.args.number))
