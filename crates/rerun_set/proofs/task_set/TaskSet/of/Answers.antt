use Rattle.std.proofs.Common.{List, ℕ, [], sym, subst}
use Rattle.std.specs.Prelude.{Contains}
use Rattle.std.proofs.lemmas.List.{take_all}
use Rattle.rerun_set.specs.Found.{Finds}
use Rattle.rerun_set.proofs.Finding.{listed_more, listed_none}
use Rattle.rerun_set.proofs.task_set.TaskSet.of.Goals as goal

pub loop-number-init : goal.loop-number-init
loop-number-init c = subst (λ (l : List ℕ). Finds [] (Contains []) l) (sym c.new.ensures.empty) (listed_none c.args.numbers.now)

pub loop-number-preserved : goal.loop-number-preserved
loop-number-preserved c =
    listed_more c.args.numbers.now c.loop-number.set c.insert.new.self c.loop-number.number-index c.loop-number-test.true c.loop-number.invariant c.in_ok-insert.ensures

pub returns : goal.returns
returns c =
    subst (λ (l : List ℕ). Finds [] (Contains l) c.loop-number.set) (take_all c.loop-number.number-index c.args.numbers.now c.loop-number-test.false) c.loop-number.invariant
