use Rattle.number_set.proofs.Growing.{IsGrowing}
use Rattle.number_set.proofs.levels.new_levels.Given as goal

abbrev pub invariant-loop-size : goal.invariant-loop-size
invariant-loop-size l = IsGrowing l.levels.items l.count l.mark l.size

abbrev pub decreases-loop-size : goal.decreases-loop-size
decreases-loop-size l = l.size
