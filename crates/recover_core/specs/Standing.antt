-- How far a job has come.
use Rattle.std.specs.Prelude.{◌≡◌}
use Rattle.graph_model.specs.States.{State}
use Rattle.recover_core.specs.declared.standing.Standing.{Standing}

-- the last epoch, the number of troubles, and how the job ended
pub record IsStanding (state : State) (standing : Standing) : Type 0 where
  pub epoch : standing.epoch ≡ state.epoch
  pub troubles : standing.troubles ≡ state.troubles
  pub ended : standing.ended ≡ state.ended
