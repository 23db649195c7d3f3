-- Of few attempts few are a subtask's.
use Rattle.std.proofs.Common.{ℕ, ◌+◌, ◌<◌, ◌≤◌, ◌^◌, List, length, arith}
use Rattle.std.specs.Prelude.{◌==◌, ◌&&◌}
use Rattle.std.proofs.lemmas.List.Sums.{count_by-le-length}
use Rattle.estate.specs.declared.part_name.PartName.{PartName}
use Rattle.attempt_names.specs.Attempts.{is_of, tries}

pub few_tries : (names : List PartName) (vertex subtask epoch : ℕ) → length names < 3 → tries names vertex subtask epoch + 1 < 2 ^ 32
few_tries names vertex subtask epoch few =
    let most : tries names vertex subtask epoch ≤ length names = count_by-le-length (λ (name : PartName). is_of vertex subtask name && name.epoch == epoch) names in
    grind (arith, most)
