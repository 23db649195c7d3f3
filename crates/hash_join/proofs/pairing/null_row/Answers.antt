use Rattle.std.proofs.Common.{◌≡◌, ◌∙◌, ap, arith}
use Rattle.plan_model.specs.Joins.{nulls}
use Rattle.hash_join.proofs.pairing.null_row.Goals as goal

pub returns : goal.returns
returns c =
    let all : c.loop-place._place ≡ c.args.width = omega arith in
    c.loop-place.invariant ∙ ap nulls all
