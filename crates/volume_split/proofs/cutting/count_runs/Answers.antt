use Rattle.std.proofs.Common.{◌-◌, List, ℕ, length, take, drop, arith}
use Rattle.volume_split.proofs.Filling.{count_joins, count_begins, count_end, count_whole}
use Rattle.volume_split.proofs.cutting.count_runs.Goals as goal
use Rattle.volume_split.proofs.cutting.count_runs.Goals.{in-Some, in-None}

pub loop-size-preserved : goal.loop-size-preserved
loop-size-preserved c =
    let rest : List ℕ = take (length c.args.sizes.now - 1) (drop 1 c.args.sizes.now) in
    elim c.match-joined.branch [
      | in-Some w ↦ record {
        all = omega (arith, c.loop-size.invariant.all, w.count-is, count_joins c.args.limit c.loop-size.total c.match-joined.total c.loop-size.size-index rest (omega arith) (omega (arith, w.total-is, w.in-Some.ensures)) (omega (arith, w.total-is, w.in-Some.ensures)));
        small = omega (arith, c.loop-size.invariant.small, w.count-is);
      }
      | in-None w ↦ record {
        all = omega (arith, c.loop-size.invariant.all, w.count-is, count_begins c.args.limit c.loop-size.total c.match-joined.total c.loop-size.size-index rest (omega arith) w.total-is (omega (arith, w.total-is, w.in-None.ensures)));
        small = omega (arith, c.loop-size.invariant.small, w.count-is);
      }
    ]

pub returns : goal.returns
returns c =
    let rest : List ℕ = take (length c.args.sizes.now - 1) (drop 1 c.args.sizes.now) in
    omega (arith, c.loop-size.invariant.all, count_end c.args.limit c.loop-size.total c.loop-size.size-index rest (omega arith), count_whole c.args.limit c.args.sizes.now (omega arith))
