use Rattle.std.proofs.Common.{◌≤◌, length, subst, sym, inl, inr, arith}
use Rattle.std.proofs.lemmas.Bool.{cases_lt}
use Rattle.volume_split.specs.Runs.{greedy_runs}
use Rattle.volume_split.proofs.Fewest.{count_antitone, count_at_sum}
use Rattle.volume_split.proofs.Smallest.{least_from}
use Rattle.volume_split.proofs.choosing.least_limit.Goals as goal

pub loop-high-init : goal.loop-high-init
loop-high-init c =
    let one : length (greedy_runs c.total-high.result c.args.sizes.now) ≤ 1
    = subst (λ n. length (greedy_runs n c.args.sizes.now) ≤ 1) (sym c.total-high.ensures) (count_at_sum c.args.sizes.now) in
    record {
      many = c.requires.above;
      few = omega arith;
      ordered =
          elim (cases_lt c.args.target c.total-high.result) [
            | inl less ↦ less
            | inr more ↦ absurd (omega (arith, c.requires.above, c.requires.positive, one, count_antitone c.total-high.result c.args.target c.args.sizes.now more))
          ];
    }

pub returns : goal.returns
returns c = least_from c.args.most c.loop-high.low c.loop-high.high c.args.sizes.now (omega arith) c.loop-high.invariant.many c.loop-high.invariant.few
