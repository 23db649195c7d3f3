use Rattle.std.proofs.Common.{◌≡◌, ◌⊎◌, ◌≤◌, ℕ, All, List, length, sum, subst, sym, ◌∙◌, ap}
use Rattle.volume_split.specs.declared.group.Group.{Group}
use Rattle.volume_split.specs.Runs.{greedy_runs}
use Rattle.volume_split.specs.Groups.{groups_of, runs_of}
use Rattle.volume_split.proofs.Places.{Filled, All-Filled, Parts-greedy, Filled-greedy, All-greedy_runs, concat-runs_of}
use Rattle.volume_split.proofs.cutting.cuts.Goals as goal

pub returns-clause-parted : goal.returns-clause-parted
returns-clause-parted c = rw (c.from_vec.ensures, c.in_ok-groups.ensures, c.as_slice.ensures) (Parts-greedy c.args.limit c.args.sizes.now)

pub returns-clause-filled : goal.returns-clause-filled
returns-clause-filled c =
    let filled : Filled c.from_vec.result = rw (c.from_vec.ensures, c.in_ok-groups.ensures, c.as_slice.ensures) (Filled-greedy c.args.limit c.args.sizes.now) in
    All-Filled c.from_vec.result filled

pub returns-clause-whole : goal.returns-clause-whole
returns-clause-whole c = concat-runs_of c.args.sizes.now 0 c.from_vec.result (returns-clause-parted c)

pub returns-clause-within : goal.returns-clause-within
returns-clause-within c =
    let is : c.from_vec.result ≡ groups_of (greedy_runs c.args.limit c.args.sizes.now)
    = c.from_vec.ensures ∙ c.in_ok-groups.ensures ∙ ap (λ (s : List ℕ). groups_of (greedy_runs c.args.limit s)) c.as_slice.ensures in
    subst (λ (gs : List Group). All (λ run. (sum run ≤ c.args.limit) ⊎ (length run ≡ 1)) (runs_of c.args.sizes.now gs)) (sym is) (All-greedy_runs c.args.limit c.args.sizes.now)
