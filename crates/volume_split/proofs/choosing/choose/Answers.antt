use Rattle.volume_split.specs.Choices.{IsChosen}
use Rattle.volume_split.proofs.Places.{concat-runs_of}
use Rattle.volume_split.proofs.Choice.{chosen_parts, chosen_filled, chosen_few, chosen_enough, chosen_smallest}
use Rattle.volume_split.proofs.choosing.choose.Goals as goal

pub returns-clause-parted : goal.returns-clause-parted
returns-clause-parted c =
    let chosen : IsChosen c.args.target c.args.min c.args.max c.args.sizes.now c.from_vec.result = rw (c.from_vec.ensures, ← c.as_slice.ensures) c.in_ok-groups.ensures in
    chosen_parts c.args.target c.args.min c.args.max c.requires.positive c.requires.ordered c.args.sizes.now c.from_vec.result chosen

pub returns-clause-filled : goal.returns-clause-filled
returns-clause-filled c =
    let chosen : IsChosen c.args.target c.args.min c.args.max c.args.sizes.now c.from_vec.result = rw (c.from_vec.ensures, ← c.as_slice.ensures) c.in_ok-groups.ensures in
    chosen_filled c.args.target c.args.min c.args.max c.requires.positive c.requires.ordered c.args.sizes.now c.from_vec.result chosen

pub returns-clause-whole : goal.returns-clause-whole
returns-clause-whole c =
    let chosen : IsChosen c.args.target c.args.min c.args.max c.args.sizes.now c.from_vec.result = rw (c.from_vec.ensures, ← c.as_slice.ensures) c.in_ok-groups.ensures in
    concat-runs_of c.args.sizes.now 0 c.from_vec.result (chosen_parts c.args.target c.args.min c.args.max c.requires.positive c.requires.ordered c.args.sizes.now c.from_vec.result chosen)

pub returns-clause-few : goal.returns-clause-few
returns-clause-few c =
    let chosen : IsChosen c.args.target c.args.min c.args.max c.args.sizes.now c.from_vec.result = rw (c.from_vec.ensures, ← c.as_slice.ensures) c.in_ok-groups.ensures in
    chosen_few c.args.target c.args.min c.args.max c.requires.positive c.requires.ordered c.args.sizes.now c.from_vec.result chosen

pub returns-clause-smallest : goal.returns-clause-smallest
returns-clause-smallest c =
    let chosen : IsChosen c.args.target c.args.min c.args.max c.args.sizes.now c.from_vec.result = rw (c.from_vec.ensures, ← c.as_slice.ensures) c.in_ok-groups.ensures in
    chosen_smallest c.args.target c.args.min c.args.max c.requires.positive c.requires.ordered c.args.sizes.now c.from_vec.result chosen

pub returns-clause-enough : goal.returns-clause-enough
returns-clause-enough c =
    let chosen : IsChosen c.args.target c.args.min c.args.max c.args.sizes.now c.from_vec.result = rw (c.from_vec.ensures, ← c.as_slice.ensures) c.in_ok-groups.ensures in
    chosen_enough c.args.target c.args.min c.args.max c.requires.positive c.requires.ordered c.args.sizes.now c.from_vec.result chosen
