use Rattle.std.proofs.Common.{◌≡◌, ◌++◌, drop}
use Rattle.skew_splitter.specs.Joined.{joined_from}
use Rattle.skew_splitter.proofs.joining.joined.Given as goal

-- the rects so far, with those that what is left becomes, are all of them
abbrev pub invariant-loop-rect : goal.invariant-loop-rect
invariant-loop-rect l = l.all.items ++ joined_from l.rule l.last (drop l.rect-index l.rest) ≡ joined_from l.rule l.initial.last l.rest
