use Rattle.std.proofs.Common.{sym, subst}
use Rattle.std.specs.List.{AllByRecursion}
use Rattle.row_groups.specs.Held.{keys_of}
use Rattle.hash_join.specs.Spelled.{SpellsSome}
use Rattle.hash_join.proofs.Building.{each_spelled}
use Rattle.hash_join.proofs.build_rows.BuildRows.finish.Goals as goal

pub new-requires-clause-spelled : goal.new-requires-clause-spelled
new-requires-clause-spelled c =
    let (rows, held) = c.requires in
    let built = c.args.self in
    subst (AllByRecursion (SpellsSome built.width)) (sym held.told) (each_spelled built.keys built.width rows (keys_of built.keys rows) held.wide)
