use Rattle.std.proofs.Common.{◌∷◌, [], cond, nat_le, take, ◌∙◌, ap, sym, arith}
use Rattle.estate.specs.declared.log_change.LogChange.{LogChange}
use Rattle.estate.specs.Disk.{Disk, after_changes, disk_at}
use Rattle.estate.proofs.Stepping.{disk_more}
use Rattle.estate.proofs.mem_log.replayed.Goals as goal

pub loop-change-preserved : goal.loop-change-preserved
loop-change-preserved c =
    let u = c.args.moment in
    let changes = c.args.changes.now in
    let i = c.loop-change.change-index in
    let change = c.change-item.result in
    c.in_ok-take_change.ensures
    ∙ ap (λ (d : Disk). after_changes d (cond (nat_le change.since u) (change ∷ []) [])) c.loop-change.invariant
    ∙ ap (λ (x : LogChange). after_changes (disk_at u (take i changes)) (cond (nat_le x.since u) (x ∷ []) [])) c.change-item.is
    ∙ sym (disk_more u changes i change (omega arith))
