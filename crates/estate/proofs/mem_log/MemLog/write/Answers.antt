use Rattle.std.proofs.Common.{◌≡◌, ◌++◌, ◌∷◌, [], List, ◌∙◌, sym, ap}
use Rattle.estate.specs.declared.write.Write.{Write}
use Rattle.estate.specs.declared.log_event.LogEvent.TheVariants.{Wrote}
use Rattle.estate.specs.declared.log_change.LogChange.{LogChange}
use Rattle.estate.specs.Disk.{overwritten, whole_log, disk_of}
use Rattle.estate.proofs.Stepping.{whole_write}
use Rattle.estate.proofs.mem_log.MemLog.write.Goals as goal

pub invariant_of-self-2-clause-is : goal.invariant_of-self-2-clause-is
invariant_of-self-2-clause-is c =
    let old = c.args.self.now.changes.items in
    let write : Write = record { at = c.args.at; bytes = c.in_ok-from_slice.field-0 } in
    let one : LogChange = record { since = c.args.since; event = Wrote write } in
    let written : c.overwrite.new.log.items ≡ overwritten c.args.self.now.bytes.items c.args.at c.as_slice-2.result.now = c.in_ok-overwrite.ensures.ok in
    let was : c.args.self.now.bytes.items ≡ whole_log (disk_of old) = c.args.self.now.is in
    let copied : c.in_ok-from_slice.field-0 ≡ c.as_slice.result.now = c.in_ok-from_slice.ensures in
    let first : c.as_slice.result.now ≡ c.args.bytes.now = c.as_slice.ensures in
    let second : c.as_slice-2.result.now ≡ c.args.bytes.now = c.as_slice-2.ensures in
    let bytes : c.as_slice-2.result.now ≡ c.in_ok-from_slice.field-0 = second ∙ sym first ∙ sym copied in
    let after = whole_write old c.push_reserved.new.self.items c.args.since write (c.push_reserved.ensures.items ∙ ap (λ (l : List LogChange). l ++ one ∷ []) c.reserve.ensures.items) in
    written ∙ ap (λ l. overwritten l c.args.at c.as_slice-2.result.now) was ∙ ap (λ l. overwritten (whole_log (disk_of old)) c.args.at l) bytes ∙ sym after
