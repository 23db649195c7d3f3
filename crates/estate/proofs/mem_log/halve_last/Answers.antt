use Rattle.std.proofs.Common.{◌++◌, ◌∷◌, [], ◌∙◌, ap, sym}
use Rattle.estate.specs.declared.write.Write.{Write}
use Rattle.estate.specs.Disk.{last_halved}
use Rattle.estate.proofs.Stepping.{halved_push}
use Rattle.estate.proofs.mem_log.halve_last.Goals as goal

pub returns-in_ok-push : goal.returns-in_ok-push
returns-in_ok-push c =
    c.in_ok-push.ensures.items
    ∙ ap (λ (w : Write). c.pop.new.self.items ++ w ∷ []) c.in_ok-halved.ensures
    ∙ sym (halved_push c.pop.new.self.items c.in-Some.last)
    ∙ sym (ap last_halved c.in-Some.ensures.items)
