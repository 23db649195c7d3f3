use Rattle.std.proofs.Common.{length, None, Result, Ok, Err, OnOk, ◌∙◌}
use Rattle.estate.specs.Changes.{Torn}
use Rattle.estate.proofs.Laws.{leads_before, told_on}
use Rattle.event_log.proofs.write.write_synced.Goals as goal

on_ok : {T E P Q : Type 0} (result : Result T E) → (P → Q) → OnOk result P → OnOk result Q
on_ok (Ok x) follows holds = follows holds
on_ok (Err e) follows holds = holds

pub returns-clause-leads : goal.returns-clause-leads
returns-clause-leads g c =
    let law = g.met.E.Estate.lawful in
    leads_before (Torn c.args.at (length c.args.bytes.now)) None None _ _ _ (law c.args.estate.now) (law c.log_write.new.self) (law c.log_sync.new.self) c.log_write.ensures.leads c.log_sync.ensures.leads

pub returns-clause-durable : goal.returns-clause-durable
returns-clause-durable g c =
    on_ok c.log_sync.result
    (λ durable told image here.
    durable image here
    ∙ (c.log_sync.ensures.leads.holding (told_on _ _ c.log_write.ensures.leads.time told)).log
    ∙ c.in_ok-log_write.ensures.written told)
    c.log_sync.ensures.durable
