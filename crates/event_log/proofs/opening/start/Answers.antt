use Rattle.std.proofs.Common.{◌≡◌, ◌⊎◌, inl, inr, ℕ, ◌≤◌, List, length, Result, Ok, Err, OnErr, IsErrOf, IsTrue, refl, sym, ◌∙◌, ap, subst, arith, rules}
use Rattle.estate.specs.declared.estate_error.EstateError.{EstateError}
use Rattle.estate.specs.declared.estate_error.EstateError.TheVariants as estate
use Rattle.estate.proofs.Laws.{leads_stays, told_on}
use Rattle.event_log.specs.Blocks.{Reads}
use Rattle.event_log.specs.Answers.{AnswersBytes, log_error}
use Rattle.event_log.specs.declared.log_error.LogError.{LogError}
use Rattle.event_log.specs.declared.log_error.LogError.TheVariants.{Fault}
use Rattle.event_log.specs.declared.log.TheConstants.{LOG_LIMIT}
use Rattle.event_log.proofs.Reading.{read_blocks, read_within}
use Rattle.event_log.proofs.Starts.{adds_nothing, stays_fresh, then_fresh, synced_stays, read_started, fresh_of, bytes_of, limit_of, refused_log}
use Rattle.event_log.proofs.StayingStarted.{started_lands}
use Rattle.event_log.proofs.opening.start.Goals as goal

refused : {T L : Type 0} (error : EstateError) (result : Result T LogError) → result ≡ Err (log_error error) → (error ≡ estate.NoMemory → L) → IsErrOf result Fault ⊎ L
refused estate.Failed result is memory = inl is
refused estate.NoMemory result is memory = inr (memory refl)

on_err : {T E P : Type 0} (result : Result T E) → P → OnErr result P
on_err (Ok x) p = tt
on_err (Err e) p = p

pub returns-in_err-log_sync-clause-adds_nothing : goal.returns-in_err-log_sync-clause-adds_nothing
returns-in_err-log_sync-clause-adds_nothing g c = adds_nothing _ _ (g.met.E.Estate.lawful c.args.estate.now) (stays_fresh _ _ c.log_sync.ensures.leads)

pub returns-in_err-read_log-clause-adds_nothing : goal.returns-in_err-read_log-clause-adds_nothing
returns-in_err-read_log-clause-adds_nothing g c =
    let law = g.met.E.Estate.lawful in
    adds_nothing _ _ (law c.args.estate.now) (stays_fresh _ _ (leads_stays _ _ _ (law c.args.estate.now) (law c.log_sync.new.self) (law c.read_log.new.estate) c.log_sync.ensures.leads c.read_log.ensures.leads))

pub returns-in_err-read_log-clause-writes : goal.returns-in_err-read_log-clause-writes
returns-in_err-read_log-clause-writes g c =
    let law = g.met.E.Estate.lawful in
    stays_fresh _ _ (leads_stays _ _ _ (law c.args.estate.now) (law c.log_sync.new.self) (law c.read_log.new.estate) c.log_sync.ensures.leads c.read_log.ensures.leads)

pub returns-in_err-read_log-clause-unchanged : goal.returns-in_err-read_log-clause-unchanged
returns-in_err-read_log-clause-unchanged g c =
    let law = g.met.E.Estate.lawful in
    on_err _ (inr (leads_stays _ _ _ (law c.args.estate.now) (law c.log_sync.new.self) (law c.read_log.new.estate) c.log_sync.ensures.leads c.read_log.ensures.leads))

pub returns-in_err-close_fresh-in-None-clause-adds_nothing : goal.returns-in_err-close_fresh-in-None-clause-adds_nothing
returns-in_err-close_fresh-in-None-clause-adds_nothing g c =
    let law = g.met.E.Estate.lawful in
    adds_nothing _ _ (law c.args.estate.now) (then_fresh _ _ _ (law c.args.estate.now) (law c.read_log.new.estate) (law c.close_fresh.new.estate) (leads_stays _ _ _ (law c.args.estate.now) (law c.log_sync.new.self) (law c.read_log.new.estate) c.log_sync.ensures.leads c.read_log.ensures.leads) c.close_fresh.ensures.writes)

pub returns-in_err-close_fresh-in-None-clause-writes : goal.returns-in_err-close_fresh-in-None-clause-writes
returns-in_err-close_fresh-in-None-clause-writes g c =
    let law = g.met.E.Estate.lawful in
    then_fresh _ _ _ (law c.args.estate.now) (law c.read_log.new.estate) (law c.close_fresh.new.estate) (leads_stays _ _ _ (law c.args.estate.now) (law c.log_sync.new.self) (law c.read_log.new.estate) c.log_sync.ensures.leads c.read_log.ensures.leads) c.close_fresh.ensures.writes

pub returns-in_err-close_fresh-in-None-clause-unchanged : goal.returns-in_err-close_fresh-in-None-clause-unchanged
returns-in_err-close_fresh-in-None-clause-unchanged g c =
    let law = g.met.E.Estate.lawful in
    on_err _ (refused c.in_err-close_fresh-in-None.field-0.0 _ (search rules) (λ is.
    leads_stays _ _ _ (law c.args.estate.now) (law c.read_log.new.estate) (law c.close_fresh.new.estate)
    (leads_stays _ _ _ (law c.args.estate.now) (law c.log_sync.new.self) (law c.read_log.new.estate) c.log_sync.ensures.leads c.read_log.ensures.leads)
    (c.close_fresh.ensures.memory (c.in_err-close_fresh-in-None.was ∙ ap Err is))))

pub returns-in-None-clause-adds_nothing : goal.returns-in-None-clause-adds_nothing
returns-in-None-clause-adds_nothing g c =
    let law = g.met.E.Estate.lawful in
    adds_nothing _ _ (law c.args.estate.now) (then_fresh _ _ _ (law c.args.estate.now) (law c.read_log.new.estate) (law c.close_fresh.new.estate) (leads_stays _ _ _ (law c.args.estate.now) (law c.log_sync.new.self) (law c.read_log.new.estate) c.log_sync.ensures.leads c.read_log.ensures.leads) c.close_fresh.ensures.writes)

pub returns-in-None-clause-writes : goal.returns-in-None-clause-writes
returns-in-None-clause-writes g c =
    let law = g.met.E.Estate.lawful in
    then_fresh _ _ _ (law c.args.estate.now) (law c.read_log.new.estate) (law c.close_fresh.new.estate) (leads_stays _ _ _ (law c.args.estate.now) (law c.log_sync.new.self) (law c.read_log.new.estate) c.log_sync.ensures.leads c.read_log.ensures.leads) c.close_fresh.ensures.writes

pub returns-in-None-clause-answer : goal.returns-in-None-clause-answer
returns-in-None-clause-answer g c told =
    let kept = (c.log_sync.ensures.leads.holding told).log in
    let short = subst (λ (l : List ℕ). length l ≤ 1) kept (fresh_of _ _ c.in-None.is (c.in_ok-read_log.ensures.bytes (told_on _ _ c.log_sync.ensures.leads.time told))) in
    let most : length (g.E.Estate.world c.args.estate.now).holding.log ≤ LOG_LIMIT = omega (arith, short) in
    (inl (short, c.new.ensures), most)

pub returns-in-Ok-clause-adds_nothing : goal.returns-in-Ok-clause-adds_nothing
returns-in-Ok-clause-adds_nothing g c =
    let law = g.met.E.Estate.lawful in
    adds_nothing _ _ (law c.args.estate.now) (stays_fresh _ _ (leads_stays _ _ _ (law c.args.estate.now) (law c.log_sync.new.self) (law c.read_log.new.estate) c.log_sync.ensures.leads c.read_log.ensures.leads))

pub returns-in-Ok-clause-writes : goal.returns-in-Ok-clause-writes
returns-in-Ok-clause-writes g c =
    let law = g.met.E.Estate.lawful in
    stays_fresh _ _ (leads_stays _ _ _ (law c.args.estate.now) (law c.log_sync.new.self) (law c.read_log.new.estate) c.log_sync.ensures.leads c.read_log.ensures.leads)

pub returns-in-Ok-clause-answer : goal.returns-in-Ok-clause-answer
returns-in-Ok-clause-answer g c told =
    let kept = (c.log_sync.ensures.leads.holding told).log in
    let found = subst (λ (l : List ℕ). AnswersBytes l (Ok c.in_ok-read_log.field-0)) kept (c.in_ok-read_log.ensures.bytes (told_on _ _ c.log_sync.ensures.leads.time told)) in
    let bytes = bytes_of _ _ _ c.in-Some.is found in
    (subst (λ (l : List ℕ). Reads l c.in-Ok.blocks) (c.as_slice.ensures ∙ bytes.0) (read_blocks _ _ _ c.in-Ok.ensures), bytes.2)

pub returns-in-Ok-clause-started : goal.returns-in-Ok-clause-started
returns-in-Ok-clause-started g c told =
    let told_b = subst (λ t. IsTrue t) (c.read_log.ensures.leads.time).told told in
    let bytes = bytes_of _ _ _ c.in-Some.is (c.in_ok-read_log.ensures.bytes told_b) in
    read_started _ _ _ _ (c.as_slice.ensures ∙ bytes.0 ∙ sym (c.read_log.ensures.leads.holding told_b).log) c.in-Ok.ensures
    (synced_stays _ _ (g.met.E.Estate.lawful c.read_log.new.estate) c.read_log.ensures.leads c.in_ok-log_sync.ensures.durable)

pub invariant_of-result-in-Ok : goal.invariant_of-result-in-Ok
invariant_of-result-in-Ok g c =
    let most = limit_of _ _ c.in-Some.is c.in_ok-read_log.ensures.limit in
    record { within = omega (arith, read_within _ _ _ c.in-Ok.ensures, ap length c.as_slice.ensures, most) }

pub returns-clause-adds_nothing : goal.returns-clause-adds_nothing
returns-clause-adds_nothing g c =
    let law = g.met.E.Estate.lawful in
    adds_nothing _ _ (law c.args.estate.now) (stays_fresh _ _ (leads_stays _ _ _ (law c.args.estate.now) (law c.log_sync.new.self) (law c.read_log.new.estate) c.log_sync.ensures.leads c.read_log.ensures.leads))

pub returns-clause-writes : goal.returns-clause-writes
returns-clause-writes g c =
    let law = g.met.E.Estate.lawful in
    stays_fresh _ _ (leads_stays _ _ _ (law c.args.estate.now) (law c.log_sync.new.self) (law c.read_log.new.estate) c.log_sync.ensures.leads c.read_log.ensures.leads)

pub returns-clause-unchanged : goal.returns-clause-unchanged
returns-clause-unchanged g c =
    let law = g.met.E.Estate.lawful in
    inr (leads_stays _ _ _ (law c.args.estate.now) (law c.log_sync.new.self) (law c.read_log.new.estate) c.log_sync.ensures.leads c.read_log.ensures.leads)

pub returns-clause-answer : goal.returns-clause-answer
returns-clause-answer g c told =
    let kept = (c.log_sync.ensures.leads.holding told).log in
    let found = subst (λ (l : List ℕ). AnswersBytes l (Ok c.in_ok-read_log.field-0)) kept (c.in_ok-read_log.ensures.bytes (told_on _ _ c.log_sync.ensures.leads.time told)) in
    let bytes = bytes_of _ _ _ c.in-Some.is found in
    refused_log _ _ _ (c.as_slice.ensures ∙ bytes.0) bytes.1 bytes.2 c.in-Err.ensures

pub returns-in-Ok-clause-end : goal.returns-in-Ok-clause-end
returns-in-Ok-clause-end g c = (c.in-Ok.ensures).takes

pub returns-in-None-clause-lands : goal.returns-in-None-clause-lands
returns-in-None-clause-lands g c =
    started_lands 0 _ _ _ (g.met.E.Estate.lawful c.close_fresh.new.estate) (returns-in-None-clause-adds_nothing g c) (λ told. (returns-in-None-clause-answer g c told).0) c.in_ok-close_fresh-in-None.ensures.started

pub returns-in-Ok-clause-lands : goal.returns-in-Ok-clause-lands
returns-in-Ok-clause-lands g c =
    started_lands _ _ _ _ (g.met.E.Estate.lawful c.read_log.new.estate) (returns-in-Ok-clause-adds_nothing g c) (λ told. (returns-in-Ok-clause-answer g c told).0) (returns-in-Ok-clause-started g c)
