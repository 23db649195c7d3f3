use Rattle.std.proofs.Common.{◌≡◌, ◌⊎◌, inl, inr, ℕ, ◌+◌, List, length, None, Result, Ok, Err, OnErr, IsErrOf, IsTrue, refl, ◌∙◌, ap, subst, arith, rules}
use Rattle.estate.specs.declared.estate_error.EstateError.{EstateError}
use Rattle.estate.specs.declared.estate_error.EstateError.TheVariants as estate
use Rattle.estate.specs.Holding.{Holding}
use Rattle.estate.specs.World.{World}
use Rattle.estate.specs.Changes.{Torn, Holds, Step, Leads}
use Rattle.estate.proofs.Laws.{leads_by, step_by}
use Rattle.event_log.specs.declared.log_error.LogError.{LogError}
use Rattle.event_log.specs.declared.log_error.LogError.TheVariants.{Fault}
use Rattle.event_log.specs.Blocks.{SameBlocks, MayGainBlock}
use Rattle.event_log.specs.Answers.{log_error}
use Rattle.event_log.specs.Started.{IsStarted}
use Rattle.event_log.proofs.Flushes.{behind_keeps, behind_started, gate_gains, gate_stays, block_lands, block_started}
use Rattle.event_log.proofs.StayingStarted.{same_started}
use Rattle.event_log.proofs.log.Log.flush.Goals as goal

refused : {T L : Type 0} (error : EstateError) (result : Result T LogError) → result ≡ Err (log_error error) → (error ≡ estate.NoMemory → L) → IsErrOf result Fault ⊎ L
refused estate.Failed result is memory = inl is
refused estate.NoMemory result is memory = inr (memory refl)

on_err : {T E P : Type 0} (result : Result T E) → P → OnErr result P
on_err (Ok x) p = tt
on_err (Err e) p = p

-- the same with the bytes that were written
wrote : (at : ℕ) (a b : World) (bytes same : List ℕ) → bytes ≡ same → Leads (Step (Torn at (length bytes)) None None) a b → Leads (Step (Torn at (length same)) None None) a b
wrote at a b bytes same is write = subst (λ (l : List ℕ). Leads (Step (Torn at (length l)) None None) a b) is write

durable : (at : ℕ) (a b : World) (bytes same : List ℕ) → bytes ≡ same → (IsTrue a.told → (image : Holding) → b.images b.now image → Holds a.holding.log at bytes image.log)
    → IsTrue a.told → (image : Holding) → b.images b.now image → Holds a.holding.log at same image.log
durable at a b bytes same is held told image here = subst (λ (l : List ℕ). Holds a.holding.log at l image.log) is (held told image here)

pub returns-in_err-write_synced-clause-adds : goal.returns-in_err-write_synced-clause-adds
returns-in_err-write_synced-clause-adds g c =
    let law = g.met.E.Estate.lawful in
    leads_by _ _ (law c.args.estate.now)
    (behind_keeps c.args.self.now.end _ _ (law c.args.estate.now) (law c.write_synced.new.estate) c.requires _ c.write_synced.ensures.leads)
    (λ d h from. step_by SameBlocks None None (MayGainBlock c.args.body.now) d h (λ is. inl is))

pub returns-in_err-write_synced-clause-adds_nothing : goal.returns-in_err-write_synced-clause-adds_nothing
returns-in_err-write_synced-clause-adds_nothing g c =
    let law = g.met.E.Estate.lawful in
    on_err _ (inr (behind_keeps c.args.self.now.end _ _ (law c.args.estate.now) (law c.write_synced.new.estate) c.requires _ c.write_synced.ensures.leads))

pub returns-in_err-write_synced-clause-started : goal.returns-in_err-write_synced-clause-started
returns-in_err-write_synced-clause-started g c =
    let law = g.met.E.Estate.lawful in
    inr (behind_started c.args.self.now.end _ _ (law c.args.estate.now) (law c.write_synced.new.estate) c.requires _ c.write_synced.ensures.leads)

pub returns-in_err-write_synced-2-clause-adds : goal.returns-in_err-write_synced-2-clause-adds
returns-in_err-write_synced-2-clause-adds g c =
    let law = g.met.E.Estate.lawful in
    let at = c.args.self.now.end + 1 in
    let a = g.E.Estate.world c.args.estate.now in
    let b = g.E.Estate.world c.write_synced.new.estate in
    let d = g.E.Estate.world c.write_synced-2.new.estate in
    gate_gains c.args.self.now.end c.args.body.now a b d (law c.args.estate.now) (law c.write_synced.new.estate) (law c.write_synced-2.new.estate) (omega (arith, c.len.ensures.bound)) c.requires
    (wrote at _ _ _ _ c.in_ok-block.ensures c.write_synced.ensures.leads)
    (durable at a b _ _ c.in_ok-block.ensures c.in_ok-write_synced.ensures.durable)
    (wrote c.args.self.now.end _ _ _ _ c.in_ok-open.ensures c.write_synced-2.ensures.leads)

pub returns-in_err-write_synced-2-clause-adds_nothing : goal.returns-in_err-write_synced-2-clause-adds_nothing
returns-in_err-write_synced-2-clause-adds_nothing g c =
    let law = g.met.E.Estate.lawful in
    let at = c.args.self.now.end + 1 in
    let a = g.E.Estate.world c.args.estate.now in
    let b = g.E.Estate.world c.write_synced.new.estate in
    let d = g.E.Estate.world c.write_synced-2.new.estate in
    on_err _ (refused c.in_err-write_synced-2.field-0.0 _ (search rules) (λ is.
    gate_stays c.args.self.now.end c.args.body.now a b d (law c.args.estate.now) (law c.write_synced.new.estate) (law c.write_synced-2.new.estate) (omega (arith, c.len.ensures.bound)) c.requires
    (wrote at _ _ _ _ c.in_ok-block.ensures c.write_synced.ensures.leads)
    (durable at a b _ _ c.in_ok-block.ensures c.in_ok-write_synced.ensures.durable)
    (c.write_synced-2.ensures.memory (c.in_err-write_synced-2.was ∙ ap Err is))))

pub returns-in_err-write_synced-2-clause-started : goal.returns-in_err-write_synced-2-clause-started
returns-in_err-write_synced-2-clause-started g c =
    let law = g.met.E.Estate.lawful in
    refused {L = IsStarted c.args.self.now.end (g.E.Estate.world c.write_synced-2.new.estate)} c.in_err-write_synced-2.field-0.0 _ (search rules) (λ is.
    same_started c.args.self.now.end None None _ _ (law c.write_synced-2.new.estate) (c.write_synced-2.ensures.memory (c.in_err-write_synced-2.was ∙ ap Err is))
    (behind_started c.args.self.now.end _ _ (law c.args.estate.now) (law c.write_synced.new.estate) c.requires _ c.write_synced.ensures.leads))

pub returns-clause-adds : goal.returns-clause-adds
returns-clause-adds g c =
    let law = g.met.E.Estate.lawful in
    let at = c.args.self.now.end + 1 in
    let a = g.E.Estate.world c.args.estate.now in
    let b = g.E.Estate.world c.write_synced.new.estate in
    let d = g.E.Estate.world c.write_synced-2.new.estate in
    gate_gains c.args.self.now.end c.args.body.now a b d (law c.args.estate.now) (law c.write_synced.new.estate) (law c.write_synced-2.new.estate) (omega (arith, c.len.ensures.bound)) c.requires
    (wrote at _ _ _ _ c.in_ok-block.ensures c.write_synced.ensures.leads)
    (durable at a b _ _ c.in_ok-block.ensures c.in_ok-write_synced.ensures.durable)
    (wrote c.args.self.now.end _ _ _ _ c.in_ok-open.ensures c.write_synced-2.ensures.leads)

pub returns-clause-lands : goal.returns-clause-lands
returns-clause-lands g c =
    let law = g.met.E.Estate.lawful in
    let at = c.args.self.now.end + 1 in
    let a = g.E.Estate.world c.args.estate.now in
    let b = g.E.Estate.world c.write_synced.new.estate in
    let d = g.E.Estate.world c.write_synced-2.new.estate in
    block_lands c.args.self.now.end c.args.body.now a b d (law c.args.estate.now) (law c.write_synced.new.estate) (law c.write_synced-2.new.estate) (omega (arith, c.len.ensures.bound)) c.requires
    (wrote at _ _ _ _ c.in_ok-block.ensures c.write_synced.ensures.leads)
    (durable at a b _ _ c.in_ok-block.ensures c.in_ok-write_synced.ensures.durable)
    (durable c.args.self.now.end b d _ _ c.in_ok-open.ensures c.in_ok-write_synced-2.ensures.durable)
    (wrote c.args.self.now.end _ _ _ _ c.in_ok-open.ensures c.write_synced-2.ensures.leads)

pub returns-clause-started : goal.returns-clause-started
returns-clause-started g c =
    let law = g.met.E.Estate.lawful in
    let at = c.args.self.now.end + 1 in
    let a = g.E.Estate.world c.args.estate.now in
    let b = g.E.Estate.world c.write_synced.new.estate in
    let d = g.E.Estate.world c.write_synced-2.new.estate in
    inr (block_started c.args.self.now.end c.args.body.now a b d (law c.args.estate.now) (law c.write_synced.new.estate) (law c.write_synced-2.new.estate) (omega (arith, c.len.ensures.bound)) c.requires
    (wrote at _ _ _ _ c.in_ok-block.ensures c.write_synced.ensures.leads)
    (durable at a b _ _ c.in_ok-block.ensures c.in_ok-write_synced.ensures.durable)
    (durable c.args.self.now.end b d _ _ c.in_ok-open.ensures c.in_ok-write_synced-2.ensures.durable)
    (wrote c.args.self.now.end _ _ _ _ c.in_ok-open.ensures c.write_synced-2.ensures.leads)
    _ (omega (arith, c.len.ensures.len)))
