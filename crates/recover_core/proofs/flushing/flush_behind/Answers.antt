use Rattle.std.proofs.Common.{List, ℕ, Ok, subst, inl, inr, ◌⊎◌}
use Rattle.std.specs.Result.{IsErrOf}
use Rattle.event_log.specs.declared.log_error.LogError.{LogError}
use Rattle.event_log.specs.declared.log_error.LogError.TheVariants.{Fault}
use Rattle.estate.specs.Changes.{Leads}
use Rattle.event_log.specs.Blocks.{AddsBlock, LandsBehind}
use Rattle.recover_core.proofs.flushing.flush_behind.Goals as goal

unless_fault : {P : Type 0} (x : Unit) → IsErrOf {T = Unit} {E = LogError} (Ok x) Fault ⊎ P → P
unless_fault x (inl never) = absurd (cc never)
unless_fault x (inr is) = is

pub returns-in-Ok-clause-flushed : goal.returns-in-Ok-clause-flushed
returns-in-Ok-clause-flushed g c =
    let a = g.E.Estate.world c.args.estate.now in
    let b = g.E.Estate.world c.flush.new.estate in
    let spelled = c.in_ok-body.ensures.spelled in (
      c.in_ok-body.ensures.fits,
      subst (λ (l : List ℕ). Leads (AddsBlock l) a b) spelled c.in-Ok.ensures.adds,
      subst (λ (l : List ℕ). LandsBehind l a b) spelled c.in-Ok.ensures.lands,
      unless_fault c.in-Ok.field-0 c.in-Ok.ensures.started,
    )
