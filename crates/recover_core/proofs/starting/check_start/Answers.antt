use Rattle.std.proofs.Common.{List, ℕ, IfErr, sym, subst, ◌∙◌}
use Rattle.recover_core.specs.Causes.{IsChange}
use Rattle.recover_core.specs.Starting.{Starts}
use Rattle.recover_core.proofs.Owning.{other_files, starts_second}
use Rattle.recover_core.proofs.starting.check_start.Goals as goal

pub returns-in_default-first_difference-clause-cause : goal.returns-in_default-first_difference-clause-cause
returns-in_default-first_difference-clause-cause c =
    let look = c.in-Some-Started.ensures.lookup in
    let events = c.args.events.now in
    let files = c.in-Some-Started.files in
    let second = starts_second events c.in-Some-Started.field-0.now c.in-Some-Started.text files look.3.0 look.3.1 c.in-Some-Started.field-0-is in
    let same = sym c.as_slice.ensures ∙ c.in_default-first_difference.ensures ∙ c.as_slice-in-Some-Started.ensures ∙ c.text.ensures in
    let starts = subst (λ (t : List ℕ). Starts events t files) same second in
    let change = subst (λ (f : List (List ℕ)). IfErr c.check_files.result (IsChange files f)) c.files.ensures c.check_files.ensures.cause in
    other_files c.args.job.now events files c.check_files.result starts change
