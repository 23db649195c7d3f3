use Rattle.std.proofs.Common.{◌≡◌, Some, None, Result, Err, refl, sym, ◌∙◌, ap, subst, rules}
use Rattle.estate.specs.World.{World}
use Rattle.estate.specs.Changes.{Same, Step, Stays, Leads}
use Rattle.estate.specs.declared.commit.Commit.{Commit}
use Rattle.estate.specs.declared.estate_error.EstateError.{EstateError}
use Rattle.estate.specs.declared.estate_error.EstateError.TheVariants as estate
use Rattle.estate.proofs.Laws.{leads_after, leads_stays}
use Rattle.sink_commit.specs.declared.committed.Committed.{Committed}
use Rattle.sink_commit.specs.declared.commit_error.CommitError.{CommitError}
use Rattle.sink_commit.specs.Answers.{commit_error, may_add}
use Rattle.sink_commit.proofs.commit.commit_once.Goals as goal

-- an append that failed may have added the commit, and one that was refused for want of memory added nothing
refused : (commit : Commit) (error : EstateError) (result : Result Committed CommitError) (a b : World) → result ≡ Err (commit_error error)
    → Leads (Step Same None (Some commit)) a b → (error ≡ estate.NoMemory → Leads Stays a b) → Leads (Step Same None (may_add commit result)) a b
refused commit estate.Failed result a b is leads memory = subst (λ (r : Result Committed CommitError). Leads (Step Same None (may_add commit r)) a b) (sym is) leads
refused commit estate.NoMemory result a b is leads memory = subst (λ (r : Result Committed CommitError). Leads (Step Same None (may_add commit r)) a b) (sym is) (memory refl)

pub returns-in_err-sink_commit-in-None-clause-adds : goal.returns-in_err-sink_commit-in-None-clause-adds
returns-in_err-sink_commit-in-None-clause-adds g c =
    let law = g.met.E.Estate.lawful in
    refused _ c.in_err-sink_commit-in-None.field-0.0 _ _ _ (search rules)
    (leads_after Same None (Some _) _ _ _ (law c.args.estate.now) (law c.sink_committed.new.self) (law c.sink_commit.new.self) (λ log. refl) c.sink_committed.ensures.leads c.sink_commit.ensures.leads)
    (λ is. leads_stays _ _ _ (law c.args.estate.now) (law c.sink_committed.new.self) (law c.sink_commit.new.self) c.sink_committed.ensures.leads (c.sink_commit.ensures.memory (c.in_err-sink_commit-in-None.was ∙ ap Err is)))

pub returns-in_ok-sink_commit-in-None-clause-adds : goal.returns-in_ok-sink_commit-in-None-clause-adds
returns-in_ok-sink_commit-in-None-clause-adds g c =
    let law = g.met.E.Estate.lawful in
    leads_after Same None (Some _) _ _ _ (law c.args.estate.now) (law c.sink_committed.new.self) (law c.sink_commit.new.self) (λ log. refl) c.sink_committed.ensures.leads c.sink_commit.ensures.leads
