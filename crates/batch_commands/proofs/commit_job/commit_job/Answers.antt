use Rattle.std.proofs.Common.{rules, arith, ◌≡◌, ℕ, Bool, false, Some, None, Option, List, ◌∷◌, ◌++◌, [], is_some, Result, Err, refl, sym, subst, ◌∙◌, ap, inl, inr}
use Rattle.std.specs.Prelude.{IfErr}
use Rattle.estate.specs.Changes.{Leads, Rose, Same, Stays}
use Rattle.estate.specs.World.{World}
use Rattle.estate.specs.declared.estate_error.EstateError.{EstateError}
use Rattle.estate.specs.declared.estate_error.EstateError.TheVariants as estate
use Rattle.estate.specs.declared.commit.Commit.{Commit}
use Rattle.estate.proofs.Laws.{keeps_contents_on}
use Rattle.estate.proofs.Laws.{leads_after, leads_stays, rose_later, told_on}
use Rattle.batch_commands.specs.Answers.{printed_line}
use Rattle.batch_commands.specs.declared.answer.Answer.TheVariants.{Finished}
use Rattle.batch_commands.specs.Commits.{StaysUnlessFailed}
use Rattle.job_events.specs.Logs.{IsAccepted}
use Rattle.batch_commands.specs.Jobs.{job_of}
use Rattle.batch_commands.specs.Refusals.{answer_to, estate_refusal}
use Rattle.batch_commands.specs.declared.refusal.Refusal.{Refusal}
use Rattle.batch_commands.proofs.Committing.{is_commit_of}
use Rattle.batch_commands.proofs.OneCommit.{once_under}
use Rattle.batch_commands.proofs.commit_job.commit_job.Goals as goal

nothing_found : {A : Type 0} (found : Option A) (test : Bool) → test ≡ is_some found → test ≡ false → found ≡ None
nothing_found None test is unset = refl
nothing_found (Some x) test is unset = cc

pub returns-in_err-sink_commit-clause-adds : goal.returns-in_err-sink_commit-clause-adds
returns-in_err-sink_commit-clause-adds g c =
    let contents = g.I.Inputs.contents in
    let law = g.met.E.Estate.lawful in
    let keeps = keeps_contents_on (contents c.args.inputs.now) (contents c.job_text.new.self) (contents c.list_tables.new.inputs) c.job_text.ensures.keeps c.list_tables.ensures.reads.keeps in
    record {
      commit = Some (record { id = c.in_ok-job.job.name; job = c.in_ok-job.job.text; text = c.in_ok-committed.committed });
      is = is_commit_of (contents c.args.inputs.now) (contents c.list_tables.new.inputs) keeps c.in_ok-text.text c.in_ok-text.ensures.text c.in_ok-job.job c.in_ok-job.ensures.accepted
          c.in_ok-job.ensures.text c.in_ok-committed.committed c.in_ok-committed.ensures.text;
      free = λ told. sym (c.in_ok-sink_committed.ensures.found told) ∙ nothing_found c.in_ok-sink_committed.field-0 c.is_some.result c.is_some.ensures c.if-is_some.false;
      leads = leads_after Same None (Some _) _ _ _ (law c.args.estate.now) (law c.sink_committed.new.self) (law c.sink_commit.new.self) (λ log. refl) c.sink_committed.ensures.leads c.sink_commit.ensures.leads;
    }

pub returns-clause-adds : goal.returns-clause-adds
returns-clause-adds g c =
    let contents = g.I.Inputs.contents in
    let law = g.met.E.Estate.lawful in
    let keeps = keeps_contents_on (contents c.args.inputs.now) (contents c.job_text.new.self) (contents c.list_tables.new.inputs) c.job_text.ensures.keeps c.list_tables.ensures.reads.keeps in
    record {
      commit = Some (record { id = c.in_ok-job.job.name; job = c.in_ok-job.job.text; text = c.in_ok-committed.committed });
      is = is_commit_of (contents c.args.inputs.now) (contents c.list_tables.new.inputs) keeps c.in_ok-text.text c.in_ok-text.ensures.text c.in_ok-job.job c.in_ok-job.ensures.accepted
          c.in_ok-job.ensures.text c.in_ok-committed.committed c.in_ok-committed.ensures.text;
      free = λ told. sym (c.in_ok-sink_committed.ensures.found told) ∙ nothing_found c.in_ok-sink_committed.field-0 c.is_some.result c.is_some.ensures c.if-is_some.false;
      leads = leads_after Same None (Some _) _ _ _ (law c.args.estate.now) (law c.sink_committed.new.self) (law c.sink_commit.new.self) (λ log. refl) c.sink_committed.ensures.leads c.sink_commit.ensures.leads;
    }

pub returns-clause-why : goal.returns-clause-why
returns-clause-why g c =
    let contents = g.I.Inputs.contents in
    let world = g.E.Estate.world in
    let job = c.in_ok-job.job in
    let text = c.in_ok-text.text in
    let keeps = keeps_contents_on (contents c.args.inputs.now) (contents c.job_text.new.self) (contents c.list_tables.new.inputs) c.job_text.ensures.keeps c.list_tables.ensures.reads.keeps in
    let commit : Commit = record { id = job.name; job = job.text; text = c.in_ok-committed.committed } in
    let asked = c.sink_committed.ensures.leads in
    record {
      name = job.name;
      names = c.in_ok-line.ensures ∙ ap (λ (name : List ℕ). printed_line name Finished) c.as_slice.ensures;
      is = λ told. (job_of job, subst (λ (t : List ℕ). IsAccepted t (job_of job)) (c.in_ok-text.ensures.text told) c.in_ok-job.ensures.accepted, refl);
      committed = λ told.
          let added = c.in_ok-sink_commit.ensures.committed (told_on (world c.args.estate.now) (world c.sink_committed.new.self) asked.time told)
          ∙ ap (λ (l : List Commit). l ++ commit ∷ []) (asked.holding told).commits in
          let none = sym (c.in_ok-sink_committed.ensures.found told) ∙ nothing_found c.in_ok-sink_committed.field-0 c.is_some.result c.is_some.ensures c.if-is_some.false in (
            commit,
            record {
              is = is_commit_of (contents c.args.inputs.now) (contents c.list_tables.new.inputs) keeps text c.in_ok-text.ensures.text job c.in_ok-job.ensures.accepted
                  c.in_ok-job.ensures.text c.in_ok-committed.committed c.in_ok-committed.ensures.text;
              added = added;
              once = once_under commit _ _ none added;
            },
            refl,
          );
    }

-- a commit that was refused for want of memory changed nothing, and any other counted a fault
unless_failed : {T : Type 0} (error : EstateError) (old new : World) (result : Result T Refusal) → result ≡ Err (estate_refusal error) → (error ≡ estate.Failed → Rose old.counts.sink_faults new.counts.sink_faults)
    → (error ≡ estate.NoMemory → Leads Stays old new) → IfErr result (λ refusal. StaysUnlessFailed old new (answer_to refusal))
unless_failed {T} estate.Failed old new result is failed memory =
    subst (λ (r : Result T Refusal). IfErr r (λ refusal. StaysUnlessFailed old new (answer_to refusal))) (sym is) (inr ((0, omega arith, refl), failed refl))
unless_failed {T} estate.NoMemory old new result is failed memory =
    subst (λ (r : Result T Refusal). IfErr r (λ refusal. StaysUnlessFailed old new (answer_to refusal))) (sym is) (inl (memory refl))

pub returns-in_err-sink_commit-clause-stays : goal.returns-in_err-sink_commit-clause-stays
returns-in_err-sink_commit-clause-stays g c =
    let world = g.E.Estate.world in
    let law = g.met.E.Estate.lawful in
    let asked = c.sink_committed.ensures.leads in
    unless_failed c.in_err-sink_commit.field-0.0 (world c.args.estate.now) (world c.sink_commit.new.self) c.from_residual-in_err-sink_commit.result (search rules)
    (λ is. rose_later (world c.args.estate.now).counts.sink_faults (world c.sink_committed.new.self).counts.sink_faults (world c.sink_commit.new.self).counts.sink_faults (asked.time).counts.sink_faults
    (c.sink_commit.ensures.cause (c.in_err-sink_commit.was ∙ ap Err is)))
    (λ is. leads_stays (world c.args.estate.now) (world c.sink_committed.new.self) (world c.sink_commit.new.self) (law c.args.estate.now) (law c.sink_committed.new.self) (law c.sink_commit.new.self)
    asked (c.sink_commit.ensures.memory (c.in_err-sink_commit.was ∙ ap Err is)))
