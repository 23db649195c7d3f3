use Rattle.std.proofs.Common.{◌≡◌, Bool, IsTrue, sym, subst, ◌∙◌}
use Rattle.estate.proofs.Laws.{keeps_contents_on}
use Rattle.job_events.specs.Logs.{IsAccepted}
use Rattle.batch_commands.specs.Jobs.{job_of}
use Rattle.batch_commands.specs.Views.{job_text}
use Rattle.batch_commands.specs.declared.job_view.JobView.{JobView}
use Rattle.batch_commands.proofs.OwnTables.{text_agrees}
use Rattle.batch_commands.proofs.job_text.job_text.Goals as goal

-- the text of reference: the tables' files are still those that the inputs tell
pub returns-clause-why : goal.returns-clause-why
returns-clause-why g c told =
    let contents = g.I.Inputs.contents in
    let old = contents c.args.inputs.now in
    let listed = contents c.list_tables.new.inputs in
    let job = c.in_ok-job.job in
    let keeps = keeps_contents_on old (contents c.job_text.new.self) listed c.job_text.ensures.keeps c.list_tables.ensures.reads.keeps in
    let accepted = subst (λ text. IsAccepted text (job_of job)) (c.in_ok-text.ensures.text told) c.in_ok-job.ensures.accepted in
    let text = c.in_ok-text_over-in-Reference.ensures.text (subst (λ (x : Bool). IsTrue x) (sym keeps.told) told) in
    let shown = text ∙ text_agrees listed.files old.files job.plan (keeps.files told) in
    (job_of job, accepted, subst (λ (view : JobView). c.in_ok-text_over-in-Reference.field-0 ≡ job_text view old.files (job_of job)) (sym c.in-Reference.is) shown)
