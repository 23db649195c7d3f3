use Rattle.std.proofs.Common.{◌≡◌, ℕ, ◌∙◌, List, sym, subst}
use Rattle.plan_model.specs.declared.node.Node.{Node}
use Rattle.plan_model.specs.declared.setting_values.SettingValues.{SettingValues}
use Rattle.job_json.specs.Texts.{IsWellFormed}
use Rattle.job_json.specs.declared.job.Job.{Job}
use Rattle.job_generator.specs.GeneratedJob.{generated_nodes}
use Rattle.job_generator.proofs.Printed.{well_formed}
use Rattle.job_generator.proofs.job.generated_job.Goals as goal

pub returns-clause-well_formed : goal.returns-clause-well_formed
returns-clause-well_formed c =
    let job : List ℕ × List Node × SettingValues → Job = λ x. record { name = x.0; plan = x.1; settings = x.2 } in
    let plan : c.from_vec.result ≡ generated_nodes = c.from_vec.ensures ∙ c.in_ok-nodes.ensures in
    subst (λ x. IsWellFormed (job x)) (λ i. (sym c.in_ok-name.ensures i, sym plan i, sym c.settings.ensures i)) (well_formed c.args.n c.requires)
