-- A job that a log can start with.
use Rattle.std.specs.Prelude.{◌≡◌, ℕ, List, length}
use Rattle.event_codec.specs.Spelling.{IsShort}
use Rattle.graph_model.specs.declared.event.Event.TheVariants.{Started}
use Rattle.job_events.specs.Logs.{IsAccepted}
use Rattle.job_soundness.specs.Jobs.{Job}
use Rattle.plan_model.specs.TableNames.{tables_of}
use Rattle.plan_model.specs.declared.node.Node.{Node}
use Rattle.plan_model.specs.declared.setting_values.SettingValues.{SettingValues}

abbrev pub job_of : List ℕ → List ℕ → List Node → SettingValues → List (List ℕ) → Job
job_of name text nodes settings files = record {
  id = name;
  text = text;
  given = record { nodes = nodes; settings = settings; files = files };
}

-- its text says its name, plan and settings, and there are sizes for each table, so few that a word
-- counts them
pub record CanStart (job : Job) : Type 0 where
  pub accepted : IsAccepted job.text
      (record { name = job.id; plan = job.given.nodes; settings = job.given.settings })
  pub tables : length job.given.files ≡ length (tables_of job.given.nodes)
  pub short : IsShort (Started job.text job.given.files)
