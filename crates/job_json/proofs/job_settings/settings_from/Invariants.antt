use Rattle.std.proofs.Common.{◌≡◌}
use Rattle.serde_json.specs.View.{members_view}
use Rattle.plan_model.specs.Settings.{default_values}
use Rattle.job_json.specs.Jobs.{settings_from}
use Rattle.job_json.proofs.job_settings.settings_from.Given as goal

abbrev pub invariant-loop-name : goal.invariant-loop-name
invariant-loop-name l = settings_from l.settings (members_view l.name-iterator) ≡ settings_from default_values (members_view l.members.entries)
