-- The job that a JSON value is, or its first fault.
use Rattle.std.specs.Prelude.{ℕ, nat_le, List, length, codes, Option, Some, None, Result, Ok}
use Rattle.serde_json.specs.Data.{Data, Members, no_members, member}
use Rattle.serde_json.specs.Find.{get, as_number, as_object, as_u64}
use Rattle.plan_model.specs.Settings.{setting_named, is_within, with_value, default_values}
use Rattle.plan_model.specs.declared.setting_values.SettingValues.{SettingValues}
use Rattle.job_json.specs.declared.reading.TheConstants.{NODE_LIMIT}
use Rattle.job_json.specs.Faults.{◌>>=◌, or_fault, check, fault, not_json}
use Rattle.job_json.specs.Members.{name_of, list_of, known_alone}
use Rattle.job_json.specs.Nodes.{nodes_from}
use Rattle.job_json.specs.declared.job.Job.{Job}
use Rattle.job_json.specs.declared.job_fault.JobFault.{JobFault}
use Rattle.job_json.specs.declared.job_fault_kind.JobFaultKind.TheVariants.{BadMember, BadNumber, UnknownMember, TooMany}
use Rattle.job_json.specs.declared.object.Object.TheVariants.{Top}

-- the settings, with this one as a member says
unfoldable pub with_setting : SettingValues → List ℕ → Data → Result SettingValues JobFault
with_setting settings name d = do
  setting ← or_fault (fault UnknownMember None name) (setting_named name)
  n ← or_fault (fault BadMember None name) (as_number d)
  value ← or_fault (fault BadNumber None name) (as_u64 n)
  within ← check (is_within settings setting value) (fault BadNumber None name)
  Ok (with_value settings setting value)

-- these members change these settings one after another
abbrev pub settings_from : SettingValues → Members → Result SettingValues JobFault
settings_from settings no_members = Ok settings
settings_from settings (member name d ms) =
    with_setting settings name d >>= λ changed. settings_from changed ms

-- what `settings` says, if it is there
abbrev pub settings_in : Option Data → Result SettingValues JobFault
settings_in None = Ok default_values
settings_in (Some value) =
    or_fault (fault BadMember None (codes "settings")) (as_object value)
    >>= settings_from default_values

-- the settings of a job
unfoldable pub settings_of : Data → Result SettingValues JobFault
settings_of d = settings_in (get (codes "settings") d)

-- the job that a value is, or its first fault
unfoldable pub job_of : Data → Result Job JobFault
job_of d = do
  members ← or_fault not_json (as_object d)
  name ← name_of None (codes "job") d
  items ← list_of None (codes "nodes") d
  settings ← settings_of d
  known ← known_alone None Top members
  few ← check (nat_le (length items) NODE_LIMIT)
      (fault (TooMany (length items)) None (codes "nodes"))
  nodes ← nodes_from 0 items
  Ok (record { name = name; plan = nodes; settings = settings })
