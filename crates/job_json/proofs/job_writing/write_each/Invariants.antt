use Rattle.std.proofs.Common.{◌≡◌, drop, map}
use Rattle.serde_json.specs.Data.{no_members}
use Rattle.serde_json.specs.View.{members_view}
use Rattle.job_json.specs.Spelling.{puts, setting_member}
use Rattle.job_json.proofs.job_writing.write_each.Given as goal

abbrev pub invariant-loop-setting : goal.invariant-loop-setting
invariant-loop-setting l = puts (map (setting_member l.settings) (drop l.setting-index l.list)) (members_view l.members.entries) ≡ puts (map (setting_member l.settings) l.list) no_members
