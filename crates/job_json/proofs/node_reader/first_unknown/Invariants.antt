use Rattle.std.proofs.Common.{◌≡◌}
use Rattle.serde_json.specs.View.{members_view}
use Rattle.job_json.specs.Members.{unknown_among}
use Rattle.job_json.proofs.node_reader.first_unknown.Given as goal

abbrev pub invariant-loop-name : goal.invariant-loop-name
invariant-loop-name l = unknown_among l.whose (members_view l.name-iterator) ≡ unknown_among l.whose (members_view l.members.entries)
