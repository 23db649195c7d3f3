-- What a reader of nodes returns.
use Rattle.std.specs.Prelude.{IsTrue, Result, IfOk}
use Rattle.plan_model.specs.declared.node.Node.{Node}
use Rattle.job_json.specs.Faults.{Gives}
use Rattle.job_json.specs.WellFormed.{has_utf8_texts_in}
use Rattle.job_json.specs.declared.job_error.JobError.{JobError}
use Rattle.job_json.specs.declared.job_fault.JobFault.{JobFault}

-- the node, whose texts are UTF-8, or the first fault, unless memory ran out
abbrev pub GivesNode : Result Node JobError → Result Node JobFault → Type 0
GivesNode result reading =
    Gives (λ node. node) result reading × IfOk result (λ node. IsTrue (has_utf8_texts_in node))
