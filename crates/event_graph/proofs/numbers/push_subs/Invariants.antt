use Rattle.std.proofs.Common.{◌≡◌, ◌+◌, ◌++◌, vec_len, vec_capacity}
use Rattle.event_graph.specs.Numbers.{own_subs}
use Rattle.event_graph.proofs.numbers.push_subs.Given as goal

abbrev pub invariant-loop-subtask : goal.invariant-loop-subtask
invariant-loop-subtask l = (l.subs.items ≡ l.initial.subs.items ++ own_subs l.vertex l.subtask)
    × (vec_len l.subs ≡ vec_len l.initial.subs + l.subtask) × (vec_capacity l.subs ≡ vec_capacity l.initial.subs)
