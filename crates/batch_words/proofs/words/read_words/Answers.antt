use Rattle.std.proofs.Common.{sym, drop, map, string_bytes}
use Rattle.batch_words.specs.Words.{items_from}
use Rattle.batch_words.proofs.Commands.{meaning-unknown, run_order-never, generate_order-never, generate_order-memory}
use Rattle.batch_words.proofs.words.read_words.Goals as goal

pub returns-in-run-clause-other_call : goal.returns-in-run-clause-other_call
returns-in-run-clause-other_call c = rw c.run_order.ensures (run_order-never (items_from 1 (drop 1 (map string_bytes c.args.words.now))))

pub returns-in-generate-clause-memory : goal.returns-in-generate-clause-memory
returns-in-generate-clause-memory c = rw c.generate_order.ensures (generate_order-memory (items_from 1 (drop 1 (map string_bytes c.args.words.now))))

pub returns-in-generate-clause-other_call : goal.returns-in-generate-clause-other_call
returns-in-generate-clause-other_call c = rw c.generate_order.ensures (generate_order-never (items_from 1 (drop 1 (map string_bytes c.args.words.now))))

pub returns-in_default-as_str-clause-meaning : goal.returns-in_default-as_str-clause-meaning
returns-in_default-as_str-clause-meaning c =
    let not = c.in_default-as_str in
    rw c.fault-in_default-as_str.ensures
    (sym (meaning-unknown c.args.words.now c.in-Some.command.now c.as_str.result.now c.in-Some.ensures.item.3.0 c.in-Some.ensures.item.1 c.as_str.ensures.value
    not.not-run not.not-generate not.not-check not.not-plan not.not-reference not.not-events))
