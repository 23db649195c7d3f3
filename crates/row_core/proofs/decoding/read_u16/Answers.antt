use Rattle.std.proofs.Common.{rules, arith, ◌^◌}
use Rattle.std.specs.Int.{w16}
use Rattle.row_core.proofs.Numbers.{wide16, begins_number}
use Rattle.row_core.proofs.decoding.read_u16.Goals as goal

pub returns : goal.returns
returns c = begins_number w16 (2 ^ 16) wide16 c.args.bytes.now c.in_ok-number.number.now c.in_ok-number.rest.now c.from_be_bytes.result (λ i. omega (arith, c.type_inv.bytes i)) (omega (arith, c.in_ok-number.ensures.cases.2)) c.in_ok-number.ensures.cases.0 c.in_ok-number.ensures.cases.1 c.from_be_bytes.ensures (search rules)
