use Rattle.std.proofs.Common.{length, ap, arith}
use Rattle.recover_core.proofs.Lengths.{reset_length}
use Rattle.recover_core.proofs.sizing.reset_len.Goals as goal

pub returns-clause-len : goal.returns-clause-len
returns-clause-len c = omega (arith, reset_length c.args.gone.now c.args.subtasks.now, ap length c.as_slice.ensures, ap length c.as_slice-2.ensures)
