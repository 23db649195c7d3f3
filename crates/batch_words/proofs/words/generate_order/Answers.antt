use Rattle.std.proofs.Common.{refl}
use Rattle.std.proofs.lemmas.Result.{err_from_is_err_and}
use Rattle.batch_words.proofs.words.generate_order.Goals as goal

pub returns-in_err-reading : goal.returns-in_err-reading
returns-in_err-reading c =
    let p = err_from_is_err_and c.from_residual.result c.from_residual.ensures.1 in
    let (fault, first, is) = c.in_err-reading.ensures in
    rw (p.1, p.2, first, is) refl

pub returns-in-Some : goal.returns-in-Some
returns-in-Some c =
    let (none, holds) = c.in_ok-reading.ensures in
    rw (none, ← holds.workers, ← holds.number, c.in-Some.is, c.unwrap_or.ensures) refl

pub returns-in-None : goal.returns-in-None
returns-in-None c =
    let (none, holds) = c.in_ok-reading.ensures in
    rw (none, ← holds.workers, ← holds.number, c.in-None.is, c.fault.ensures) refl
