use Rattle.std.proofs.Common.{refl}
use Rattle.std.proofs.lemmas.Result.{err_from_is_err_and}
use Rattle.batch_words.proofs.words.run_order.Goals as goal

pub returns-in_err-reading : goal.returns-in_err-reading
returns-in_err-reading c =
    let p = err_from_is_err_and c.from_residual.result c.from_residual.ensures.1 in
    let (fault, first, is) = c.in_err-reading.ensures in
    rw (p.1, p.2, first, is) refl

pub returns : goal.returns
returns c =
    let (none, holds) = c.in_ok-reading.ensures in
    rw (none, ← holds.workers, c.unwrap_or.ensures) refl
