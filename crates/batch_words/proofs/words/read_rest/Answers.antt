use Rattle.std.proofs.Common.{◌≡◌, ℕ, List, [], drop, map, string_bytes, refl, arith}
use Rattle.std.proofs.lemmas.List.{length-map, drop_all}
use Rattle.std.proofs.lemmas.Result.{err_from_is_err_and}
use Rattle.batch_words.proofs.Agreement.{Holds-empty, read_more, read_all, fault_left}
use Rattle.batch_words.proofs.words.read_rest.Goals as goal

pub loop-at-init : goal.loop-at-init
loop-at-init c = (omega arith, record { read = []; are = refl; none = refl; holds = Holds-empty })

pub loop-at-preserved : goal.loop-at-preserved
loop-at-preserved c = (c.in_ok-at.ensures.next.1, read_more c.args.takes_number c.loop-at.reading c.read.new.self _ _ _ c.loop-at.invariant.1 (c.in_ok-at.ensures.read c.loop-at.invariant.1.read c.loop-at.invariant.1.holds))

pub returns-in_err-at : goal.returns-in_err-at
returns-in_err-at c =
    let p = err_from_is_err_and c.from_residual.result c.from_residual.ensures.1 in
    rw (p.1, p.2) (fault_left c.args.takes_number c.loop-at.reading _ _ _ c.loop-at.invariant.1 (c.in_err-at.ensures.read c.loop-at.invariant.1.read c.loop-at.invariant.1.holds))

pub returns : goal.returns
returns c =
    let texts : List (List ℕ) = map string_bytes c.args.words.now in
    let none : drop c.loop-at.at texts ≡ [] = drop_all c.loop-at.at texts (omega (arith, length-map c.args.words.now string_bytes)) in
    read_all c.args.takes_number c.loop-at.reading _ (rw none at c.loop-at.invariant.1)
