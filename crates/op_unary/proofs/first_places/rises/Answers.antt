use Rattle.std.proofs.Common.{◌≡◌, ℕ, ◌+◌, ◌<◌, Bool, true, false, nat_lt, List, length, get_or, rules, sym, subst, arith}
use Rattle.std.proofs.lemmas.Bool.{ltb-true}
use Rattle.std.proofs.lemmas.Fn.{always_returns_same}
use Rattle.std.specs.List.{AllAdjacentBelow, IsAllAdjacentAnswer}
use Rattle.op_unary.specs.declared.hashed_row.HashedRow.{HashedRow}
use Rattle.op_unary.proofs.first_places.rises.Goals as goal

abbrev less : HashedRow → HashedRow → Bool
less a b = nat_lt a.hash b.hash

when_true : (b : Bool) (places : List HashedRow) → IsAllAdjacentAnswer (λ x y r. r ≡ less x y) places b → b ≡ true → AllAdjacentBelow (λ x y. true ≡ less x y) places (length places)
when_true true places answer is = answer
when_true false places answer is = cc

pub returns : goal.returns
returns c = λ is k d lt.
    let places = c.args.places.now in
    let answer = c.is_sorted_by.ensures.cases less (always_returns_same _ _ _ (λ a r f' called. search rules)) in
    let here = when_true c.is_sorted_by.result places answer is k d (omega (arith, lt)) in
    subst (λ (n : ℕ). (get_or places k d).hash < (get_or places n d).hash) (omega arith) (ltb-true (get_or places k d).hash (get_or places (k + 1) d).hash (sym here))
