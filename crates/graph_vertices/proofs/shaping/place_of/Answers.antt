use Rattle.std.proofs.Common.{◌≡◌, ◌<◌, ℕ, List, [], length, get_or, sym, ◌∙◌, ap, arith, true}
use Rattle.std.specs.Str.{bytes_eq}
use Rattle.std.proofs.lemmas.List.Sums.{position_or_len_is}
use Rattle.graph_vertices.proofs.shaping.place_of.Goals as goal

pub returns-then-equals : goal.returns-then-equals
returns-then-equals c =
    let names = c.args.names.now in
    let test = bytes_eq c.args.name.now in
    let place = c.loop-place.place in
    let lt : place < length names = c.loop-place-test.true in
    let it : List ℕ = c.index-names-place.result in
    let here : test (get_or names place it) ≡ true = ap test (sym c.index-names-place.is) ∙ sym c.equals.ensures.test ∙ c.if-equals.true in
    sym (position_or_len_is test names place it (omega (arith, lt)) (λ k less. c.loop-place.invariant k it less) (λ _. here))

pub returns : goal.returns
returns c =
    let names = c.args.names.now in
    let test = bytes_eq c.args.name.now in
    sym (position_or_len_is test names (length names) [] (omega arith) (λ k less. c.loop-place.invariant k [] (omega (arith, less, c.loop-place-test.false))) (λ lt. absurd (omega (arith, lt))))
