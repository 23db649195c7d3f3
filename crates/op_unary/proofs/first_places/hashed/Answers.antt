use Rattle.std.proofs.Common.{◌≡◌, ◌+◌, ◌++◌, ◌∷◌, [], List, length, sym, subst, ap, ◌∙◌, arith, length-append}
use Rattle.std.proofs.lemmas.List.{get_or_default}
use Rattle.op_unary.specs.Distinct.{row_at, IsOrder}
use Rattle.op_unary.specs.Hashes.{hash_of}
use Rattle.op_unary.specs.declared.hashed_row.HashedRow.{HashedRow}
use Rattle.op_unary.proofs.Places.{no_longer, one_more}
use Rattle.op_unary.proofs.first_places.hashed.Goals as goal

pub loop-place-preserved : goal.loop-place-preserved
loop-place-preserved c =
    let rows = c.args.rows.now in
    let before = c.loop-place.invariant in
    let all = c.loop-place.all.items in
    let hashed : HashedRow = record { hash = c.hash_row-hash.result; place = c.loop-place.place } in
    let more : c.push.new.self.items ≡ all ++ hashed ∷ [] = c.in_ok-push.ensures.items in
    let hash : hashed.hash ≡ hash_of (row_at rows hashed) =
    c.hash_row-hash.ensures ∙ ap hash_of (c.index-rows-place.is ∙ get_or_default rows c.loop-place.place c.index-rows-place.result [] c.loop-place-test.true) in (
      subst (λ (l : List HashedRow). IsOrder rows l) (sym more) (one_more rows all hashed before.0 (sym before.1) c.loop-place-test.true hash),
      ap (λ (l : List HashedRow). length l) more ∙ length-append all (hashed ∷ []) ∙ ap (λ n. n + 1) before.1,
    )

pub returns-clause-all : goal.returns-clause-all
returns-clause-all c =
    let last = c.loop-place.invariant in
    let most = no_longer c.args.rows.now c.loop-place.all.items last.0 in
    omega (arith, most, last.1, c.loop-place-test.false)
