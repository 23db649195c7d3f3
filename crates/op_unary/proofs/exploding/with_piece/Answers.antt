use Rattle.std.proofs.Common.{◌≡◌, ◌+◌, ◌∷◌, ◌++◌, [], ℕ, take, drop, suc, sym, ap, ◌∙◌, arith}
use Rattle.std.proofs.lemmas.Grind.{common_steps}
use Rattle.std.proofs.lemmas.List.{append_assoc, set_split}
use Rattle.row_core.specs.declared.value.Value.TheVariants.{Text}
use Rattle.bag_laws.specs.Rows.{OneRow as Row}
use Rattle.op_unary.proofs.exploding.with_piece.Goals as goal

pub returns : goal.returns
returns c =
    let values = c.args.row.now in
    let column = c.args.column in
    let piece = Text c.args.piece.now in
    let next : column + 1 ≡ suc column = omega arith in
    let front : c.push_copies.new.row ≡ take column values = grind (arith, common_steps, c.in_ok-push_copies.ensures, c.in_ok-made.ensures, c.as_slice-values.ensures) in
    let with : c.push.new.self ≡ take column values ++ piece ∷ [] = c.in_ok-push.ensures.ok ∙ (λ j. front j ++ Text (c.in_ok-from_slice.ensures j) ∷ []) in
    let all : c.push_copies-2.new.row ≡ c.push.new.self ++ drop (column + 1) values = grind (arith, common_steps, c.in_ok-push_copies-2.ensures, c.as_slice-values.ensures) in
    all ∙ ap (λ (row : Row). row ++ drop (column + 1) values) with ∙ append_assoc (take column values) (piece ∷ []) (drop (column + 1) values)
    ∙ ap (λ (n : ℕ). take column values ++ piece ∷ drop n values) next ∙ sym (set_split values column piece c.requires)
