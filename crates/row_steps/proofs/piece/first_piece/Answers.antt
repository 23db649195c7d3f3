use Rattle.std.proofs.Common.{◌==◌, ◌∷◌, ℕ, List, take, sym, ap, ◌∙◌}
use Rattle.std.proofs.lemmas.Iterator.Adapters.{position_from-zero}
use Rattle.std.proofs.lemmas.List.Quantifiers.{position-Some}
use Rattle.plan_model.specs.Operators.{pieces}
use Rattle.row_steps.proofs.Pieces.{one_piece, cut_piece, rest_is}
use Rattle.row_steps.proofs.piece.first_piece.Goals as goal

pub returns-in-Some-clause-pieces : goal.returns-in-Some-clause-pieces
returns-in-Some-clause-pieces c =
    let at = c.in-Some.at in
    let text = c.args.text.now in
    let found = position-Some (λ (one : ℕ). one == c.args.separator) text at 0 (sym c.place_of.ensures ∙ c.in-Some.is) in
    cut_piece c.args.separator text at found.0 found.1 found.2
    ∙ ap (λ (rest : List ℕ). take at text ∷ pieces c.args.separator rest) (sym (rest_is text at))

pub returns-in-None-clause-pieces : goal.returns-in-None-clause-pieces
returns-in-None-clause-pieces c =
    one_piece c.args.separator c.args.text.now 0 (sym (position_from-zero (λ (one : ℕ). one == c.args.separator) c.args.text.now) ∙ sym c.place_of.ensures ∙ c.in-None.is)
