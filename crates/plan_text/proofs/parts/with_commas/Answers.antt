use Rattle.std.proofs.Common.{◌≡◌, ℕ, List, [], ◌∷◌, ◌++◌, take, sym, ◌∙◌, ap, append_assoc, arith}
use Rattle.plan_text.specs.Lines.{with_commas}
use Rattle.plan_text.proofs.Commas.{text_first, text_more}
use Rattle.plan_text.proofs.parts.with_commas.Goals as goal
use Rattle.plan_text.proofs.parts.with_commas.Goals.{then-place-gt0+in_ok-push, else-place-gt0}

pub loop-place-preserved : goal.loop-place-preserved
loop-place-preserved c =
    let texts = c.args.texts.now in
    let k = c.loop-place.place in
    let text = c.index-texts-place.result in
    let before = with_commas (take k texts) in
    let grown : c.extend.new.self ≡ c.if-place-gt0.all ++ text = c.in_ok-extend.ensures.ok ∙ ap (λ (l : List ℕ). c.if-place-gt0.all ++ l) c.as_slice.ensures in
    elim c.if-place-gt0.branch [
      | then-place-gt0+in_ok-push w ↦
          let comma : c.if-place-gt0.all ≡ before ++ 44 ∷ [] = w.all-is ∙ w.in_ok-push.ensures.ok ∙ ap (λ (l : List ℕ). l ++ 44 ∷ []) c.loop-place.invariant in
          grown ∙ ap (λ (l : List ℕ). l ++ text) comma ∙ append_assoc before (44 ∷ []) text
          ∙ sym (text_more texts k text w.if-place-gt0.true c.loop-place-test.true c.index-texts-place.is)
      | else-place-gt0 w ↦
          let none : k ≡ 0 = omega (arith, w.if-place-gt0.false) in
          grown ∙ ap (λ (l : List ℕ). l ++ text) (w.all-is ∙ c.loop-place.invariant)
          ∙ sym (text_first texts k text none c.loop-place-test.true c.index-texts-place.is)
    ]
