-- Texts with commas between them, one text more at a time.
use Rattle.std.proofs.Common.{◌≡◌, ℕ, ◌+◌, ◌<◌, List, [], ◌∷◌, ◌++◌, length, take, get_or, refl, sym, ◌∙◌, ap, append_assoc, arith, length-take-le}
use Rattle.std.proofs.lemmas.List.{take_more}
use Rattle.plan_text.specs.Lines.{with_commas}

text_behind : (first : List ℕ) (texts : List (List ℕ)) (text : List ℕ) → with_commas (first ∷ (texts ++ text ∷ [])) ≡ with_commas (first ∷ texts) ++ 44 ∷ text
text_behind first [] text = refl
text_behind first (next ∷ texts) text =
    ap (λ (rest : List ℕ). first ++ 44 ∷ rest) (text_behind next texts text)
    ∙ sym (append_assoc first (44 ∷ with_commas (next ∷ texts)) (44 ∷ text))

behind_some : (texts : List (List ℕ)) (text : List ℕ) → 0 < length texts → with_commas (texts ++ text ∷ []) ≡ with_commas texts ++ 44 ∷ text
behind_some [] text lt = absurd (omega arith)
behind_some (first ∷ texts) text lt = text_behind first texts text

pub text_more : (texts : List (List ℕ)) (k : ℕ) (text : List ℕ) → 0 < k → k < length texts → text ≡ get_or texts k text → with_commas (take (k + 1) texts) ≡ with_commas (take k texts) ++ 44 ∷ text
text_more texts k text some lt is =
    let count : length (take k texts) ≡ k = length-take-le k texts (omega (arith, lt)) in
    ap with_commas (take_more texts k text lt ∙ ap (λ (t : List ℕ). take k texts ++ t ∷ []) (sym is))
    ∙ behind_some (take k texts) text (omega (arith, some, count))

pub text_first : (texts : List (List ℕ)) (k : ℕ) (text : List ℕ) → k ≡ 0 → k < length texts → text ≡ get_or texts k text → with_commas (take (k + 1) texts) ≡ with_commas (take k texts) ++ text
text_first texts k text none lt is =
    ap with_commas (take_more texts k text lt ∙ ap (λ (t : List ℕ). take k texts ++ t ∷ []) (sym is))
    ∙ ap (λ (n : ℕ). with_commas (take n texts ++ text ∷ [])) none
    ∙ ap (λ (n : ℕ). with_commas (take n texts) ++ text) (sym none)
