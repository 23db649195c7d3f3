-- Bytes that stand from one place up to another.
use Rattle.std.proofs.Common.{◌≡◌, ℕ, ◌+◌, List, ◌++◌, take, drop, sym, ap, ◌∙◌}
use Rattle.std.proofs.lemmas.List.{take-append-drop, drop-drop}
use Rattle.part_files.specs.Sources.{Stands}

-- so many bytes from a place on stand up to where they end
pub front_stands : (n : ℕ) (bytes : List ℕ) (start end : ℕ) (part : List ℕ) → part ≡ take n (drop start bytes) → end ≡ start + n → Stands bytes start part end
front_stands n bytes start end part is ends =
    sym (take-append-drop n (drop start bytes))
    ∙ ap (λ (front : List ℕ). front ++ drop n (drop start bytes)) (sym is)
    ∙ ap (λ (rest : List ℕ). part ++ rest) (drop-drop n start bytes ∙ ap (λ (at : ℕ). drop at bytes) (sym ends))
