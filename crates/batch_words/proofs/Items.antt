-- The items of words, from a place on.
use Rattle.std.proofs.Common.{◌≡◌, ℕ, ◌+◌, ◌<◌, ◌≤◌, List, [], ◌∷◌, length, drop, get_or, true, false, Some, None, arith, refl, ap, ◌∙◌}
use Rattle.std.specs.Str.{bytes_eq}
use Rattle.std.proofs.lemmas.List.{drop_more, drop_all}
use Rattle.batch_words.specs.Words.{option_name, lone_item, items_from}
use Rattle.batch_words.specs.Words.Item.{Workers}

items_from-lone : (at : ℕ) (word : List ℕ) (words : List (List ℕ)) → bytes_eq word option_name ≡ false →
    items_from at (word ∷ words) ≡ lone_item at word ∷ items_from (at + 1) words
items_from-lone at word [] other = refl
items_from-lone at word (next ∷ words) other = rw other

items_from-option : (at : ℕ) (word next : List ℕ) (words : List (List ℕ)) → bytes_eq word option_name ≡ true →
    items_from at (word ∷ next ∷ words) ≡ Workers at (Some (at + 1, next)) ∷ items_from (at + 2) words
items_from-option at word next words option = rw option

pub items_from-drop_lone : (texts : List (List ℕ)) (at : ℕ) → at < length texts → bytes_eq (get_or texts at []) option_name ≡ false →
    items_from at (drop at texts) ≡ lone_item at (get_or texts at []) ∷ items_from (at + 1) (drop (at + 1) texts)
items_from-drop_lone texts at inside other =
    rw (drop_more texts at [] inside) (items_from-lone at (get_or texts at []) (drop (at + 1) texts) other)

pub items_from-drop_option : (texts : List (List ℕ)) (at : ℕ) → at + 1 < length texts → bytes_eq (get_or texts at []) option_name ≡ true →
    items_from at (drop at texts) ≡ Workers at (Some (at + 1, get_or texts (at + 1) [])) ∷ items_from (at + 2) (drop (at + 2) texts)
items_from-drop_option texts at inside option =
    let next : drop (at + 1) texts ≡ get_or texts (at + 1) [] ∷ drop (at + 2) texts =
    drop_more texts (at + 1) [] inside ∙ ap (λ n. get_or texts (at + 1) [] ∷ drop n texts) (omega arith) in
    rw (drop_more texts at [] (omega arith), next) (items_from-option at (get_or texts at []) (get_or texts (at + 1) []) (drop (at + 2) texts) option)

pub items_from-drop_last : (texts : List (List ℕ)) (at : ℕ) → at < length texts → length texts ≤ at + 1 → bytes_eq (get_or texts at []) option_name ≡ true →
    items_from at (drop at texts) ≡ Workers at None ∷ []
items_from-drop_last texts at inside last option =
    let none : drop (at + 1) texts ≡ [] = grind (arith, drop_all) in
    rw (drop_more texts at [] inside, none) (rw option)
