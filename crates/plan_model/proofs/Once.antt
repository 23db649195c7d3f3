-- One of each name, one name more at a time.
use Rattle.std.proofs.Common.{◌≡◌, ℕ, Bool, true, false, not, ◌||◌, List, [], ◌∷◌, ◌++◌, filter, refl, sym, ◌∙◌, ap, if◌then◌else◌}
use Rattle.std.specs.List.{list_any}
use Rattle.std.specs.Str.{bytes_eq}
use Rattle.std.proofs.lemmas.Bool.Decides.{same_from_decides}
use Rattle.std.proofs.lemmas.List.{append-nil}
use Rattle.std.proofs.lemmas.List.Elements.{filter-append}
use Rattle.std.proofs.lemmas.Slice.Eq.{bytes_eq-Decides}
use Rattle.indexmap.specs.IndexSet.{insert_key}
use Rattle.plan_model.specs.TableNames.{each_once}

-- the names apart from one
abbrev others : List ℕ → List (List ℕ) → List (List ℕ)
others name names = filter (λ other. not (bytes_eq name other)) names

-- a name that is no other one is found where it is, with the other taken out
among_others : (name a : List ℕ) (names : List (List ℕ)) → bytes_eq name a ≡ false → list_any (bytes_eq name) (others a names) ≡ list_any (bytes_eq name) names
among_others name a [] apart = refl
among_others name a (b ∷ names) apart = by (among_others name a names apart) (bytes_eq a b) refl
  where
    by : list_any (bytes_eq name) (others a names) ≡ list_any (bytes_eq name) names → (same : Bool) → bytes_eq a b ≡ same
        → list_any (bytes_eq name) (if not same then b ∷ others a names else others a names) ≡ (bytes_eq name b || list_any (bytes_eq name) names)
    by rest true e =
        let apart_b : bytes_eq name b ≡ false = ap (bytes_eq name) (sym ((bytes_eq-Decides a b).0 e)) ∙ apart in
        rest ∙ ap (λ (found : Bool). found || list_any (bytes_eq name) names) (sym apart_b)
    by rest false e = ap (λ (found : Bool). bytes_eq name b || found) rest

swapped : (x y : List ℕ) → bytes_eq x y ≡ bytes_eq y x
swapped x y = same_from_decides (bytes_eq x y) (bytes_eq y x) (bytes_eq-Decides x y) ((λ e. sym ((bytes_eq-Decides y x).0 e)), (λ e. (bytes_eq-Decides y x).1 (sym e)))

-- one name more, behind the first
insert_others : (a name : List ℕ) (names : List (List ℕ)) → a ∷ others a (insert_key bytes_eq names name) ≡ insert_key bytes_eq (a ∷ others a names) name
insert_others a name names = by (bytes_eq name a) refl (list_any (bytes_eq name) names) refl
  where
    last : (same : Bool) → bytes_eq name a ≡ same → a ∷ others a (names ++ name ∷ []) ≡ a ∷ (others a names ++ (if not same then name ∷ [] else []))
    last same e = ap (λ (rest : List (List ℕ)). a ∷ rest) (filter-append (λ other. not (bytes_eq a other)) names (name ∷ [])
        ∙ ap (λ (b : Bool). others a names ++ (if not b then name ∷ [] else [])) (swapped a name ∙ e))

    by : (same : Bool) → bytes_eq name a ≡ same → (among : Bool) → list_any (bytes_eq name) names ≡ among
        → a ∷ others a (if among then names else names ++ name ∷ [])
        ≡ (if same || list_any (bytes_eq name) (others a names) then a ∷ others a names else a ∷ others a names ++ name ∷ [])
    by true e true e' = refl
    by true e false e' = last true e ∙ ap (λ (rest : List (List ℕ)). a ∷ rest) (append-nil (others a names))
    by false e true e' = sym (ap (λ (b : Bool). if b then a ∷ others a names else a ∷ others a names ++ name ∷ []) (among_others name a names e ∙ e'))
    by false e false e' = last false e ∙ sym (ap (λ (b : Bool). if b then a ∷ others a names else a ∷ others a names ++ name ∷ []) (among_others name a names e ∙ e'))

pub each_once-next : (names : List (List ℕ)) (name : List ℕ) → each_once (names ++ name ∷ []) ≡ insert_key bytes_eq (each_once names) name
each_once-next [] name = refl
each_once-next (a ∷ names) name = ap (λ (rest : List (List ℕ)). a ∷ others a rest) (each_once-next names name) ∙ insert_others a name (each_once names)
