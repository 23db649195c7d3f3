-- One of each row, and one row for each key, go by the rows that meet.
use Rattle.std.proofs.Common.{get_or, ◌≡◌, Bool, false, All, List, [], ◌∷◌, ◌++◌, map, refl, sym, subst, ◌∙◌, ap}
use Rattle.std.proofs.lemmas.List.{map-append, append-nil}
use Rattle.std.proofs.lemmas.List.Elements.{filter-append, All-head, All-tail, All-nil, All-cons, All-filter, All-map}
use Rattle.std.specs.Prelude.{not, filter, cond}
use Rattle.row_core.specs.Bags.{SameBag, one_of_each}
use Rattle.row_core.specs.Values.{same_row}
use Rattle.bag_laws.specs.Rows.{OneRow as Row, AreApart, IsKeyed, grouped}
use Rattle.bag_laws.proofs.Counts.{SameBag-one_of_each, SameBag-map, SameBag-filter, one_of_each-append, apart_from, same-swapped}
use Rattle.bag_laws.proofs.Alike.{same_refl}

same_lists : (xs ys : List Row) → xs ≡ ys → SameBag xs ys
same_lists xs ys e = subst (λ (l : List Row). SameBag xs l) e (same_refl xs)

pub each_keyed : IsKeyed same_row one_of_each
each_keyed = record {
  none = refl;
  same = SameBag-one_of_each;
  splits = λ rows others apart. same_lists (one_of_each (rows ++ others)) (one_of_each rows ++ one_of_each others) (one_of_each-append rows others (apart_from rows others apart));
}

All-one_of_each : (P : Row → Type 0) (xs : List Row) → All P xs → All P (one_of_each xs)
All-one_of_each P [] all = All-nil P
All-one_of_each P (x ∷ xs) all =
    All-cons P x (filter (λ other. not (same_row x other)) (one_of_each xs)) (All-head P x xs all)
    (All-filter (λ other. not (same_row x other)) P (one_of_each xs) (All-one_of_each P xs (All-tail P x xs all)))

map-where : (P : Row → Type 0) (f g : Row → Row) (xs : List Row) → ((x : Row) → P x → f x ≡ g x) → All P xs → map f xs ≡ map g xs
map-where P f g [] each all = refl
map-where P f g (x ∷ xs) each all = λ i. each x (All-head P x xs all) i ∷ map-where P f g xs each (All-tail P x xs all) i

module _ (key_of : Row → Row) (row_for : Row → List Row → Row) (respects : (key : Row) (xs ys : List Row) → SameBag xs ys → row_for key xs ≡ row_for key ys) where
  abbrev group : Row → List Row → List Row
  group key rows = filter (λ row. same_row (key_of row) key) rows

  abbrev row_of : List Row → Row → Row
  row_of rows key = row_for key (group key rows)

  -- no row of the list has the key
  abbrev Lacks : List Row → Row → Type 0
  Lacks rows key = All (λ row. same_row (key_of row) key ≡ false) rows

  group-none : (key : Row) (rows : List Row) → Lacks rows key → group key rows ≡ []
  group-none key [] none = refl
  group-none key (x ∷ xs) none =
      ap (λ (b : Bool). cond b (x ∷ group key xs) (group key xs)) (All-head (λ row. same_row (key_of row) key ≡ false) x xs none)
      ∙ group-none key xs (All-tail (λ row. same_row (key_of row) key ≡ false) x xs none)

  group-left : (xs ys : List Row) (key : Row) → Lacks ys key → row_of (xs ++ ys) key ≡ row_of xs key
  group-left xs ys key none = ap (row_for key)
      (filter-append (λ row. same_row (key_of row) key) xs ys ∙ ap (λ (l : List Row). group key xs ++ l) (group-none key ys none) ∙ append-nil (group key xs))

  group-right : (xs ys : List Row) (key : Row) → Lacks xs key → row_of (xs ++ ys) key ≡ row_of ys key
  group-right xs ys key none = ap (row_for key)
      (filter-append (λ row. same_row (key_of row) key) xs ys ∙ ap (λ (l : List Row). l ++ group key ys) (group-none key xs none))

  abbrev keys : List Row → List Row
  keys rows = one_of_each (map key_of rows)

  grouped-same : (xs ys : List Row) → SameBag xs ys → SameBag (grouped key_of row_for xs) (grouped key_of row_for ys)
  grouped-same xs ys same =
      subst (λ (l : List Row). SameBag l (map (row_of ys) (keys ys)))
      (map-where (λ key. row_of ys key ≡ row_of xs key) (row_of ys) (row_of xs) (keys xs) (λ key e. e)
      (λ k d lt. respects (get_or (keys xs) k d) (group (get_or (keys xs) k d) ys) (group (get_or (keys xs) k d) xs) (SameBag-filter (λ row. same_row (key_of row) (get_or (keys xs) k d)) ys xs (record { counts = λ row. sym (same.counts row) }))))
      (SameBag-map (row_of ys) (keys xs) (keys ys) (SameBag-one_of_each (map key_of xs) (map key_of ys) (SameBag-map key_of xs ys same)))

  abbrev meets : Row → Row → Bool
  meets a b = same_row (key_of a) (key_of b)

  -- the keys of the one are apart from those of the other
  keys_apart : (xs ys : List Row) → AreApart meets xs ys → AreApart same_row (map key_of xs) (map key_of ys)
  keys_apart xs ys apart =
      All-map (λ key. All (λ other. same_row key other ≡ false) (map key_of ys)) key_of xs (λ k d lt.
      All-map (λ other. same_row (key_of (get_or xs k d)) other ≡ false) key_of ys (apart k d lt))

  lacks_left : (xs ys : List Row) → AreApart meets xs ys → All (Lacks ys) (map key_of xs)
  lacks_left xs ys apart = All-map (Lacks ys) key_of xs (λ k d lt j e less. same-swapped (key_of (get_or ys j e)) (key_of (get_or xs k d)) ∙ apart k d lt j e less)

  lacks_right : (xs ys : List Row) → AreApart meets xs ys → All (Lacks xs) (map key_of ys)
  lacks_right xs ys apart = All-map (Lacks xs) key_of ys (λ j e less k d lt. apart k d lt j e less)

  grouped-splits : (xs ys : List Row) → AreApart meets xs ys → grouped key_of row_for (xs ++ ys) ≡ grouped key_of row_for xs ++ grouped key_of row_for ys
  grouped-splits xs ys apart =
      ap (λ (l : List Row). map (row_of (xs ++ ys)) (one_of_each l)) (map-append key_of xs ys)
      ∙ ap (map (row_of (xs ++ ys))) (one_of_each-append (map key_of xs) (map key_of ys) (apart_from (map key_of xs) (map key_of ys) (keys_apart xs ys apart)))
      ∙ map-append (row_of (xs ++ ys)) (keys xs) (keys ys)
      ∙ (λ i.
      map-where (Lacks ys) (row_of (xs ++ ys)) (row_of xs) (keys xs) (group-left xs ys) (All-one_of_each (Lacks ys) (map key_of xs) (lacks_left xs ys apart)) i
      ++ map-where (Lacks xs) (row_of (xs ++ ys)) (row_of ys) (keys ys) (group-right xs ys) (All-one_of_each (Lacks xs) (map key_of ys) (lacks_right xs ys apart)) i)

  pub grouped_keyed : IsKeyed (λ a b. same_row (key_of a) (key_of b)) (grouped key_of row_for)
  grouped_keyed = record {
    none = refl;
    same = grouped-same;
    splits = λ xs ys apart. same_lists (grouped key_of row_for (xs ++ ys)) (grouped key_of row_for xs ++ grouped key_of row_for ys) (grouped-splits xs ys apart);
  }
