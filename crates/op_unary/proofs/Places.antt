-- Places of rows, as rows are added.
use Rattle.std.proofs.Common.{◌≡◌, ℕ, ◌+◌, ◌<◌, ◌≤◌, List, [], ◌∷◌, ◌++◌, length, map, take, get_or, sym, subst, ◌∙◌, ap, arith, length-append}
use Rattle.std.proofs.lemmas.List.{length-map, length-take, map-append, take_more}
use Rattle.std.proofs.lemmas.List.Elements.{All-nil, All-cons, All-append}
use Rattle.row_core.specs.Bags.{SameBag}
use Rattle.bag_laws.specs.Rows.{OneRow as Row}
use Rattle.bag_laws.proofs.Laws.{same_refl}
use Rattle.bag_laws.proofs.Laws.{SameBag-append}
use Rattle.op_unary.specs.Distinct.{row_at, IsOrder}
use Rattle.op_unary.specs.Hashes.{hash_of}
use Rattle.op_unary.specs.declared.hashed_row.HashedRow.{HashedRow}
use Rattle.op_unary.proofs.Parts.{as_long}

-- no more places than rows
pub no_longer : (rows : List Row) (order : List HashedRow) → IsOrder rows order → length order ≤ length rows
no_longer rows order is =
    let same = as_long (map (row_at rows) order) (take (length order) rows) is.front in
    let long = length-map order (row_at rows) in
    let taken = length-take (length order) rows in
    omega (arith, same, long, taken)

-- the place of the next row
pub one_more : (rows : List Row) (order : List HashedRow) (hashed : HashedRow) → IsOrder rows order → hashed.place ≡ length order → hashed.place < length rows
    → hashed.hash ≡ hash_of (row_at rows hashed) → IsOrder rows (order ++ hashed ∷ [])
one_more rows order hashed is at lt hash =
    let row = row_at rows in
    let long : length (order ++ hashed ∷ []) ≡ length order + 1 = length-append order (hashed ∷ []) in
    let taken : take (length (order ++ hashed ∷ [])) rows ≡ take (length order) rows ++ row hashed ∷ [] =
    ap (λ (n : ℕ). take n rows) long ∙ take_more rows (length order) [] (omega (arith, at, lt)) ∙ ap (λ (n : ℕ). take (length order) rows ++ get_or rows n [] ∷ []) (sym at) in
    record {
      places = record {
        within = All-append (λ p. p.place < length rows) order (hashed ∷ []) is.places.within (All-cons (λ p. p.place < length rows) hashed [] lt (All-nil (λ p. p.place < length rows)));
        hashes = All-append (λ p. p.hash ≡ hash_of (row p)) order (hashed ∷ []) is.places.hashes (All-cons (λ p. p.hash ≡ hash_of (row p)) hashed [] hash (All-nil (λ p. p.hash ≡ hash_of (row p))));
      };
      front = subst (λ (l : List Row). SameBag l (take (length (order ++ hashed ∷ [])) rows)) (sym (map-append row order (hashed ∷ [])))
          (subst (λ (l : List Row). SameBag (map row order ++ row hashed ∷ []) l) (sym taken)
          (SameBag-append (map row order) (row hashed ∷ []) (take (length order) rows) (row hashed ∷ []) is.front (same_refl (row hashed ∷ []))));
    }
