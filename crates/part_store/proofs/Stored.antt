-- The parts of a shelf before and after one more is put.
use Rattle.std.proofs.Common.{◌≡◌, ◌≢◌, ℕ, zero, Bool, Contains, List, [], ◌∷◌, ◌++◌, refl, sym, ap, ◌∙◌, arith}
use Rattle.std.specs.Prelude.{if◌then◌else◌}
use Rattle.estate.specs.declared.part_name.PartName.{PartName}
use Rattle.estate.specs.Holding.{StoredPart, IsFresh}
use Rattle.estate.specs.Parts.{is_same_name, edges_of}
use Rattle.estate.specs.PastLaws.{contains_later}
use Rattle.estate.proofs.Laws.{name_itself, names_apart}

-- a part that is put has its edges
pub own_edges : (part : StoredPart) (ever : List StoredPart) → IsFresh part.name ever → edges_of part.name (ever ++ part ∷ []) ≡ part.edges
own_edges part [] fresh = ap (λ (b : Bool). if b then part.edges else []) (name_itself part.name)
own_edges part (first ∷ ever) fresh =
    let here : Contains (first ∷ ever) first = (zero, omega arith, refl) in
    ap (λ (b : Bool). if b then first.edges else edges_of part.name (ever ++ part ∷ [])) (names_apart first.name part.name (fresh first here))
    ∙ own_edges part ever (λ other has. fresh other (contains_later first ever other has))

-- and the others have theirs
pub other_edges : (part : StoredPart) (ever : List StoredPart) (name : PartName) → name ≢ part.name → edges_of name (ever ++ part ∷ []) ≡ edges_of name ever
other_edges part [] name apart = ap (λ (b : Bool). if b then part.edges else []) (names_apart part.name name (λ same. apart (sym same)))
other_edges part (first ∷ ever) name apart = ap (λ (edges : List (List (List ℕ))). if is_same_name first.name name then first.edges else edges) (other_edges part ever name apart)
