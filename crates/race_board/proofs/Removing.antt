-- Tasks stand beside their offers.
use Rattle.std.proofs.Common.{◌≡◌, ℕ, suc, ◌<◌, ◌+◌, List, [], ◌∷◌, ◌++◌, map, length, get_or, take, drop, sym, ap, ap₂, ◌∙◌, arith}
use Rattle.std.specs.List.{remove}
use Rattle.std.proofs.lemmas.List.{take-map, drop-map, map-append, get_or-map}
use Rattle.std.proofs.lemmas.List.Sums.{sum_by-append}
use Rattle.std.proofs.Math.ListN.{get_or-map as get_or-map-default}
use Rattle.board_log.specs.declared.offer.Offer.{Offer}
use Rattle.board_log.specs.declared.entry.Entry.{Entry}
use Rattle.board_log.specs.Runs.{takings_of, taken_by}
use Rattle.race_board.specs.declared.posted.Posted.{Posted}
use Rattle.race_board.specs.Tasks.{posted_name, name_of}

map-remove : {A B : Type 0} (f : A → B) (xs : List A) (k : ℕ) → map f (remove xs k) ≡ remove (map f xs) k
map-remove f xs k =
    map-append f (take k xs) (drop (suc k) xs) ∙ ap₂ ◌++◌ (sym (take-map f k xs)) (sym (drop-map f (suc k) xs))

-- without the item at one place, tasks and offers still have the same names
pub names_remove : (ts : List Posted) (os : List Offer) (k : ℕ) → map posted_name ts ≡ map name_of os → map posted_name (remove ts k) ≡ map name_of (remove os k)
names_remove ts os k same =
    map-remove posted_name ts k ∙ ap (λ xs. remove xs k) same ∙ sym (map-remove name_of os k)

-- the task at a place has the name of the offer there
pub name_at : (ts : List Posted) (os : List Offer) (k : ℕ) (t : Posted) (o : Offer) → map posted_name ts ≡ map name_of os → k < length os → t ≡ get_or ts k t → o ≡ get_or os k o → posted_name t ≡ o.name
name_at ts os k t o same inside at_t at_o =
    ap posted_name at_t ∙ sym (get_or-map-default posted_name ts k t) ∙ ap (λ xs. get_or xs k (posted_name t)) same
    ∙ get_or-map name_of os k o (posted_name t) inside ∙ ap name_of (sym at_o)

-- one entry more, and what it took
pub takings-push : (h h' : List Entry) (e : Entry) → h' ≡ h ++ e ∷ [] → takings_of h' ≡ takings_of h + taken_by e
takings-push h h' e is = ap takings_of is ∙ sum_by-append taken_by h (e ∷ []) ∙ omega arith
