use Rattle.std.proofs.Common.{◌≡◌, true, List, ℕ, [], get_or, Some, Option, sym, ap, subst, ◌∙◌, arith}
use Rattle.std.specs.Prelude.{◌<◌, is_some, length, position}
use Rattle.std.specs.List.{list_any}
use Rattle.std.specs.Str.{bytes_eq}
use Rattle.std.proofs.lemmas.List.{get_or_default}
use Rattle.std.proofs.lemmas.List.Quantifiers.{position-Some}
use Rattle.row_core.specs.Encoding.{values_bytes}
use Rattle.plan_model.specs.Operators.{rows_with}
use Rattle.row_view.specs.Encoded.{Spells}
use Rattle.hash_join.proofs.Finding.{found_there, not_found}
use Rattle.hash_join.proofs.build_table.BuildTable.rows_of.Goals as goal

pub returns-in-Some-clause-found : goal.returns-in-Some-clause-found
returns-in-Some-clause-found c = λ rows values held fit is.
    let table = c.args.self.now in
    let groups = table.groups.items in
    let place = c.in-Some.place in
    let at : position (bytes_eq (values_bytes values)) table.places ≡ Some place =
    ap (λ (bytes : List ℕ). position (bytes_eq bytes) table.places) (sym is) ∙ sym c.place_of.ensures.place ∙ c.in-Some.is in
    let found : list_any (bytes_eq (values_bytes values)) table.places ≡ true =
    ap (λ (bytes : List ℕ). list_any (bytes_eq bytes) table.places) (sym is) ∙ sym c.place_of.ensures.found ∙ ap (λ (place : Option ℕ). is_some place) c.in-Some.is in
    let there = found_there table.keys table.width rows values table.places groups held.wide fit held.keys held.told place at found in
    let within : place < length table.places = (position-Some (bytes_eq (values_bytes values)) table.places place [] at).0 in
    let lt : place < length groups = omega (arith, within, table.told) in
    let here : get_or groups place [] ≡ c.as_slice.result.now = get_or_default groups place [] c.index.result.now lt ∙ sym c.index.ensures ∙ sym c.as_slice.ensures in
    subst (λ (bytes : List ℕ). Spells table.width bytes (rows_with table.keys values rows) × (0 < length (rows_with table.keys values rows))) here there

pub returns-in-None-clause-found : goal.returns-in-None-clause-found
returns-in-None-clause-found c = λ rows values held fit is.
    let table = c.args.self.now in
    not_found table.keys table.width rows values table.places table.groups.items held.wide fit held.keys held.told
    (ap (λ (bytes : List ℕ). list_any (bytes_eq bytes) table.places) (sym is) ∙ sym c.place_of.ensures.found ∙ ap (λ (place : Option ℕ). is_some place) c.in-None.is)
