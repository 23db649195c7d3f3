use Rattle.std.proofs.Common.{◌≡◌, [], List, ℕ, map, Some, ◌∙◌, sym, ap, arith}
use Rattle.std.specs.List.{slice_index_or}
use Rattle.estate.specs.declared.shelved.Shelved.{Shelved}
use Rattle.estate.specs.Parts.{edges_of}
use Rattle.estate.specs.Shelf.{stored}
use Rattle.estate.specs.Places.{place_of}
use Rattle.estate.proofs.Shelving.{unplaced, placed_held, edges_found, some_shelved}
use Rattle.estate.proofs.mem_shelf.MemShelf.cell.Goals as goal

pub returns-in_default : goal.returns-in_default
returns-in_default c = unplaced _ _ c.args.name c.args.self.now.placed (sym c.get.ensures ∙ c.in_default.is)

pub index-requires : goal.index-requires
index-requires c =
    let found = c.args.self.now.placed.found c.args.name c.in-Some.place (some_shelved c.args.name) (sym c.get.ensures ∙ c.in-Some.is) in
    omega (arith, found.0)

pub returns : goal.returns
returns c =
    let parts = c.args.self.now.parts.items in
    let name = c.args.name in
    let i = c.in-Some.place in
    let part = c.index.result.now in
    let at : place_of c.args.self.now.places name ≡ Some i = sym c.get.ensures ∙ c.in-Some.is in
    let found = c.args.self.now.placed.found name i part at in
    let edges = edges_found parts i part c.args.self.now.distinct found.0 in
    let is : edges_of name (map stored parts) ≡ c.as_slice-edges.result.now =
    ap (λ n. edges_of n (map stored parts)) (sym found.1) ∙ edges ∙ ap (λ (p : Shelved). p.edges) (sym c.index.ensures) ∙ sym c.as_slice-edges.ensures in (
      placed_held c.args.self.now.places parts name i c.args.self.now.placed at,
      c.in_ok-copied_cell.ensures ∙ ap (λ (e : List (List (List ℕ))). slice_index_or (slice_index_or e c.args.edge []) c.args.cell []) (sym is),
    )
