use Rattle.std.proofs.Common.{◌≡◌, Some, None, cond, ◌∙◌, sym, ap, refl, arith}
use Rattle.estate.specs.declared.shelved.Shelved.{Shelved}
use Rattle.estate.specs.Places.{place_of}
use Rattle.estate.proofs.Shelving.{unplaced, placed_held, held_placed, placed_lose, distinct_lose, loses_set, some_shelved, name_itself, names_apart}
use Rattle.estate.proofs.mem_shelf.MemShelf.lose.Goals as goal

pub returns-in_default-clause-gone : goal.returns-in_default-clause-gone
returns-in_default-clause-gone c = unplaced _ _ c.args.name c.args.self.now.placed (sym c.get.ensures ∙ c.in_default.is)

pub index_mut-part-requires : goal.index_mut-part-requires
index_mut-part-requires c =
    let found = c.args.self.now.placed.found c.args.name c.in-Some.place (some_shelved c.args.name) (sym c.get.ensures ∙ c.in-Some.is) in
    omega (arith, found.0)

pub invariant_of-self-clause-distinct : goal.invariant_of-self-clause-distinct
invariant_of-self-clause-distinct c =
    let m = c.args.self.now in
    let part = c.index_mut-part.result.now in
    let at : place_of m.places c.args.name ≡ Some c.in-Some.place = sym c.get.ensures ∙ c.in-Some.is in
    let found = m.placed.found c.args.name c.in-Some.place part at in
    distinct_lose m.parts.items _ c.in-Some.place (record { since = part.since; name = part.name; edges = part.edges; lost = Some c.args.since }) found.0 refl
    (λ d. let here = m.placed.found c.args.name c.in-Some.place d at in ap (λ (p : Shelved). p.name) c.index_mut-part.ensures.value ∙ found.1 ∙ sym here.1) m.distinct

pub invariant_of-self-clause-placed : goal.invariant_of-self-clause-placed
invariant_of-self-clause-placed c =
    let m = c.args.self.now in
    let part = c.index_mut-part.result.now in
    let at : place_of m.places c.args.name ≡ Some c.in-Some.place = sym c.get.ensures ∙ c.in-Some.is in
    placed_lose m.places c.remove.new.self m.parts.items _ c.args.name c.in-Some.place (record { since = part.since; name = part.name; edges = part.edges; lost = Some c.args.since }) m.placed at refl c.args.since refl c.remove.ensures

pub returns-clause-lost : goal.returns-clause-lost
returns-clause-lost c = λ was.
    let m = c.args.self.now in
    let part = c.index_mut-part.result.now in
    let at : place_of m.places c.args.name ≡ Some c.in-Some.place = sym c.get.ensures ∙ c.in-Some.is in
    let found = m.placed.found c.args.name c.in-Some.place part at in
    loses_set m.parts.items _ c.in-Some.place c.args.name c.args.since part found.0 c.index_mut-part.ensures.value refl
    (ap (λ (p : Shelved). p.name) c.index_mut-part.ensures.value ∙ found.1) (ap (λ (p : Shelved). p.lost) c.index_mut-part.ensures.value ∙ found.2)

pub returns-clause-gone : goal.returns-clause-gone
returns-clause-gone c =
    let m = c.args.self.now in
    let part = c.index_mut-part.result.now in
    let at : place_of m.places c.args.name ≡ Some c.in-Some.place = sym c.get.ensures ∙ c.in-Some.is in
    let placed = placed_lose m.places c.remove.new.self m.parts.items _ c.args.name c.in-Some.place (record { since = part.since; name = part.name; edges = part.edges; lost = Some c.args.since }) m.placed at refl c.args.since refl c.remove.ensures in
    unplaced c.remove.new.self _ c.args.name placed
    (c.remove.ensures c.args.name ∙ ap (λ b. cond b None (place_of m.places c.args.name)) (name_itself c.args.name))

pub returns-clause-others : goal.returns-clause-others
returns-clause-others c = λ other apart has.
    let m = c.args.self.now in
    let part = c.index_mut-part.result.now in
    let at : place_of m.places c.args.name ≡ Some c.in-Some.place = sym c.get.ensures ∙ c.in-Some.is in
    let placed = placed_lose m.places c.remove.new.self m.parts.items _ c.args.name c.in-Some.place (record { since = part.since; name = part.name; edges = part.edges; lost = Some c.args.since }) m.placed at refl c.args.since refl c.remove.ensures in
    let was = held_placed m.places m.parts.items other m.placed has in
    placed_held c.remove.new.self _ other was.0 placed
    (c.remove.ensures other ∙ ap (λ b. cond b None (place_of m.places other)) (names_apart c.args.name other (λ e. apart (sym e))) ∙ was.1)
