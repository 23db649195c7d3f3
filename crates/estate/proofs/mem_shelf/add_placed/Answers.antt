use Rattle.std.proofs.Common.{◌∷◌, [], ◌++◌, ◌∙◌, ap, List, length}
use Rattle.estate.specs.declared.shelved.Shelved.{Shelved}
use Rattle.estate.proofs.Shelving.{placed_add, placed_same, distinct_add}
use Rattle.estate.proofs.mem_shelf.add_placed.Goals as goal

pub returns-in_err-note-clause-placed : goal.returns-in_err-note-clause-placed
returns-in_err-note-clause-placed c = placed_same c.args.places.now c.note.new.places c.args.parts.now.items c.reserve.new.self.items c.requires.placed c.reserve.ensures.items c.in_err-note.ensures.err

pub returns-clause-placed : goal.returns-clause-placed
returns-clause-placed c =
    let same = c.as_slice-place.ensures.value ∙ c.reserve.ensures.items in
    placed_add c.args.places.now c.note.new.places c.args.parts.now.items _ c.args.part _ c.requires.placed (ap (λ (l : List Shelved). length l) same)
    (c.push_reserved.ensures.items ∙ ap (λ (l : List Shelved). l ++ c.args.part ∷ []) c.reserve.ensures.items) c.in_ok-note.ensures.ok c.requires.fresh

pub returns-clause-distinct : goal.returns-clause-distinct
returns-clause-distinct c =
    distinct_add c.args.parts.now.items _ c.args.part (c.push_reserved.ensures.items ∙ ap (λ (l : List Shelved). l ++ c.args.part ∷ []) c.reserve.ensures.items) c.requires.distinct c.requires.fresh
