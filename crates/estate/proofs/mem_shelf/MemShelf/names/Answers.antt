use Rattle.estate.proofs.Shelving.{placed_iff}
use Rattle.estate.proofs.mem_shelf.MemShelf.names.Goals as goal

pub returns-clause-names : goal.returns-clause-names
returns-clause-names c = λ name.
    let first = c.in_ok-names.ensures.names name in
    let second = placed_iff c.args.self.now.places c.args.self.now.parts.items name c.args.self.now.placed in
    (λ has. second.0 (first.0 has), λ held. first.1 (second.1 held))
