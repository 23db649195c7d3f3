use Rattle.std.proofs.Common.{◌≡◌, ◌+◌, ◌<◌, ℕ, [], ◌∷◌, ◌++◌, List, length, get_or, set, sym, ◌∙◌, ap, subst}
use Rattle.std.proofs.lemmas.List.{get_or_default, length_push}
use Rattle.reader_index.specs.Links.{AreLinked}
use Rattle.reader_index.specs.Tasks.{read_by}
use Rattle.reader_index.specs.declared.read.Read.{Read}
use Rattle.reader_index.proofs.Linking.{more_linked}
use Rattle.reader_index.proofs.links.Links.add_read.Goals as goal

pub returns-clause-linked : goal.returns-clause-linked
returns-clause-linked c =
    let n = c.args.reader in
    let p = c.args.producer in
    let reads = c.args.self.now.reads.items in
    let earlier = c.args.self.now.earlier.items in
    let last = c.args.self.now.last.items in
    let inside : p < length last = subst (λ (m : ℕ). p < m) (sym c.requires.linked.last_len) c.requires.producer in
    let x : c.index.result.now ≡ get_or last p 0 = c.index.ensures ∙ get_or_default last p c.index.result.now 0 inside in
    let a : c.push_reserved.new.self.items ≡ reads ++ read_by n p ∷ [] = c.push_reserved.ensures.items in
    let b : c.push_reserved-2.new.self.items ≡ earlier ++ get_or last p 0 ∷ [] = c.push_reserved-2.ensures.items ∙ ap (λ (m : ℕ). earlier ++ m ∷ []) x in
    let long : c.len.result ≡ length reads + 1 = c.len.ensures ∙ c.push_reserved.new.self.ok.0 ∙ ap length a ∙ length_push reads (read_by n p) in
    subst (λ (l : List Read). AreLinked (n + 1) n l c.push_reserved-2.new.self.items (set last p c.len.result)) (sym a)
    (subst (λ (l : List ℕ). AreLinked (n + 1) n (reads ++ read_by n p ∷ []) l (set last p c.len.result)) (sym b)
    (subst (λ (m : ℕ). AreLinked (n + 1) n (reads ++ read_by n p ∷ []) (earlier ++ get_or last p 0 ∷ []) (set last p m)) (sym long)
    (more_linked n p reads earlier last c.requires.linked c.requires.producer)))
