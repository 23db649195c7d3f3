use Rattle.std.proofs.Common.{List, ℕ, map, sym, ap, ◌∙◌}
use Rattle.std.specs.List.{list_any}
use Rattle.std.specs.Str.{bytes_eq}
use Rattle.indexmap.specs.IndexSet.{insert_key}
use Rattle.row_set.proofs.Each.{any_of_map, inserted, there_already}
use Rattle.row_set.proofs.byte_set.ByteSet.insert.Goals as goal

pub returns-then-contains-clause-ok : goal.returns-then-contains-clause-ok
returns-then-contains-clause-ok c =
    let keys = c.self.inside.texts.keys in
    there_already c.args.self.now c.args.bytes.now
    (ap (list_any (bytes_eq c.args.bytes.now)) (sym c.self.view_is) ∙ any_of_map (λ text. text.items) (bytes_eq c.args.bytes.now) keys ∙ sym c.contains.ensures ∙ c.if-contains.true)

pub returns-clause-ok : goal.returns-clause-ok
returns-clause-ok c =
    let keys = c.self.inside.texts.keys in
    ap (map (λ text. text.items)) c.in_ok-insert.ensures.keys
    ∙ inserted (λ text. text.items) keys c.in_ok-text.text
    ∙ ap (insert_key bytes_eq (map (λ text. text.items) keys)) c.in_ok-text.ensures
    ∙ ap (λ (texts : List (List ℕ)). insert_key bytes_eq texts c.args.bytes.now) c.self.view_is
