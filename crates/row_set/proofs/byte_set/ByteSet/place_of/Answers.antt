use Rattle.std.proofs.Common.{sym, ap, ◌∙◌}
use Rattle.std.specs.Prelude.{position}
use Rattle.std.specs.List.{list_any}
use Rattle.std.specs.Str.{bytes_eq}
use Rattle.row_set.proofs.Each.{any_of_map, place_of_map}
use Rattle.row_set.proofs.byte_set.ByteSet.place_of.Goals as goal

pub returns-clause-place : goal.returns-clause-place
returns-clause-place c =
    let keys = c.self.inside.texts.keys in
    c.get_index_of.ensures.index ∙ sym (place_of_map (λ text. text.items) (bytes_eq c.args.bytes.now) keys) ∙ ap (position (bytes_eq c.args.bytes.now)) c.self.view_is

pub returns-clause-found : goal.returns-clause-found
returns-clause-found c =
    let keys = c.self.inside.texts.keys in
    c.get_index_of.ensures.found ∙ sym (any_of_map (λ text. text.items) (bytes_eq c.args.bytes.now) keys) ∙ ap (list_any (bytes_eq c.args.bytes.now)) c.self.view_is
