use Rattle.std.proofs.Common.{List, ℕ, ap, ◌∙◌}
use Rattle.std.specs.List.{flat_map}
use Rattle.row_set.proofs.Each.{flat_of_keys}
use Rattle.row_set.proofs.byte_set.ByteSet.joined.Goals as goal

pub returns : goal.returns
returns c =
    c.in_ok-bytes.ensures ∙ ap (flat_map (λ text. text.items)) c.as_slice.ensures.keys ∙ flat_of_keys (λ text. text.items) c.self.inside.texts.keys
    ∙ ap (flat_map (λ (text : List ℕ). text)) c.self.view_is
