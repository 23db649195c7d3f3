-- The pieces of a text that are left to be cut.
use Rattle.std.specs.Prelude.{ℕ, List, [], Option, Some, None}
use denote.Ref.{Bor}
use Rattle.plan_model.specs.Operators.{pieces}

-- the pieces of what is behind a separator, if there is one
abbrev pub pieces_left : ℕ → Option (Bor (List ℕ)) → List (List ℕ)
pieces_left separator None = []
pieces_left separator (Some text) = pieces separator text.now
