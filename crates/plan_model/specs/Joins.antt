-- What the joins give, from SQL's meaning: each row of one side, with its matches on the other.
use Rattle.std.specs.Prelude.{ℕ, Bool, not, ◌&&◌, List, [], ◌∷◌, ◌++◌, map, filter, get_or, replicate}
use Rattle.std.specs.List.{flat_map, list_all}
use Rattle.row_core.specs.Values.{same_value}
use Rattle.row_core.specs.Exprs.{is_null}
use Rattle.row_core.specs.declared.value.Value.{Value}
use Rattle.row_core.specs.declared.value.Value.TheVariants.{Null}
use Rattle.plan_model.specs.declared.join_kind.JoinKind.{JoinKind}
use Rattle.plan_model.specs.declared.join_kind.JoinKind.TheVariants as kind

-- equal, and not Null
abbrev pub meets : Value → Value → Bool
meets a b = not (is_null a) && same_value a b

-- the rows match: they meet at each pair of key columns
abbrev pub matches : List (ℕ × ℕ) → List Value → List Value → Bool
matches keys left right = list_all (λ pair. meets (get_or left pair.0 Null) (get_or right pair.1 Null)) keys

abbrev pub nulls : ℕ → List Value
nulls width = replicate width Null

-- a row of each match, or one with Nulls in their place
abbrev pub or_padded : List Value → List (List Value) → List (List Value)
or_padded padded [] = padded ∷ []
or_padded padded (match ∷ rest) = match ∷ rest

-- the row where it has a match, and where it has none
abbrev pub if_matched : List Value → List (List Value) → List (List Value)
if_matched row [] = []
if_matched row (match ∷ rest) = row ∷ []

abbrev pub if_unmatched : List Value → List (List Value) → List (List Value)
if_unmatched row [] = row ∷ []
if_unmatched row (match ∷ rest) = []

module _ (keys : List (ℕ × ℕ)) (left_width right_width : ℕ) (left right : List (List Value)) where
  abbrev pub matches_of_left : List Value → List (List Value)
  matches_of_left row = filter (λ other. matches keys row other) right

  abbrev pub matches_of_right : List Value → List (List Value)
  matches_of_right row = filter (λ other. matches keys other row) left

  abbrev pub left_joined : List (List Value)
  left_joined = flat_map (λ row. or_padded (row ++ nulls right_width) (map (λ other. row ++ other) (matches_of_left row))) left

  -- the right rows without a match, with Nulls for the left
  abbrev pub unmatched_right : List (List Value)
  unmatched_right = flat_map (λ row. if_unmatched (nulls left_width ++ row) (matches_of_right row)) right

  abbrev pub joined : JoinKind → List (List Value)
  joined kind.Inner = flat_map (λ row. map (λ other. row ++ other) (matches_of_left row)) left
  joined kind.Left = left_joined
  joined kind.Right = flat_map (λ row. or_padded (nulls left_width ++ row) (map (λ other. other ++ row) (matches_of_right row))) right
  joined kind.Full = left_joined ++ unmatched_right
  joined kind.Semi = flat_map (λ row. if_matched row (matches_of_left row)) left
  joined kind.Anti = flat_map (λ row. if_unmatched row (matches_of_left row)) left
