-- What the rows of one side of a join give with their matches on the other.
use Rattle.std.specs.Prelude.{ℕ, ◌+◌, List, ◌++◌, map}
use Rattle.std.specs.List.{flat_map}
use Rattle.bag_laws.specs.Rows.{OneRow as Row}
use Rattle.plan_model.specs.Joins.{nulls, or_padded, if_matched, if_unmatched}
use Rattle.plan_model.specs.declared.join_kind.JoinKind.{JoinKind}
use Rattle.plan_model.specs.declared.join_kind.JoinKind.TheVariants as kind
use Rattle.plan_model.specs.declared.side.Side.{Side}
use Rattle.plan_model.specs.declared.side.Side.TheVariants.{Left, Right}
use Rattle.hash_join.specs.Keys.{matching}
use Rattle.hash_join.specs.declared.rules.Rule.{Rule}
use Rattle.hash_join.specs.declared.rules.Rule.TheVariants.{Pairs, PairsOrPadded, PaddedIfUnmatched, RowIfMatched, RowIfUnmatched}

-- what the rows of a side give; in a full join the right rows give what the left ones leave out
abbrev pub rule_of : JoinKind → Side → Rule
rule_of kind.Inner side = Pairs
rule_of kind.Left side = PairsOrPadded
rule_of kind.Right side = PairsOrPadded
rule_of kind.Full Left = PairsOrPadded
rule_of kind.Full Right = PaddedIfUnmatched
rule_of kind.Semi side = RowIfMatched
rule_of kind.Anti side = RowIfUnmatched

-- a row of this side and one of the other as one, the left one first
abbrev pub pair : Side → Row → Row → Row
pair Left row other = row ++ other
pair Right row other = other ++ row

-- the rows for one probe row and its matches, where the other side's rows have this width
abbrev pub gives : Rule → Side → ℕ → Row → List Row → List Row
gives Pairs side width row matches = map (pair side row) matches
gives PairsOrPadded side width row matches =
    or_padded (pair side row (nulls width)) (map (pair side row) matches)
gives PaddedIfUnmatched side width row matches = if_unmatched (pair side row (nulls width)) matches
gives RowIfMatched side width row matches = if_matched row matches
gives RowIfUnmatched side width row matches = if_unmatched row matches

-- how many values these rows have
abbrev pub width_by : Rule → ℕ → ℕ → ℕ
width_by Pairs width other = width + other
width_by PairsOrPadded width other = width + other
width_by PaddedIfUnmatched width other = width + other
width_by RowIfMatched width other = width
width_by RowIfUnmatched width other = width

-- the rows for all probe rows, with these key columns, and the built rows, with those
abbrev pub probed : Rule → Side → ℕ → List ℕ → List ℕ → List Row → List Row → List Row
probed rule side width columns others built rows =
    flat_map (λ row. gives rule side width row (matching columns others row built)) rows
