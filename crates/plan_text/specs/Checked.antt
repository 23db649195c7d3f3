-- The text of a plan that was checked.
use Rattle.std.specs.Prelude.{ℕ, List, [], ◌∷◌, ◌++◌, length, count_by, codes}
use Rattle.std.specs.Fmt.{decimal}
use Rattle.plan_model.specs.Operators.{is_sink}
use Rattle.plan_model.specs.declared.node.Node.{Node}
use Rattle.plan_text.specs.Lines.{line_feed}

-- how many nodes are sinks
abbrev pub sink_count : List Node → ℕ
sink_count nodes = count_by (λ node. is_sink node.op) nodes

-- `ok nodes=6 sinks=1`, and a line feed
abbrev pub check_text : List Node → List ℕ
check_text nodes =
    codes "ok nodes=" ++ decimal (length nodes)
    ++ codes " sinks=" ++ decimal (sink_count nodes) ++ line_feed ∷ []
