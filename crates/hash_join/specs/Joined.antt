-- What a probe gives.
use Rattle.std.specs.Prelude.{List}
use Rattle.std.specs.List.{flat_map}
use Rattle.bag_laws.specs.Rows.{OneRow as Row}
use Rattle.hash_join.specs.Keys.{matching}
use Rattle.hash_join.specs.Rules.{gives}
use Rattle.hash_join.specs.declared.probing.Probe.{Probe}

-- what one row gives where these rows were built
abbrev pub row_gives : Probe → List Row → Row → List Row
row_gives probe built row =
    let table = probe.table.now in
    gives probe.rule probe.side table.width row (matching probe.columns table.keys row built)

-- and what all rows give
abbrev pub probe_gives : Probe → List Row → List Row → List Row
probe_gives probe built rows = flat_map (row_gives probe built) rows
