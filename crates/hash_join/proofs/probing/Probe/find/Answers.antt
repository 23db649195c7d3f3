use Rattle.std.proofs.Common.{◌≡◌, ℕ, List, false, true, ap, sym, subst, ◌∙◌}
use Rattle.std.specs.Prelude.{length}
use Rattle.row_core.specs.Hashing.{key_of}
use Rattle.bag_laws.specs.Rows.{OneRow as Row}
use Rattle.row_groups.specs.Held.{KeyFits}
use Rattle.row_groups.proofs.Laws.{key_fits}
use Rattle.row_view.specs.Views.{row_seen}
use Rattle.hash_join.specs.Keys.{has_null}
use Rattle.hash_join.specs.Tables.{IsFound}
use Rattle.hash_join.proofs.Matching.{key_matches, nothing_matches}
use Rattle.hash_join.proofs.probing.Probe.find.Goals as goal

pub returns-then-has_null-clause-found : goal.returns-then-has_null-clause-found
returns-then-has_null-clause-found c = λ built held.
    let probe = c.args.self.now in
    let row = row_seen c.args.row.now in
    let null : has_null probe.columns row ≡ true = ap (λ (columns : List ℕ). has_null columns row) (sym c.as_slice.ensures) ∙ sym c.has_null.ensures ∙ c.if-has_null.true in
    nothing_matches probe.columns probe.table.now.keys row built null

pub returns-clause-found : goal.returns-clause-found
returns-clause-found c = λ built held.
    let probe = c.args.self.now in
    let table = probe.table.now in
    let row = row_seen c.args.row.now in
    let key = key_of probe.columns row in
    let some : has_null probe.columns row ≡ false = ap (λ (columns : List ℕ). has_null columns row) (sym c.as_slice.ensures) ∙ sym c.has_null.ensures ∙ c.if-has_null.false in
    let fit : KeyFits (length table.keys) key = subst (λ (n : ℕ). KeyFits n key) probe.keyed (key_fits probe.columns row c.requires.row) in
    subst (λ (rows : List Row). IsFound table.width c.rows_of.result rows) (sym (key_matches probe.columns table.keys row built some))
    (c.rows_of.ensures.found built key held fit c.requires.key)
