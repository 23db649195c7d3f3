use Rattle.std.proofs.Common.{◌≡◌, ◌≤◌, ◌+◌, ℕ, length, refl, sym, ap, subst, ◌∙◌, arith}
use Rattle.std.specs.List.{AllByRecursion}
use Rattle.row_core.specs.Encoding.{rows_bytes}
use Rattle.row_core.specs.Values.{width_limit}
use Rattle.plan_model.specs.Operators.{aggregated}
use Rattle.row_set.proofs.Laws.{spelled_once}
use Rattle.row_view.specs.Encoded.{RowOf, Spells}
use Rattle.row_groups.specs.Accumulators.{states_of}
use Rattle.row_groups.proofs.Writing.{texts_told, told_wide, written}
use Rattle.row_groups.proofs.groups.Groups.into_rows.Goals as goal

pub write_groups-requires-clause-texts : goal.write_groups-requires-clause-texts
write_groups-requires-clause-texts c =
    let (rows, held) = c.requires in
    let groups = c.args.self in
    texts_told groups.keys.now groups.aggs.now groups.width rows (states_of c.as_slice.result.now) held.wide (ap states_of c.as_slice.ensures.value ∙ held.told)

pub unreachable-requires : goal.unreachable-requires
unreachable-requires c =
    let (rows, held) = c.requires in
    let groups = c.args.self in
    let keys = groups.keys.now in
    let aggs = groups.aggs.now in
    let told = aggregated keys aggs rows in
    let narrow : length keys ≤ width_limit = omega (arith, groups.narrow) in
    let bytes : c.in_ok-bytes.bytes ≡ rows_bytes told =
    c.in_ok-bytes.ensures
    ∙ written keys aggs groups.width (length keys + length aggs) rows groups.places (states_of c.as_slice.result.now) narrow held.wide refl held.keys (ap states_of c.as_slice.ensures.value ∙ held.told) in
    let spelled : Spells c.from.result c.in_ok-bytes.bytes told =
    subst (λ (n : ℕ). Spells n c.in_ok-bytes.bytes told) (sym c.from.ensures) (told_wide keys aggs groups.width rows groups.narrow held.wide, bytes) in
    c.rows_stop_once.ensures.rows c.from.result c.in_ok-bytes.bytes _ told c.in-Err.ensures spelled

pub returns : goal.returns
returns c = λ rows held.
    let groups = c.args.self in
    let keys = groups.keys.now in
    let aggs = groups.aggs.now in
    let told = aggregated keys aggs rows in
    let narrow : length keys ≤ width_limit = omega (arith, groups.narrow) in
    let bytes : c.in_ok-bytes.bytes ≡ rows_bytes told =
    c.in_ok-bytes.ensures
    ∙ written keys aggs groups.width (length keys + length aggs) rows groups.places (states_of c.as_slice.result.now) narrow held.wide refl held.keys (ap states_of c.as_slice.ensures.value ∙ held.told) in
    let wide : AllByRecursion (RowOf c.from.result) told =
    subst (λ (n : ℕ). AllByRecursion (RowOf n) told) (sym c.from.ensures) (told_wide keys aggs groups.width rows groups.narrow held.wide) in
    spelled_once c.from.result told c.in-Ok.rows c.in_ok-bytes.bytes wide bytes c.in-Ok.ensures
