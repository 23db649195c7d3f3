use Rattle.std.proofs.Common.{◌≡◌, ◌++◌, ◌∷◌, false, List, ℕ, [], map, sym, ap, ◌∙◌}
use Rattle.std.specs.Global.{Vec}
use Rattle.std.specs.List.{list_any}
use Rattle.std.specs.Str.{bytes_eq}
use Rattle.std.proofs.lemmas.List.{map-append}
use Rattle.indexmap.specs.IndexSet.{insert_key}
use Rattle.row_core.specs.Encoding.{values_bytes}
use Rattle.row_core.specs.Hashing.{key_of}
use Rattle.row_view.specs.Encoded.{RowOf}
use Rattle.row_view.specs.Views.{row_seen}
use Rattle.row_view.proofs.Laws.{all_more}
use Rattle.row_groups.specs.Accumulators.{accumulator_of, states_of}
use Rattle.row_groups.specs.declared.accumulator.Accumulator.{Accumulator}
use Rattle.row_groups.proofs.Holding.{held_new}
use Rattle.row_groups.proofs.groups.Groups.begin.Goals as goal

pub returns-clause-takes : goal.returns-clause-takes
returns-clause-takes c = λ rows had.
    let groups = c.args.self.now in
    let row = row_seen c.args.row.now in
    let key = values_bytes (key_of groups.keys.now row) in
    let none : list_any (bytes_eq key) groups.places ≡ false = ap (λ (bytes : List ℕ). list_any (bytes_eq bytes) groups.places) (sym c.requires.key) ∙ c.requires.new in
    let more = c.in_ok-insert.ensures.ok ∙ ap (insert_key bytes_eq groups.places) c.requires.key in
    let fresh = ap states_of c.in_ok-push.ensures.items ∙ map-append (λ (states : Vec Accumulator). states.items) groups.states.items (c.in_ok-states.states ∷ [])
    ∙ ap (λ (one : List Accumulator). states_of groups.states.items ++ one ∷ []) c.in_ok-states.ensures in
    let both = held_new (λ some. map (accumulator_of some) groups.aggs.now) groups.keys.now groups.width rows row groups.places (states_of groups.states.items) had.wide c.requires.row had.keys had.told
    _ _ none more fresh in
    record {
      wide = all_more (RowOf groups.width) rows row had.wide c.requires.row;
      keys = both.0;
      told = both.1;
    }
