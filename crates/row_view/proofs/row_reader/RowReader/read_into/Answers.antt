use Rattle.std.proofs.Common.{◌≡◌, ◌<◌, length, sym, ◌∙◌, arith}
use Rattle.std.proofs.lemmas.Bool.Decides.{nat_tests}
use Rattle.row_view.specs.Views.{row_seen}
use Rattle.row_view.proofs.Taking.{left_rows, takes_first, some_begins, none_left}
use Rattle.row_view.proofs.row_reader.RowReader.read_into.Goals as goal

pub returns-then-is_empty-clause-ok : goal.returns-then-is_empty-clause-ok
returns-then-is_empty-clause-ok c =
    let none : length c.self.inside.rest.now ≡ 0 = grind (arith, nat_tests, c.if-is_empty.ensures) in
    let nothing = sym c.self.view_is ∙ none_left c.self.inside.rest.now c.self.inside.spelled none in
    (nothing, nothing)

pub invariant_of-self-inside : goal.invariant_of-self-inside
invariant_of-self-inside c =
    let some : 0 < length c.self.inside.rest.now = grind (arith, nat_tests, c.if-is_empty.ensures) in
    (left_rows c.self.inside.rest.now c.self.inside.spelled (row_seen c.read_row.new.row.items) c.in-Some.after.now some (rw c.in-Some.is at c.in_ok-after.ensures), tt)

pub unreachable-requires : goal.unreachable-requires
unreachable-requires c =
    let some : 0 < length c.self.inside.rest.now = grind (arith, nat_tests, c.if-is_empty.ensures) in
    some_begins c.self.inside.rest.now c.self.inside.spelled some (rw c.in-None.is at c.in_ok-after.ensures)

pub returns-clause-ok : goal.returns-clause-ok
returns-clause-ok c =
    let some : 0 < length c.self.inside.rest.now = grind (arith, nat_tests, c.if-is_empty.ensures) in
    sym c.self.view_is ∙ takes_first c.self.inside.rest.now c.self.inside.spelled (row_seen c.read_row.new.row.items) c.in-Some.after.now c.after-in-Some-1.given.0 some (rw c.in-Some.is at c.in_ok-after.ensures)
