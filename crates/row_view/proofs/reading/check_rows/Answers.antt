use Rattle.std.proofs.Common.{◌∷◌, ◌++◌, [], ◌<◌, length, arith}
use Rattle.std.proofs.lemmas.Bool.Decides.{nat_tests}
use Rattle.row_core.specs.Encoding.{row_bytes}
use Rattle.row_view.specs.Encoded.{RowOf}
use Rattle.row_view.proofs.Fronts.{one_more, stops}
use Rattle.row_view.proofs.reading.check_rows.Goals as goal

pub loop-rest-preserved : goal.loop-rest-preserved
loop-rest-preserved c = (
  (c.loop-rest.invariant).0 ++ (c.in-Some.ensures).0 ∷ [],
  one_more row_bytes (RowOf c.args.width) (c.loop-rest.invariant).0 (c.in-Some.ensures).0 c.args.bytes.now c.loop-rest.rest.now c.in-Some.after.now (c.loop-rest.invariant).1 (c.in-Some.ensures).1,
)

pub returns-in-None : goal.returns-in-None
returns-in-None c =
    let some : 0 < length c.loop-rest.rest.now = grind (arith, nat_tests, c.loop-rest-test.ensures) in
    stops c.args.width (c.loop-rest.invariant).0 c.args.bytes.now c.loop-rest.rest.now (c.loop-rest.invariant).1 some c.in-None.ensures
