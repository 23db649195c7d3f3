-- Lists nest no deeper than lists and objects do.
use Rattle.std.proofs.Common.{◌≤◌, arith}
use Rattle.serde_json.specs.Data.{Data, null, boolean, number, string, array, object, Items, no_items, item, depth, items_depth}
use Rattle.expr_json.specs.Depths.{list_depth, greatest_depth}

mutual
  pub list_depth-nests : (d : Data) → list_depth d ≤ depth d
  list_depth-nests null = omega arith
  list_depth-nests (boolean b) = omega arith
  list_depth-nests (number n) = omega arith
  list_depth-nests (string s) = omega arith
  list_depth-nests (array ds) = omega (arith, greatest_depth-nests ds)
  list_depth-nests (object ms) = omega arith

  pub greatest_depth-nests : (ds : Items) → greatest_depth ds ≤ items_depth ds
  greatest_depth-nests no_items = omega arith
  greatest_depth-nests (item d ds) = omega (arith, list_depth-nests d, greatest_depth-nests ds)
