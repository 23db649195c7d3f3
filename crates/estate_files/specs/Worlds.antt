-- The world of an estate that tells nothing but its counts.
use Rattle.std.specs.Prelude.{◌≡◌, true, false, IsTrue, []}
use Rattle.estate.specs.Holding.{Counts, empty_holding}
use Rattle.estate.specs.World.{World, IsWorld}

abbrev pub counted_world : Counts → World
counted_world counts = record {
  told = false;
  holding = empty_holding;
  now = 0;
  images = λ moment image. ⊥;
  counts = counts;
}

never : {A : Type 0} → IsTrue false → A
never told = let impossible : false ≡ true = told in cc

pub counted_lawful : (counts : Counts) → IsWorld (counted_world counts)
counted_lawful counts = record {
  tells = λ t image left. absurd left;
  own = λ told. never told;
  distinct = λ told. never told;
  was_put = λ told. never told;
  widens = λ t u image le within left. left;
  ever = λ image left. absurd left;
  commits = λ image left. absurd left;
  held = λ image left. absurd left;
}
