-- Columns below a width.
use Rattle.std.proofs.Common.{◌<◌, ℕ, List, nat_lt, get_or, IsTrue}
use Rattle.std.specs.Prelude.{All}
use Rattle.std.specs.List.{list_all}
use Rattle.std.proofs.lemmas.Bool.{ltb-true}
use Rattle.std.proofs.lemmas.List.Sums.{AllPass-from_list_all}

pub below : (n : ℕ) (columns : List ℕ) → IsTrue (list_all (λ column. nat_lt column n) columns) → All (λ column. column < n) columns
below n columns all = λ k d lt. ltb-true (get_or columns k d) n (AllPass-from_list_all (λ column. nat_lt column n) columns all k d lt)
