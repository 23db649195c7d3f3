-- One of each of rows that come part by part.
use Rattle.std.proofs.Common.{◌≡◌, ℕ, ◌+◌, min, List, ◌++◌, sym, ◌∙◌, ap, arith}
use Rattle.row_core.specs.Bags.{SameBag, count_of, one_of_each}
use Rattle.bag_laws.specs.Rows.{OneRow as Row}
use Rattle.bag_laws.proofs.Laws.{same_refl, count-append, count-one_of_each, SameBag-append, SameBag-one_of_each}

-- one of each of two parts goes by one of each of the first
pub by_first : (rows others more : List Row) → SameBag (one_of_each rows) (one_of_each others) → SameBag (one_of_each (rows ++ more)) (one_of_each (others ++ more))
by_first rows others more same = record {
  counts = λ row.
      count-one_of_each row (rows ++ more)
      ∙ ap (min 1) (count-append row rows more)
      ∙ beside (count_of row rows) (count_of row others) (count_of row more) (sym (count-one_of_each row rows) ∙ same.counts row ∙ count-one_of_each row others)
      ∙ ap (min 1) (sym (count-append row others more))
      ∙ sym (count-one_of_each row (others ++ more));
}
  where
    beside : (n m k : ℕ) → min 1 n ≡ min 1 m → min 1 (n + k) ≡ min 1 (m + k)
    beside n m k e = omega (arith, e)

-- and by the bag of the second
pub by_second : (rows more further : List Row) → SameBag more further → SameBag (one_of_each (rows ++ more)) (one_of_each (rows ++ further))
by_second rows more further same = SameBag-one_of_each (rows ++ more) (rows ++ further) (SameBag-append rows more rows further (same_refl rows) same)
