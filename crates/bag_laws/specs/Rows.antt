-- Rows, their order, and operators that go by what their rows have in common.
use Rattle.std.specs.Prelude.{◌≡◌, Bool, false, List, [], ◌++◌, map, filter, All}
use Rattle.std.specs.Ordering.{is_lt}
use Rattle.row_core.specs.Bags.{SameBag, one_of_each}
use Rattle.row_core.specs.Values.{row_cmp, same_row}
use Rattle.row_core.specs.declared.value.Value.{Value}

-- the values of a row
abbrev pub OneRow : Type 0
OneRow = List Value

abbrev pub row_less : OneRow → OneRow → Bool
row_less a b = is_lt (row_cmp a b)

-- no row of the one meets a row of the other
abbrev pub AreApart : (OneRow → OneRow → Bool) → List OneRow → List OneRow → Type 0
AreApart meets rows others = All (λ row. All (λ other. meets row other ≡ false) others) rows

-- an operator that goes by the rows that meet: what it gives on two parts that don't meet is what
-- it gives on each
pub record IsKeyed (meets : OneRow → OneRow → Bool) (op : List OneRow → List OneRow) : Type 0 where
  pub none : op [] ≡ []
  pub same : (rows others : List OneRow) → SameBag rows others → SameBag (op rows) (op others)
  pub splits : (rows others : List OneRow) → AreApart meets rows others
      → SameBag (op (rows ++ others)) (op rows ++ op others)

-- a row for each key, of the key and its rows
abbrev pub grouped : (OneRow → OneRow) → (OneRow → List OneRow → OneRow) → List OneRow → List OneRow
grouped key_of row_for rows =
    map (λ key. row_for key (filter (λ row. same_row (key_of row) key) rows))
    (one_of_each (map key_of rows))
