-- The rows of the generated tables.
use Rattle.std.specs.Prelude.{ℕ, ◌+◌, ◌-◌, ◌*◌, ◌/◌, ◌%◌, min, List, [], ◌∷◌, ◌++◌, map, codes}
use Rattle.std.specs.Fmt.{decimal}
use Rattle.std.specs.List.{flat_map, range_with_len}
use Rattle.estate.specs.declared.table.Table.{Table}

-- an order: its number, its city's number and its amount
abbrev pub order_line : ℕ → List ℕ
order_line i =
    decimal i ++ codes "," ++ decimal (7 * i % 10) ++ codes "," ++ decimal ((31 * i + 7) % 100)
    ++ codes "\n"

-- the orders from one number up to another, without that one
abbrev pub order_lines : ℕ → ℕ → List ℕ
order_lines first end = flat_map order_line (range_with_len first (end - first))

-- file k of the first n orders: 250 of them, and the rest in the last file
abbrev pub order_file : ℕ → ℕ → List ℕ
order_file n k = order_lines (250 * k) (min (250 * k + 250) n)

-- all files of the first n orders
abbrev pub order_files : ℕ → List (List ℕ)
order_files n = map (order_file n) (range_with_len 0 ((n + 249) / 250))

-- a city: its number and its name
abbrev pub city_line : ℕ → List ℕ
city_line c = decimal c ++ codes ",city" ++ decimal c ++ codes "\n"

-- the ten cities
abbrev pub city_lines : List ℕ
city_lines = flat_map city_line (range_with_len 0 10)

-- both tables, with n orders
abbrev pub generated_tables : ℕ → List Table
generated_tables n =
    record { table = codes "orders"; files = order_files n }
    ∷ record { table = codes "cities"; files = city_lines ∷ [] }
    ∷ []
