-- The sizes of a grid's producers and columns, in bytes.
use Rattle.std.specs.Prelude.{ℕ, zero, suc, ◌+◌, ◌*◌, ◌-◌, ◌^◌, min, List, map, sum_by, get_or}
use Rattle.std.specs.List.{range_with_len}
use Rattle.rect_cover.specs.declared.grid.Grid.{Grid}

-- a size, which counts as at most the greatest number of 64 bits
abbrev pub capped : ℕ → ℕ
capped size = min size (2 ^ 64 - 1)

-- the sum of what the numbers below n give
abbrev pub sum_below : ℕ → (ℕ → ℕ) → ℕ
sum_below zero f = 0
sum_below (suc n) f = sum_below n f + f n

abbrev pub cell_size : Grid → ℕ → ℕ → ℕ
cell_size grid p s = get_or grid.sizes (p * grid.cells + s) 0

abbrev pub producer_size : Grid → ℕ → ℕ
producer_size grid p = sum_below grid.cells (cell_size grid p)

abbrev pub column_size : Grid → ℕ → ℕ
column_size grid s = sum_below grid.producers (λ p. cell_size grid p s)

-- the size of each producer
abbrev pub producer_sizes : Grid → List ℕ
producer_sizes grid =
    map (λ p. capped (producer_size grid p)) (range_with_len 0 grid.producers)

-- the size of each column, over all of these grids
abbrev pub column_sizes : ℕ → List Grid → List ℕ
column_sizes columns grids =
    map (λ s. capped (sum_by (λ grid. column_size grid s) grids)) (range_with_len 0 columns)
