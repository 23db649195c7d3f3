-- Records read as rows, a cell at a time.
use Rattle.std.proofs.Common.{◌≡◌, ℕ, zero, suc, ◌+◌, ◌<◌, List, [], ◌∷◌, ◌++◌, length, take, get_or, refl, ap, arith, add-one}
use Rattle.csv.specs.Records.{field_at}
use Rattle.row_core.specs.declared.value.Value.{Value}
use Rattle.row_core.specs.declared.value.Value.TheVariants.{Null}
use Rattle.plan_model.specs.declared.kind.Kind.{Kind}
use Rattle.plan_model.specs.Tables.{cell_value, row_of}
use Rattle.csv_tables.specs.Reading.{cell_or_null}

more : (kinds : List Kind) (cells : List (List ℕ)) (i : ℕ) (kind : Kind) → i < length kinds
    → row_of (take (suc i) kinds) cells ≡ row_of (take i kinds) cells ++ cell_or_null (get_or kinds i kind) (field_at cells i) ∷ []
unfolding field_at
more [] cells i kind lt = absurd (omega arith)
more (k ∷ kinds) [] zero kind lt = refl
more (k ∷ kinds) (cell ∷ cells) zero kind lt = refl
more (k ∷ kinds) [] (suc i) kind lt = ap (λ (row : List Value). Null ∷ row) (more kinds [] i kind (omega arith))
more (k ∷ kinds) (cell ∷ cells) (suc i) kind lt = ap (λ (row : List Value). cell_value k cell ∷ row) (more kinds cells i kind (omega arith))

-- one cell more
pub row_of_more : (kinds : List Kind) (cells : List (List ℕ)) (i : ℕ) (kind : Kind) → i < length kinds
    → row_of (take (i + 1) kinds) cells ≡ row_of (take i kinds) cells ++ cell_or_null (get_or kinds i kind) (field_at cells i) ∷ []
row_of_more kinds cells i kind lt = rw add-one (more kinds cells i kind lt)
