-- Rows that are taken in parts.
use Rattle.std.proofs.Common.{List, [], ◌++◌, sym, subst, append_assoc}
use Rattle.std.proofs.lemmas.List.{append-nil}
use Rattle.bag_laws.specs.Rows.{OneRow as Row}
use Rattle.row_collector.specs.Collecting.{Collects}

-- nothing is taken of no rows
pub none_collected : {S : Type 0} (holds : S → List Row → Type 0) (held : S) → Collects holds held held []
none_collected holds held = λ rows had. subst (holds held) (sym (append-nil rows)) had

-- the rows of two batches are those of both
pub both_collected : {S : Type 0} (holds : S → List Row → Type 0) (old middle new : S) (batch more : List Row) → Collects holds old middle batch → Collects holds middle new more → Collects holds old new (batch ++ more)
both_collected holds old middle new batch more first later = λ rows had. subst (holds new) (append_assoc rows batch more) (later (rows ++ batch) (first rows had))
