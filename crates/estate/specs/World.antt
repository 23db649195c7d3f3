-- What an estate is, as contracts see it: what it holds, what a crash may leave, and its counts.
use Rattle.std.specs.Prelude.{◌≡◌, ℕ, ◌≤◌, ◌≢◌, Bool, IsTrue, Contains, AllPairs, List, Option, MatchOption}
use Rattle.estate.specs.declared.part_name.PartName.{PartName}
use Rattle.estate.specs.Holding.{Holding, Counts, StoredPart}
use Rattle.estate.specs.Parts.{cell_of}

-- The holding says something only where it is told. The images since a moment are the holdings that
-- a crash at some moment from that one on may leave.
pub record World : Type 1 where
  pub told : Bool
  pub holding : Holding
  pub now : ℕ
  pub images : ℕ → Holding → Type 0
  pub counts : Counts

-- What holds of each estate between two calls.
pub record IsWorld (world : World) : Type 0 where
  -- an estate that does not tell what it holds tells no image
  pub tells : (t : ℕ) (image : Holding) → world.images t image → IsTrue world.told
  -- a crash now may leave what is held
  pub own : IsTrue world.told → world.images world.now world.holding
  -- names stand once, and what is held was put
  pub distinct : IsTrue world.told → AllPairs (λ p q. p.name ≢ q.name) world.holding.ever
  pub was_put : IsTrue world.told → (name : PartName) → Contains world.holding.held name →
      (part : StoredPart) × Contains world.holding.ever part × (part.name ≡ name)
  -- an earlier moment has the images of each later one
  pub widens : (t u : ℕ) (image : Holding) → t ≤ u → u ≤ world.now → world.images u image →
      world.images t image
  -- nothing is under way: a crash now leaves each part and each commit whole
  pub ever : (image : Holding) → world.images world.now image → image.ever ≡ world.holding.ever
  pub commits : (image : Holding) → world.images world.now image →
      image.commits ≡ world.holding.commits
  pub held : (image : Holding) → world.images world.now image → (name : PartName) →
      Contains image.held name → Contains world.holding.held name

-- each crash now leaves the log that a read gives
abbrev pub IsDurable : World → Type 0
IsDurable world =
    (image : Holding) → world.images world.now image → image.log ≡ world.holding.log

-- the answer to a look for a cell: its bytes, or nothing where the part is not held
abbrev pub AnswersCell : PartName → ℕ → ℕ → World → World → Option (List ℕ) → Type 0
AnswersCell name edge cell old new answer =
    MatchOption answer
    (¬ (Contains new.holding.held name))
    (λ bytes. Contains new.holding.held name × (bytes ≡ cell_of name edge cell old.holding.ever))
