-- What the bytes of a log say.
use Rattle.std.specs.Prelude.{◌≡◌, ◌≢◌, ◌⊎◌, ℕ, ◌+◌, ◌<◌, ◌≤◌, List, [], ◌∷◌, ◌++◌, length, take, drop, sum_by, None, ◌↔◌}
use Rattle.std.specs.Int.{w64, to_be_bytes, from_be_bytes}
use Rattle.estate.specs.Holding.{Holding}
use Rattle.estate.specs.World.{World}
use Rattle.estate.specs.Changes.{Step}

-- a block of this body: an open gate, the body's length in eight bytes, and the body
pub record IsBlock (body bytes : List ℕ) : Type 0 where
  pub gate : ℕ
  pub head : List ℕ
  pub is_open : gate ≢ 0
  pub size : length head ≡ 8
  pub says : from_be_bytes w64 head ≡ length body
  pub is : bytes ≡ gate ∷ (head ++ body)

-- the blocks of these bodies, one behind the other
abbrev pub AreBlocks : List (List ℕ) → List ℕ → Type 0
AreBlocks [] bytes = bytes ≡ []
AreBlocks (body ∷ bodies) bytes =
    (block rest : List ℕ) × IsBlock body block × (bytes ≡ block ++ rest) × AreBlocks bodies rest

-- a closed gate stands behind the front
abbrev pub IsClosedBehind : List ℕ → List ℕ → Type 0
IsClosedBehind front log = (behind : List ℕ) × (log ≡ front ++ 0 ∷ behind)

-- What a log says: one of at most one byte is fresh, and has no block; any other is blocks, a closed
-- gate, and whatever stands behind it.
abbrev pub Reads : List ℕ → List (List ℕ) → Type 0
Reads log bodies =
    ((length log ≤ 1) × (bodies ≡ []))
    ⊎ ((front : List ℕ) × AreBlocks bodies front × IsClosedBehind front log)

-- the length that stands at the front of these bytes
abbrev pub length_at : List ℕ → ℕ
length_at bytes = from_be_bytes w64 (take 8 bytes)

-- the body behind it
abbrev pub body_at : List ℕ → List ℕ
body_at bytes = take (length_at bytes) (drop 8 bytes)

-- A log is broken behind these blocks: an open gate stands there, and the length, the body and the
-- gate that are to follow do not all lie within the log.
pub record Breaks (log : List ℕ) (bodies : List (List ℕ)) : Type 0 where
  pub long : 1 < length log
  pub front : List ℕ
  pub gate : ℕ
  pub behind : List ℕ
  pub whole : AreBlocks bodies front
  pub is_open : gate ≢ 0
  pub is : log ≡ front ++ gate ∷ behind
  pub short : length behind ≤ 8 + length_at behind

-- a length, and the bytes
abbrev pub frame : List ℕ → List ℕ
frame body = to_be_bytes w64 (length body) ++ body

-- how many bytes blocks take, each with its gate and its length
abbrev pub blocks_size : List (List ℕ) → ℕ
blocks_size bodies = sum_by (λ body. 9 + length body) bodies

-- the two logs have the same blocks
abbrev pub SameBlocks : List ℕ → List ℕ → Type 0
SameBlocks old new = (bodies : List (List ℕ)) → Reads old bodies ↔ Reads new bodies

-- the new log has the blocks of the old, and one of this body behind them
abbrev pub GainsBlock : List ℕ → List ℕ → List ℕ → Type 0
GainsBlock body old new =
    (bodies : List (List ℕ)) → Reads old bodies → Reads new (bodies ++ body ∷ [])

-- the new log has the blocks of the old, alone or with one of this body
abbrev pub MayGainBlock : List ℕ → List ℕ → List ℕ → Type 0
MayGainBlock body old new = SameBlocks old new ⊎ GainsBlock body old new

-- the log has the same blocks, and nothing else changes but that names may be gone
abbrev pub KeepsBlocks : Holding → Holding → Type 0
KeepsBlocks = Step SameBlocks None None

-- the same, or with one block of this body
abbrev pub AddsBlock : List ℕ → Holding → Holding → Type 0
AddsBlock body = Step (MayGainBlock body) None None

-- whatever a crash now leaves, the log has these blocks
abbrev pub HasBlocks : List (List ℕ) → World → Type 0
HasBlocks bodies world = (image : Holding) → world.images world.now image → Reads image.log bodies

-- whatever a crash now leaves, the log has the blocks that it had, and one of this body behind them
abbrev pub LandsBehind : List ℕ → World → World → Type 0
LandsBehind body old new =
    (bodies : List (List ℕ)) → Reads old.holding.log bodies → HasBlocks (bodies ++ body ∷ []) new
