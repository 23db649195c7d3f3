-- What some logs say.
use Rattle.std.proofs.Common.{List, ℕ, [], ◌∷◌, inl, inr, refl, arith}
use Rattle.event_log.specs.Blocks.{Reads, Breaks}

-- a block whose gate is not open yet does not count
gate_closed : Reads (0 ∷ 0 ∷ 0 ∷ 0 ∷ 0 ∷ 0 ∷ 0 ∷ 0 ∷ 5 ∷ 1 ∷ 0 ∷ 0 ∷ 0 ∷ 1 ∷ 0 ∷ []) []
gate_closed = inr ([], refl, (0 ∷ 0 ∷ 0 ∷ 0 ∷ 0 ∷ 0 ∷ 0 ∷ 5 ∷ 1 ∷ 0 ∷ 0 ∷ 0 ∷ 1 ∷ 0 ∷ [], refl))

-- any byte but 0 opens it
gate_open : Reads (77 ∷ 0 ∷ 0 ∷ 0 ∷ 0 ∷ 0 ∷ 0 ∷ 0 ∷ 5 ∷ 1 ∷ 0 ∷ 0 ∷ 0 ∷ 1 ∷ 0 ∷ []) ((1 ∷ 0 ∷ 0 ∷ 0 ∷ 1 ∷ []) ∷ [])
gate_open =
    let block : List ℕ = 77 ∷ 0 ∷ 0 ∷ 0 ∷ 0 ∷ 0 ∷ 0 ∷ 0 ∷ 5 ∷ 1 ∷ 0 ∷ 0 ∷ 0 ∷ 1 ∷ [] in
    inr (block, (block, [], record { gate = 77; head = 0 ∷ 0 ∷ 0 ∷ 0 ∷ 0 ∷ 0 ∷ 0 ∷ 5 ∷ []; is_open = omega arith; size = refl; says = refl; is = refl }, refl, refl), ([], refl))

-- a log of one byte is fresh, whatever the byte
one_byte : Reads (9 ∷ []) []
one_byte = inl (omega arith, refl)

-- the second block, and the gate behind it, do not lie within the log
second_broken : Breaks (1 ∷ 0 ∷ 0 ∷ 0 ∷ 0 ∷ 0 ∷ 0 ∷ 0 ∷ 1 ∷ 9 ∷ 1 ∷ 0 ∷ 0 ∷ 0 ∷ 0 ∷ 0 ∷ 0 ∷ 0 ∷ 1 ∷ 8 ∷ []) ((9 ∷ []) ∷ [])
second_broken =
    let block : List ℕ = 1 ∷ 0 ∷ 0 ∷ 0 ∷ 0 ∷ 0 ∷ 0 ∷ 0 ∷ 1 ∷ 9 ∷ [] in record {
      long = omega arith;
      front = block;
      gate = 1;
      behind = 0 ∷ 0 ∷ 0 ∷ 0 ∷ 0 ∷ 0 ∷ 0 ∷ 1 ∷ 8 ∷ [];
      whole = (block, [], record { gate = 1; head = 0 ∷ 0 ∷ 0 ∷ 0 ∷ 0 ∷ 0 ∷ 0 ∷ 1 ∷ []; is_open = omega arith; size = refl; says = refl; is = refl }, refl, refl);
      is_open = omega arith;
      is = refl;
      short = omega arith;
    }
