-- What a crash may leave in each of the two writes of a flush.
use Rattle.std.proofs.Common.{◌≡◌, inl, inr, ⊎_elim, ℕ, ◌+◌, ◌<◌, ◌^◌, List, [], ◌∷◌, ◌++◌, length, None, IsTrue, sym, ◌∙◌, ap, subst, arith, append_assoc, length-append}
use Rattle.estate.specs.Holding.{Holding}
use Rattle.estate.specs.World.{World, IsWorld}
use Rattle.estate.specs.Changes.{Torn, Holds, Step, Stays, Leads}
use Rattle.estate.proofs.Laws.{leads_on, leads_by, now_since, step_by, step_both, told_on}
use Rattle.event_log.specs.Blocks.{AreBlocks, IsClosedBehind, frame, SameBlocks, MayGainBlock, LandsBehind}
use Rattle.event_log.specs.Started.{IsStarted}
use Rattle.event_log.proofs.Reading.{same_reads, gains_reads, closed_reads, gate_reads, open_gate, front_push, length-frame}
use Rattle.event_log.proofs.Writing.{torn_behind, written_behind, torn_gate, written_gate}

-- two logs that are closed behind one front have the same blocks
same_blocks : (front : List ℕ) (bodies : List (List ℕ)) → AreBlocks bodies front → (old new : List ℕ) → IsClosedBehind front old → IsClosedBehind front new → SameBlocks old new
same_blocks front bodies whole old new was is =
    same_reads old new bodies (closed_reads front bodies whole old was) (closed_reads front bodies whole new is)

module _ (end : ℕ) (a b : World) (lawful_a : IsWorld a) (lawful_b : IsWorld b) (started : IsStarted end a) where
  -- a write behind the closed gate leaves the blocks
  pub behind_keeps : (n : ℕ) → Leads (Step (Torn (end + 1) n) None None) a b → Leads (Step SameBlocks None None) a b
  behind_keeps n write =
      leads_by a b lawful_a write (λ d h from step.
      let s = started (lawful_a.tells a.now d from) in
      let was = s.images d from in
      let is = torn_behind s.front end s.size n was.0 h.log (subst (λ (l : List ℕ). Torn (end + 1) n l h.log) was.1 step.log) in
      step_by (Torn (end + 1) n) None None SameBlocks d h (λ torn. same_blocks s.front s.bodies s.whole d.log h.log was is) step)

  -- and the log is started as before
  pub behind_started : (n : ℕ) → Leads (Step (Torn (end + 1) n) None None) a b → IsStarted end b
  behind_started n write told =
      let s = started (subst (λ t. IsTrue t) write.time.told told) in record {
        front = s.front;
        bodies = s.bodies;
        size = s.size;
        whole = s.whole;
        images = λ image here.
            let from = write.images image (now_since a b lawful_b write.time image here) in
            let was = s.images from.0 from.1 in
            torn_behind s.front end s.size n was.0 image.log (subst (λ (l : List ℕ). Torn (end + 1) n l image.log) was.1 (from.2).log);
      }

-- a log with a whole block behind its closed gate
abbrev IsStaged : List ℕ → List ℕ → List ℕ → Type 0
IsStaged front body log = (rest : List ℕ) × (log ≡ front ++ 0 ∷ (frame body ++ 0 ∷ rest))

-- from a, where the log is started, by a write of the block to b, and by a write of the gate to c
module _ (end : ℕ) (body : List ℕ) (a b c : World) (lawful_a : IsWorld a) (lawful_b : IsWorld b) (lawful_c : IsWorld c) (fits : length body < 2 ^ 64)
    (started : IsStarted end a)
    (write : Leads (Step (Torn (end + 1) (length (frame body ++ 0 ∷ []))) None None) a b)
    (staged : IsTrue a.told → (image : Holding) → b.images b.now image → Holds a.holding.log (end + 1) (frame body ++ 0 ∷ []) image.log) where
  kept : Leads (Step SameBlocks None None) a b
  kept = behind_keeps end a b lawful_a lawful_b started (length (frame body ++ 0 ∷ [])) write

  behind_front : (told : IsTrue a.told) (image : Holding) → b.images b.now image → IsStaged (started told).front body image.log
  behind_front told image here =
      let s = started told in
      let was = s.images a.holding (lawful_a.own told) in
      let is = written_behind s.front end s.size (frame body ++ 0 ∷ []) was.0 image.log (subst (λ (l : List ℕ). Holds l (end + 1) (frame body ++ 0 ∷ []) image.log) was.1 (staged told image here)) in
      (is.0, is.1 ∙ ap (λ (l : List ℕ). s.front ++ 0 ∷ l) (append_assoc (frame body) (0 ∷ []) is.0))

  -- the write of the gate gains the block, or leaves the blocks
  pub gate_gains : Leads (Step (Torn end 1) None None) b c → Leads (Step (MayGainBlock body) None None) a c
  gate_gains gate =
      leads_on a b c lawful_a lawful_b lawful_c kept gate
      (λ d h from same. step_by SameBlocks None None (MayGainBlock body) d h (λ is. inl is) same)
      (λ d e h from middle same torn.
      let told = lawful_a.tells a.now d from in
      let s = started told in
      let was = s.images d from in
      let here = behind_front told e middle in
      let is = torn_gate s.front end s.size 0 (frame body ++ 0 ∷ here.0) h.log (subst (λ (l : List ℕ). Torn end 1 l h.log) here.1 torn.log) in
      let before = closed_reads s.front s.bodies s.whole d.log was in
      step_both SameBlocks (Torn end 1) (MayGainBlock body) d e h same torn
      (⊎_elim
      (λ shut. inl (same_reads d.log h.log s.bodies before shut))
      (λ is_open. inr (gains_reads d.log h.log s.bodies body before is_open))
      (gate_reads s.front s.bodies s.whole is.0 body here.0 h.log fits is.1)))

  -- where it was not written, the blocks are left
  pub gate_stays : Leads Stays b c → Leads (Step SameBlocks None None) a c
  gate_stays stays =
      leads_on a b c lawful_a lawful_b lawful_c kept stays (λ d h from same. same)
      (λ d e h from middle same stay. step_both SameBlocks (λ old new. new ≡ old) SameBlocks d e h same stay (subst (λ (l : List ℕ). SameBlocks d.log l) (sym stay.log) same.log))

  -- where it is on the disk, each image has the block
  module _ (opened : IsTrue b.told → (image : Holding) → c.images c.now image → Holds b.holding.log end (1 ∷ []) image.log) (gate : Leads (Step (Torn end 1) None None) b c) where
    open_front : (told : IsTrue a.told) (image : Holding) → c.images c.now image → (rest : List ℕ) × (image.log ≡ (started told).front ++ 1 ∷ (frame body ++ 0 ∷ rest))
    open_front told image here =
        let s = started told in
        let told_b = told_on a b write.time told in
        let was = behind_front told b.holding (lawful_b.own told_b) in
        (was.0, written_gate s.front end s.size 0 1 (frame body ++ 0 ∷ was.0) image.log (subst (λ (l : List ℕ). Holds l end (1 ∷ []) image.log) was.1 (opened told_b image here)))

    told_at : IsTrue c.told → IsTrue a.told
    told_at told = subst (λ t. IsTrue t) (gate.time.told ∙ write.time.told) told

    pub block_lands : LandsBehind body a c
    block_lands bodies read image here =
        let told = told_at (lawful_c.tells c.now image here) in
        let s = started told in
        let was = s.images a.holding (lawful_a.own told) in
        let is = open_front told image here in
        gains_reads a.holding.log image.log s.bodies body (closed_reads s.front s.bodies s.whole a.holding.log was)
        (open_gate s.front s.bodies s.whole 1 body is.0 image.log (omega arith) fits is.1) bodies read

    pub block_started : (later : ℕ) → later ≡ end + 9 + length body → IsStarted later c
    block_started later is told_c =
        let told = told_at told_c in
        let s = started told in record {
          front = s.front ++ 1 ∷ frame body;
          bodies = s.bodies ++ body ∷ [];
          size = omega (arith, length-append s.front (1 ∷ frame body), length-frame body, s.size, is);
          whole = front_push s.front s.bodies s.whole 1 body (omega arith) fits;
          images = λ image here. let stands = open_front told image here in (stands.0, stands.1 ∙ sym (append_assoc s.front (1 ∷ frame body) (0 ∷ stands.0)));
        }
