-- What the bytes of a log say: it is read in one way, and one block more.
use Rattle.std.proofs.Common.{◌≡◌, ◌≢◌, ◌⊎◌, inl, inr, ℕ, zero, suc, ◌+◌, ◌<◌, ◌≤◌, ◌^◌, List, [], ◌∷◌, ◌++◌, length, get_or, take, drop, refl, sym, ◌∙◌, ap, subst, arith, append_assoc, length-append, length-take, length-drop, take-append-drop}
use Rattle.std.proofs.lemmas.Bool.{cases_eq, cases_lt}
use Rattle.std.proofs.lemmas.List.{append-nil, take_at, drop_at, drop_more}
use Rattle.std.proofs.lemmas.List.Sums.{sum_by-append}
use Rattle.std.proofs.lemmas.Nat.{from_be_bytes-to_be_bytes_8}
use Rattle.std.specs.Int.{w64, to_be_bytes, from_be_bytes}
use Rattle.event_log.specs.Blocks.{IsBlock, AreBlocks, IsClosedBehind, Reads, Breaks, SameBlocks, GainsBlock, blocks_size, length_at, frame}
use Rattle.event_log.specs.Started.{IsRead}

-- fronts of one length are the same, and so is what stands behind them
same_front : (a b x y : List ℕ) → length a ≡ length b → a ++ x ≡ b ++ y → (a ≡ b) × (x ≡ y)
same_front a b x y size is = (
  sym (take_at a x (length a) refl) ∙ ap (λ (l : List ℕ). take (length a) l) is ∙ take_at b y (length a) (sym size),
  sym (drop_at a x (length a) refl) ∙ ap (λ (l : List ℕ). drop (length a) l) is ∙ drop_at b y (length a) (sym size),
)

-- a block, and what stands behind it
opened : (body block rest front tail : List ℕ) (b : IsBlock body block) → front ≡ block ++ rest
    → front ++ tail ≡ b.gate ∷ (b.head ++ (body ++ (rest ++ tail)))
opened body block rest front tail b is =
    ap (λ (l : List ℕ). l ++ tail) (is ∙ ap (λ (l : List ℕ). l ++ rest) b.is)
    ∙ ap (λ (l : List ℕ). b.gate ∷ l)
    (append_assoc (b.head ++ body) rest tail ∙ append_assoc b.head body (rest ++ tail))

-- blocks up to a closed gate are so in one way
front_once : (a b : List (List ℕ)) (f g x y : List ℕ) → AreBlocks a f → AreBlocks b g → f ++ 0 ∷ x ≡ g ++ 0 ∷ y → a ≡ b
front_once [] [] f g x y none none' is = refl
front_once [] (body ∷ b) f g x y none (block, rest, first, begins, more) is =
    let gates : 0 ∷ x ≡ first.gate ∷ (first.head ++ (body ++ (rest ++ 0 ∷ y))) = sym (ap (λ (l : List ℕ). l ++ 0 ∷ x) none) ∙ is ∙ opened body block rest g (0 ∷ y) first begins in
    let shut : 0 ≡ first.gate = ap (λ (l : List ℕ). get_or l 0 0) gates in
    absurd (first.is_open (sym shut))
front_once (body ∷ a) [] f g x y (block, rest, first, begins, more) none is =
    let gates : 0 ∷ y ≡ first.gate ∷ (first.head ++ (body ++ (rest ++ 0 ∷ x))) = sym (ap (λ (l : List ℕ). l ++ 0 ∷ y) none) ∙ sym is ∙ opened body block rest f (0 ∷ x) first begins in
    let shut : 0 ≡ first.gate = ap (λ (l : List ℕ). get_or l 0 0) gates in
    absurd (first.is_open (sym shut))
front_once (body ∷ a) (body' ∷ b) f g x y (block, rest, first, begins, more) (block', rest', first', begins', more') is =
    let both : first.gate ∷ (first.head ++ (body ++ (rest ++ 0 ∷ x))) ≡ first'.gate ∷ (first'.head ++ (body' ++ (rest' ++ 0 ∷ y))) =
    sym (opened body block rest f (0 ∷ x) first begins) ∙ is ∙ opened body' block' rest' g (0 ∷ y) first' begins' in
    let behind : first.head ++ (body ++ (rest ++ 0 ∷ x)) ≡ first'.head ++ (body' ++ (rest' ++ 0 ∷ y)) = ap (λ (l : List ℕ). drop 1 l) both in
    let heads = same_front first.head first'.head _ _ (first.size ∙ sym first'.size) behind in
    let sizes : length body ≡ length body' = sym first.says ∙ ap (λ (l : List ℕ). from_be_bytes w64 l) heads.0 ∙ first'.says in
    let bodies = same_front body body' _ _ sizes heads.1 in
    ap (λ (h : List ℕ). h ∷ a) bodies.0 ∙ ap (λ (t : List (List ℕ)). body' ∷ t) (front_once a b rest rest' x y more more' bodies.1)

-- no byte, no block
no_front : (bodies : List (List ℕ)) (front : List ℕ) → AreBlocks bodies front → length front ≤ 0 → bodies ≡ []
no_front [] front none short = refl
no_front (body ∷ bodies) front (block, rest, first, begins, more) short =
    absurd (omega (arith, ap length (begins ∙ ap (λ (l : List ℕ). l ++ rest) first.is), short))

closed_size : (front log : List ℕ) → IsClosedBehind front log → length front < length log
closed_size front log (behind, is) = omega (arith, ap length is, length-append front (0 ∷ behind))

-- a log is read in one way
pub reads_once : (log : List ℕ) (a b : List (List ℕ)) → Reads log a → Reads log b → a ≡ b
reads_once log a b (inl fresh) (inl fresh') = fresh.1 ∙ sym fresh'.1
reads_once log a b (inl fresh) (inr (front, whole, closed)) =
    fresh.1 ∙ sym (no_front b front whole (omega (arith, closed_size front log closed, fresh.0)))
reads_once log a b (inr (front, whole, closed)) (inl fresh) =
    no_front a front whole (omega (arith, closed_size front log closed, fresh.0)) ∙ sym fresh.1
reads_once log a b (inr (front, whole, closed)) (inr (front', whole', closed')) =
    front_once a b front front' closed.0 closed'.0 whole whole' (sym closed.1 ∙ closed'.1)

-- blocks up to a closed gate are not blocks up to a broken one
never_both : (a b : List (List ℕ)) (f g x behind : List ℕ) (gate : ℕ) → AreBlocks a f → AreBlocks b g → gate ≢ 0 → length behind ≤ 8 + length_at behind → f ++ 0 ∷ x ≡ g ++ gate ∷ behind → ⊥
never_both [] [] f g x behind gate none none' is_open short is =
    let gates : 0 ∷ x ≡ gate ∷ behind = sym (ap (λ (l : List ℕ). l ++ 0 ∷ x) none) ∙ is ∙ ap (λ (l : List ℕ). l ++ gate ∷ behind) none' in
    is_open (sym (ap (λ (l : List ℕ). get_or l 0 0) gates))
never_both [] (body ∷ b) f g x behind gate none (block, rest, first, begins, more) is_open short is =
    let gates : 0 ∷ x ≡ first.gate ∷ (first.head ++ (body ++ (rest ++ gate ∷ behind))) = sym (ap (λ (l : List ℕ). l ++ 0 ∷ x) none) ∙ is ∙ opened body block rest g (gate ∷ behind) first begins in
    first.is_open (sym (ap (λ (l : List ℕ). get_or l 0 0) gates))
never_both (body ∷ a) [] f g x behind gate (block, rest, first, begins, more) none is_open short is =
    let both : first.gate ∷ (first.head ++ (body ++ (rest ++ 0 ∷ x))) ≡ gate ∷ behind =
    sym (opened body block rest f (0 ∷ x) first begins) ∙ is ∙ ap (λ (l : List ℕ). l ++ gate ∷ behind) none in
    let tail : first.head ++ (body ++ (rest ++ 0 ∷ x)) ≡ behind = ap (λ (l : List ℕ). drop 1 l) both in
    let says : length_at behind ≡ length body =
    ap length_at (sym tail) ∙ ap (λ (l : List ℕ). from_be_bytes w64 l) (take_at first.head (body ++ (rest ++ 0 ∷ x)) 8 first.size) ∙ first.says in
    absurd (omega (arith, short, says, ap length tail, first.size, length-append first.head (body ++ (rest ++ 0 ∷ x)), length-append body (rest ++ 0 ∷ x), length-append rest (0 ∷ x)))
never_both (body ∷ a) (body' ∷ b) f g x behind gate (block, rest, first, begins, more) (block', rest', first', begins', more') is_open short is =
    let both : first.gate ∷ (first.head ++ (body ++ (rest ++ 0 ∷ x))) ≡ first'.gate ∷ (first'.head ++ (body' ++ (rest' ++ gate ∷ behind))) =
    sym (opened body block rest f (0 ∷ x) first begins) ∙ is ∙ opened body' block' rest' g (gate ∷ behind) first' begins' in
    let tail : first.head ++ (body ++ (rest ++ 0 ∷ x)) ≡ first'.head ++ (body' ++ (rest' ++ gate ∷ behind)) = ap (λ (l : List ℕ). drop 1 l) both in
    let heads = same_front first.head first'.head _ _ (first.size ∙ sym first'.size) tail in
    let sizes : length body ≡ length body' = sym first.says ∙ ap (λ (l : List ℕ). from_be_bytes w64 l) heads.0 ∙ first'.says in
    let bodies = same_front body body' _ _ sizes heads.1 in
    never_both a b rest rest' x behind gate more more' is_open short bodies.1

-- a log that is read is not broken
pub read_unbroken : (log : List ℕ) (a b : List (List ℕ)) → Reads log a → ¬ (Breaks log b)
read_unbroken log a b (inl fresh) breaks = absurd (omega (arith, fresh.0, breaks.long))
read_unbroken log a b (inr (front, whole, closed)) breaks =
    never_both a b front breaks.front closed.0 breaks.behind breaks.gate whole breaks.whole breaks.is_open breaks.short (sym closed.1 ∙ breaks.is)

-- two logs of the same blocks
pub same_reads : (old new : List ℕ) (bodies : List (List ℕ)) → Reads old bodies → Reads new bodies → SameBlocks old new
same_reads old new bodies was is = λ others. (
  λ read. subst (λ (l : List (List ℕ)). Reads new l) (reads_once old bodies others was read) is,
  λ read. subst (λ (l : List (List ℕ)). Reads old l) (reads_once new bodies others is read) was,
)

-- a log with one block more
pub gains_reads : (old new : List ℕ) (bodies : List (List ℕ)) (body : List ℕ) → Reads old bodies → Reads new (bodies ++ body ∷ []) → GainsBlock body old new
gains_reads old new bodies body was is = λ others read. subst (λ (l : List (List ℕ)). Reads new (l ++ body ∷ [])) (reads_once old bodies others was read) is

-- a fresh log has no block
pub fresh_blocks : (log : List ℕ) → length log ≤ 1 → Reads log []
fresh_blocks log short = inl (short, refl)

-- a closed gate ends the blocks, whatever stands behind it
pub closed_reads : (front : List ℕ) (bodies : List (List ℕ)) → AreBlocks bodies front → (log : List ℕ) → IsClosedBehind front log → Reads log bodies
closed_reads front bodies whole log closed = inr (front, whole, closed)

pub length-frame : (body : List ℕ) → length (frame body) ≡ 8 + length body
length-frame body = length-append (to_be_bytes w64 (length body)) body

-- one block more
pub blocks_push : (bodies : List (List ℕ)) (front body block : List ℕ) → AreBlocks bodies front → IsBlock body block → AreBlocks (bodies ++ body ∷ []) (front ++ block)
blocks_push [] front body block none one = (block, [], one, ap (λ (l : List ℕ). l ++ block) none ∙ sym (append-nil block), refl)
blocks_push (b ∷ bodies) front body block (first_block, rest, first, begins, more) one =
    (first_block, rest ++ block, first, ap (λ (l : List ℕ). l ++ block) begins ∙ append_assoc first_block rest block, blocks_push bodies rest body block more one)

framed : (gate : ℕ) (body : List ℕ) → gate ≢ 0 → length body < 2 ^ 64 → IsBlock body (gate ∷ frame body)
framed gate body is_open fits = record {
  gate = gate;
  head = to_be_bytes w64 (length body);
  is_open = is_open;
  size = refl;
  says = from_be_bytes-to_be_bytes_8 (length body) fits;
  is = refl;
}

module _ (front : List ℕ) (bodies : List (List ℕ)) (whole : AreBlocks bodies front) where
  pub front_push : (gate : ℕ) (body : List ℕ) → gate ≢ 0 → length body < 2 ^ 64 → AreBlocks (bodies ++ body ∷ []) (front ++ gate ∷ frame body)
  front_push gate body is_open fits = blocks_push bodies front body (gate ∷ frame body) whole (framed gate body is_open fits)

  -- behind an open gate it counts
  pub open_gate : (gate : ℕ) (body behind log : List ℕ) → gate ≢ 0 → length body < 2 ^ 64 → log ≡ front ++ gate ∷ (frame body ++ 0 ∷ behind) → Reads log (bodies ++ body ∷ [])
  open_gate gate body behind log is_open fits is =
      inr (front ++ gate ∷ frame body, front_push gate body is_open fits, (behind, is ∙ sym (append_assoc front (gate ∷ frame body) (0 ∷ behind))))

  -- behind any gate a whole block counts, or it does not
  pub gate_reads : (gate : ℕ) (body behind log : List ℕ) → length body < 2 ^ 64 → log ≡ front ++ gate ∷ (frame body ++ 0 ∷ behind) → Reads log bodies ⊎ Reads log (bodies ++ body ∷ [])
  gate_reads gate body behind log fits is = elim (cases_eq gate 0) [
    | inl shut ↦ inl (inr (front, whole, (frame body ++ 0 ∷ behind, is ∙ ap (λ (n : ℕ). front ++ n ∷ (frame body ++ 0 ∷ behind)) shut)))
    | inr is_open ↦ inr (open_gate gate body behind log is_open fits is)
  ]

-- the blocks of what was read
pub read_blocks : (log : List ℕ) (bodies : List (List ℕ)) (end : ℕ) → IsRead log bodies end → Reads log bodies
read_blocks log bodies end read = inr (read.front, read.whole, read.closed)

-- the closed gate stands within the log
pub read_within : (log : List ℕ) (bodies : List (List ℕ)) (end : ℕ) → IsRead log bodies end → end < length log
read_within log bodies end read = omega (arith, closed_size read.front log read.closed, read.size)

take_two : (m n : ℕ) (l : List ℕ) → take (m + n) l ≡ take m l ++ take n (drop m l)
take_two zero n l = let same : zero + n ≡ n = omega arith in ap (λ (k : ℕ). take k l) same
take_two (suc m) n [] = let same : suc m + n ≡ suc (m + n) = omega arith in ap (λ (k : ℕ). take {A = ℕ} k []) same ∙ sym (none n)
  where
    none : (n : ℕ) → take {A = ℕ} n [] ≡ []
    none zero = refl
    none (suc n) = refl
take_two (suc m) n (x ∷ l) = let same : suc m + n ≡ suc (m + n) = omega arith in ap (λ (k : ℕ). take k (x ∷ l)) same ∙ ap (λ (t : List ℕ). x ∷ t) (take_two m n l)

-- a block more of a log
cut : (log : List ℕ) (end n : ℕ) → end < length log → take (end + 9 + n) log ≡ take end log ++ get_or log end 0 ∷ (take 8 (drop (end + 1) log) ++ take n (drop 8 (drop (end + 1) log)))
cut [] end n lt = absurd (omega arith)
cut (x ∷ log) zero n lt =
    let size : zero + 9 + n ≡ suc (8 + n) = omega arith in
    let one : zero + 1 ≡ suc zero = omega arith in
    ap (λ (k : ℕ). take k (x ∷ log)) size ∙ ap (λ (l : List ℕ). x ∷ l) (take_two 8 n log) ∙ ap (λ (k : ℕ). x ∷ (take 8 (drop k (x ∷ log)) ++ take n (drop 8 (drop k (x ∷ log))))) (sym one)
cut (x ∷ log) (suc end) n lt =
    let size : suc end + 9 + n ≡ suc (end + 9 + n) = omega arith in
    let one : suc end + 1 ≡ suc (end + 1) = omega arith in
    ap (λ (k : ℕ). take k (x ∷ log)) size ∙ ap (λ (l : List ℕ). x ∷ l) (cut log end n (omega arith))
    ∙ ap (λ (k : ℕ). x ∷ (take end log ++ get_or log end 0 ∷ (take 8 (drop k (x ∷ log)) ++ take n (drop 8 (drop k (x ∷ log)))))) (sym one)

-- what is read so far, and one block more
pub more_read : (log after body : List ℕ) (end later : ℕ) (bodies bodies' : List (List ℕ)) → end < length log → get_or log end 0 ≢ 0 → after ≡ drop (end + 1) log
    → body ≡ take (length_at after) (drop 8 after) → 8 + length_at after < length after → bodies' ≡ bodies ++ body ∷ [] → later ≡ end + 9 + length_at after
    → AreBlocks bodies (take end log) → AreBlocks bodies' (take later log)
more_read log after body end later bodies bodies' lt is_open after_is body_is room bodies_is later_is whole =
    let n = length_at after in
    let gate = get_or log end 0 in
    let head = take 8 after in
    let size : length body ≡ n = omega (arith, ap length body_is, length-take n (drop 8 after), length-drop 8 after, room) in
    let block : IsBlock body (gate ∷ (head ++ body)) = record { gate = gate; head = head; is_open = is_open; size = omega (arith, length-take 8 after, room); says = sym size; is = refl } in
    let split : take later log ≡ take end log ++ gate ∷ (head ++ body) =
    ap (λ (k : ℕ). take k log) later_is ∙ cut log end n lt ∙ ap (λ (l : List ℕ). take end log ++ gate ∷ (take 8 l ++ take n (drop 8 l))) (sym after_is)
    ∙ ap (λ (l : List ℕ). take end log ++ gate ∷ (head ++ l)) (sym body_is) in
    subst (λ (l : List (List ℕ)). AreBlocks l (take later log)) (sym bodies_is)
    (subst (λ (l : List ℕ). AreBlocks (bodies ++ body ∷ []) l) (sym split) (blocks_push bodies (take end log) body (gate ∷ (head ++ body)) whole block))

pub size_more : (bodies bodies' : List (List ℕ)) (body : List ℕ) (n : ℕ) → bodies' ≡ bodies ++ body ∷ [] → length body ≡ n → blocks_size bodies' ≡ blocks_size bodies + (9 + n)
size_more bodies bodies' body n is size =
    ap blocks_size is ∙ sum_by-append (λ b. 9 + length b) bodies (body ∷ []) ∙ omega (arith, size)

-- a gate that is open, and behind it too few bytes
pub broken_read : (log after : List ℕ) (end : ℕ) (bodies : List (List ℕ)) → end < length log → get_or log end 0 ≢ 0 → after ≡ drop (end + 1) log → length after ≤ 8 + length_at after
    → AreBlocks bodies (take end log) → (length log ≤ 1) ⊎ Breaks log bodies
broken_read log after end bodies lt is_open after_is short whole = elim (cases_lt 1 (length log)) [
  | inl long ↦ inr (record {
    long = long;
    front = take end log;
    gate = get_or log end 0;
    behind = drop (end + 1) log;
    whole = whole;
    is_open = is_open;
    is = sym (take-append-drop end log) ∙ ap (λ (l : List ℕ). take end log ++ l) (drop_more log end 0 lt);
    short = subst (λ (l : List ℕ). length l ≤ 8 + length_at l) after_is short;
  })
  | inr fresh ↦ inl fresh
]

pub read_closed : (log : List ℕ) (end : ℕ) (bodies : List (List ℕ)) → end < length log → get_or log end 0 ≡ 0 → AreBlocks bodies (take end log) → end ≡ blocks_size bodies → IsRead log bodies end
read_closed log end bodies lt shut whole takes = record {
  takes = takes;
  front = take end log;
  size = omega (arith, length-take end log);
  whole = whole;
  closed = (drop (end + 1) log, sym (take-append-drop end log) ∙ ap (λ (l : List ℕ). take end log ++ l) (drop_more log end 0 lt ∙ ap (λ (g : ℕ). g ∷ drop (end + 1) log) shut));
}
