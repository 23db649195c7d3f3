-- A proof, not a definition: what an estate in memory may leave is what contracts say of every estate.
use Rattle.std.specs.Prelude.{◌≡◌, ◌≢◌, ◌⊎◌, ℕ, zero, suc, ◌+◌, ◌-◌, ◌<◌, ◌≤◌, min, Bool, true, false, cond, not, ◌&&◌, nat_le, AllPairs, Contains, List, [], ◌∷◌, ◌++◌, length, take, drop, map, None}
use Rattle.std.specs.List.{filter}
use Rattle.std.proofs.Common.{inl, inr, ⊎_elim, refl, sym, ◌∙◌, ap, subst, arith, append_assoc, length-append, length-take, length-drop}
use Rattle.std.proofs.lemmas.Bool.{cases_lt}
use Rattle.std.proofs.lemmas.List.{take_at, take_all, drop_all, append-nil, get_or-map, length-map}
use Rattle.std.proofs.lemmas.List.Kept.{AllPairs-filter}
use Rattle.estate.specs.declared.part_name.PartName.{PartName}
use Rattle.estate.specs.declared.shelved.Shelved.{Shelved}
use Rattle.estate.specs.declared.write.Write.{Write}
use Rattle.estate.specs.Holding.{StoredPart, Holding, Counts}
use Rattle.estate.specs.World.{IsWorld}
use Rattle.estate.specs.Changes.{Torn}
use Rattle.estate.specs.Disk.{overwritten, applied, IsTornBy}
use Rattle.estate.specs.Shelf.{is_lost_by, stored, ever_at, held_at}
use Rattle.estate.specs.Pasts.{Past, IsLeftOf, past_world, History, past_at}

-- the bytes of a log

drop_on : (m n k : ℕ) (xs : List ℕ) → k ≡ m + n → drop n (drop m xs) ≡ drop k xs
drop_on zero n k xs is = ap (λ (j : ℕ). drop j xs) (omega arith)
drop_on (suc m) n zero xs is = absurd (omega arith)
drop_on (suc m) zero (suc k) [] is = refl
drop_on (suc m) (suc n) (suc k) [] is = refl
drop_on (suc m) n (suc k) (x ∷ xs) is = drop_on m n k xs (omega arith)

drop_past : (xs ys : List ℕ) (m n : ℕ) → m ≡ length xs + n → drop m (xs ++ ys) ≡ drop n ys
drop_past [] ys m n is = ap (λ (k : ℕ). drop k ys) (omega arith)
drop_past (x ∷ xs) ys zero n is = absurd (omega arith)
drop_past (x ∷ xs) ys (suc m) n is = drop_past xs ys m n (omega arith)

torn_within : (at n : ℕ) (log bytes : List ℕ) → at ≤ length log → length bytes ≤ n → Torn at n log (overwritten log at bytes)
torn_within at n log bytes within few =
    let front : length (take at log) ≡ at = omega (arith, length-take at log) in
    let head : length (take at log ++ bytes) ≡ at + length bytes = omega (arith, length-append (take at log) bytes, front) in
    let rest = drop (at + length bytes) log in
    let size : length (overwritten log at bytes) ≡ at + length bytes + length rest = omega (arith, length-append (take at log ++ bytes) rest, head) in
    let rest_size : length rest ≡ length log - (at + length bytes) = length-drop (at + length bytes) log in
    record {
      before =
          let least : min at (length log) ≡ at = omega arith in
          ap (λ (k : ℕ). take k (overwritten log at bytes)) least
          ∙ ap (λ (l : List ℕ). take at l) (append_assoc (take at log) bytes rest)
          ∙ take_at (take at log) (bytes ++ rest) at front;
      after =
          drop_past (take at log ++ bytes) rest (at + n) (n - length bytes) (omega arith)
          ∙ drop_on (at + length bytes) (n - length bytes) (at + n) log (omega arith);
      no_shorter = omega arith;
      no_longer = omega arith;
    }

torn_past : (at n : ℕ) (log bytes : List ℕ) → length log ≤ at → length bytes ≤ n → Torn at n log (log ++ bytes)
torn_past at n log bytes past few =
    let size = length-append log bytes in
    record {
      before =
          let least : min at (length log) ≡ length log = omega arith in
          ap (λ (k : ℕ). take k (log ++ bytes)) least ∙ take_at log bytes (length log) refl ∙ sym (take_all at log past);
      after = drop_all (at + n) (log ++ bytes) (omega (arith, size)) ∙ sym (drop_all (at + n) log (omega arith));
      no_shorter = omega (arith, size);
      no_longer = omega (arith, size);
    }

-- a write of no more bytes than may be torn
pub torn_some : (at n : ℕ) (log bytes : List ℕ) → length bytes ≤ n → Torn at n log (overwritten log at bytes)
torn_some at n log bytes few =
    ⊎_elim
    (λ (past : length log < at).
    let front : take at log ≡ log = take_all at log (omega arith) in
    let rest : drop (at + length bytes) log ≡ [] = drop_all (at + length bytes) log (omega arith) in
    let is : overwritten log at bytes ≡ log ++ bytes =
    ap (λ (l : List ℕ). l ++ bytes ++ drop (at + length bytes) log) front ∙ ap (λ (l : List ℕ). log ++ bytes ++ l) rest ∙ append-nil (log ++ bytes) in
    subst (λ (l : List ℕ). Torn at n log l) (sym is) (torn_past at n log bytes (omega arith) few))
    (λ (within : at ≤ length log). torn_within at n log bytes within few)
    (cases_lt (length log) at)

-- all the writes are one of the ways in which they may be torn
pub torn_applied : (writes : List Write) (durable : List ℕ) → IsTornBy writes durable (applied writes durable)
torn_applied [] durable = refl
torn_applied (write ∷ writes) durable =
    let after = overwritten durable write.at write.bytes in
    (after, torn_some write.at (length write.bytes) durable write.bytes (omega arith), torn_applied writes after)

-- the parts of a shelf

pub contains_cases : {X : Type 0} (x : X) (xs : List X) (y : X) → Contains (x ∷ xs) y → (x ≡ y) ⊎ Contains xs y
contains_cases x xs y (zero, lt, is) = inl is
contains_cases x xs y (suc k, lt, is) = inr (k, omega arith, is)

pub contains_later : {X : Type 0} (x : X) (xs : List X) (y : X) → Contains xs y → Contains (x ∷ xs) y
contains_later x xs y has = (suc has.0, omega (arith, has.1), has.2)

put_head : (p : Shelved) (held : List Shelved) (ever : List Shelved) (a b : Bool) (name : PartName)
    → (Contains (map (λ part. part.name) held) name → (part : StoredPart) × Contains (map stored ever) part × (part.name ≡ name))
    → Contains (map (λ part. part.name) (cond (a && b) (p ∷ held) held)) name
    → (part : StoredPart) × Contains (map stored (cond a (p ∷ ever) ever)) part × (part.name ≡ name)
put_head p held ever true true name rest has =
    ⊎_elim
    (λ here. (stored p, (zero, omega arith, refl), here))
    (λ later. let r = rest later in (r.0, contains_later (stored p) (map stored ever) r.0 r.1, r.2))
    (contains_cases p.name (map (λ part. part.name) held) name has)
put_head p held ever true false name rest has = let r = rest has in (r.0, contains_later (stored p) (map stored ever) r.0 r.1, r.2)
put_head p held ever false b name rest has = rest has

-- what is held was put
pub held_was_put : (u : ℕ) (parts : List Shelved) (name : PartName) → Contains (held_at u parts) name → (part : StoredPart) × Contains (ever_at u parts) part × (part.name ≡ name)
held_was_put u [] name has = absurd (omega (arith, has.1))
held_was_put u (p ∷ parts) name has =
    put_head p (filter (λ part. nat_le part.since u && not (is_lost_by u part.lost)) parts) (filter (λ part. nat_le part.since u) parts) (nat_le p.since u) (not (is_lost_by u p.lost)) name (held_was_put u parts name) has

pub distinct_ever : (u : ℕ) (parts : List Shelved) → AllPairs (λ p q. p.name ≢ q.name) parts → AllPairs (λ p q. p.name ≢ q.name) (ever_at u parts)
distinct_ever u parts distinct i j d below within same =
    let some : Shelved = record { since = 0; name = d.name; edges = d.edges; lost = None } in
    let these = filter (λ part. nat_le part.since u) parts in
    let size : length (map stored these) ≡ length these = length-map these stored in
    let first = get_or-map stored these i some d (omega arith) in
    let second = get_or-map stored these j some d (omega arith) in
    let apart = AllPairs-filter (λ (p : Shelved) (q : Shelved). p.name ≢ q.name) (λ part. nat_le part.since u) parts distinct i j some below (omega arith) in
    apart (ap (λ (p : StoredPart). p.name) (sym first) ∙ same ∙ ap (λ (p : StoredPart). p.name) second)

-- what is left of a moment that is no other than now
left_now : (past : ℕ → Past) (now u : ℕ) (image : Holding) → now ≤ u → u ≤ now → IsLeftOf (past u) image → IsLeftOf (past now) image
left_now past now u image le ge left = let is : u ≡ now = omega arith in subst (λ (v : ℕ). IsLeftOf (past v) image) is left

-- what holds of it between two calls
pub past_lawful : (history : History) (now : ℕ) (counts : Counts) → AllPairs (λ p q. p.name ≢ q.name) history.shelf → IsWorld (past_world (past_at history) now counts)
past_lawful history now counts distinct =
    let past = past_at history in
    let here = past now in record {
      tells = λ t image was. refl;
      own = λ told. (now, omega arith, omega arith, record { log = torn_applied here.disk.writes here.disk.durable; ever = refl; held = refl; commits = refl });
      distinct = λ told. distinct_ever now history.shelf distinct;
      was_put = λ told. held_was_put now history.shelf;
      widens = λ t u image le here was. (was.0, omega (arith, was.1), was.2, was.3);
      ever = λ image was. (left_now past now was.0 image was.1 was.2 was.3).ever;
      commits = λ image was. (left_now past now was.0 image was.1 was.2 was.3).commits;
      held = λ image was name has. subst (λ (l : List PartName). Contains l name) (left_now past now was.0 image was.1 was.2 was.3).held has;
    }
