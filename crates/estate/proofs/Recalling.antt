-- What a crash makes of what stood at a moment.
use Rattle.std.proofs.Common.{◌≡◌, ℕ, zero, suc, ◌+◌, ◌/◌, ◌<◌, ◌≤◌, Bool, true, false, cond, not, ◌&&◌, nat_le, All, List, [], ◌∷◌, ◌++◌, length, take, get_or, map, Option, Some, None, refl, sym, ◌∙◌, ap, subst, arith, length-take}
use Rattle.std.specs.List.{filter, slice_index_or}
use Rattle.std.proofs.lemmas.List.{map-append, length-map}
use Rattle.std.proofs.lemmas.List.Elements.{filter_more, All-append, All-cons, All-nil, All-map}
use Rattle.std.proofs.lemmas.Bool.Decides.{nat_tests}
use Rattle.estate.specs.declared.part_name.PartName.{PartName}
use Rattle.estate.specs.declared.commit.Commit.{Commit}
use Rattle.estate.specs.declared.committed.Committed.{Committed}
use Rattle.estate.specs.declared.shelved.Shelved.{Shelved}
use Rattle.estate.specs.declared.write.Write.{Write}
use Rattle.estate.specs.Holding.{StoredPart}
use Rattle.estate.specs.declared.log_change.LogChange.{LogChange}
use Rattle.estate.specs.Disk.{applied, overwritten, IsTornBy, whole_log, disk_of, disk_at, filled, last_halved, kept, chosen_log}
use Rattle.estate.specs.Shelf.{is_lost_by, is_lost, stored, ever_at, held_at, held_in, HasHappened, recalled, recalled_loss}
use Rattle.estate.specs.Pasts.{Past, IsLeftOf, whole, chosen, commits_in, commits_at, History, past_at, HasEnded}
use Rattle.estate.specs.PastLaws.{torn_some, torn_applied}
use Rattle.estate.proofs.Torn.{torn_refl}
use Rattle.estate.proofs.Stepping.{happened_until, held_after}
use Rattle.estate.proofs.Calling.{log_now, commits_now}

-- each choice leaves one of the ways in which the writes may be torn

torn_none : (writes : List Write) (durable : List ℕ) → IsTornBy writes durable durable
torn_none [] durable = refl
torn_none (write ∷ writes) durable = (durable, torn_refl write.at (length write.bytes) durable, torn_none writes durable)

torn_filled : (writes : List Write) (durable : List ℕ) → IsTornBy writes durable (applied (map filled writes) durable)
torn_filled [] durable = refl
torn_filled (write ∷ writes) durable =
    let bytes = map (λ _. 255) write.bytes in
    let size : length bytes ≡ length write.bytes = length-map write.bytes (λ _. 255) in
    (overwritten durable write.at bytes, torn_some write.at (length write.bytes) durable bytes (omega arith), torn_filled writes (overwritten durable write.at bytes))

torn_halved : (writes : List Write) (durable : List ℕ) → IsTornBy writes durable (applied (last_halved writes) durable)
torn_halved [] durable = refl
torn_halved (write ∷ []) durable =
    let bytes = take (length write.bytes / 2) write.bytes in
    let size : length bytes ≤ length write.bytes = omega (arith, length-take (length write.bytes / 2) write.bytes) in
    (overwritten durable write.at bytes, torn_some write.at (length write.bytes) durable bytes size, refl)
torn_halved (write ∷ second ∷ writes) durable =
    let after = overwritten durable write.at write.bytes in
    (after, torn_some write.at (length write.bytes) durable write.bytes (omega arith), torn_halved (second ∷ writes) after)

torn_kept : (choice : ℕ) (writes : List Write) (durable : List ℕ) → IsTornBy writes durable (applied (kept choice writes) durable)
torn_kept zero writes durable = torn_none writes durable
torn_kept (suc zero) writes durable = torn_applied writes durable
torn_kept (suc (suc zero)) writes durable = torn_filled writes durable
torn_kept (suc (suc (suc choice))) writes durable = torn_halved writes durable

pub chosen_left : (choice : ℕ) (past : Past) → IsLeftOf past (chosen choice past)
chosen_left choice past = record { log = torn_kept choice past.disk.writes past.disk.durable; ever = refl; held = refl; commits = refl }

-- the sink

commit_one : (b : Bool) (entry : Committed) → commits_in (cond b ((record { since = 0; commit = entry.commit }) ∷ []) []) ≡ commits_in (cond b (entry ∷ []) [])
commit_one true entry = refl
commit_one false entry = refl

since_one : (b : Bool) (commit : Commit) → All (λ (entry : Committed). entry.since ≡ 0) (cond b ((record { since = 0; commit = commit }) ∷ []) [])
since_one true commit = All-cons (λ (entry : Committed). entry.since ≡ 0) (record { since = 0; commit = commit }) [] refl (All-nil (λ (entry : Committed). entry.since ≡ 0))
since_one false commit = All-nil (λ (entry : Committed). entry.since ≡ 0)

module _ (u : ℕ) (sink made new : List Committed) (i : ℕ) (entry : Committed) (is : new ≡ made ++ cond (nat_le entry.since u) ((record { since = 0; commit = entry.commit }) ∷ []) []) where
  pub commits_more : i < length sink → entry ≡ get_or sink i entry → commits_in made ≡ commits_at u (take i sink) → commits_in new ≡ commits_at u (take (i + 1) sink)
  commits_more lt at so_far =
      let test = λ (e : Committed). nat_le e.since u in
      let one = cond (nat_le entry.since u) (entry ∷ []) [] in
      let more : filter test (take (i + 1) sink) ≡ filter test (take i sink) ++ one =
      filter_more test sink i entry lt ∙ ap (λ (x : Committed). filter test (take i sink) ++ cond (nat_le x.since u) (x ∷ []) []) (sym at) in
      ap commits_in is ∙ map-append _ made _
      ∙ ap (λ (l : List Commit). l ++ commits_in (cond (nat_le entry.since u) ((record { since = 0; commit = entry.commit }) ∷ []) [])) so_far
      ∙ ap (λ (l : List Commit). commits_at u (take i sink) ++ l) (commit_one (nat_le entry.since u) entry)
      ∙ sym (ap commits_in more ∙ map-append _ (filter test (take i sink)) one)

  pub since_more : All (λ e. e.since ≡ 0) made → All (λ e. e.since ≡ 0) new
  since_more all =
      subst (λ (l : List Committed). All (λ e. e.since ≡ 0) l) (sym is)
      (All-append (λ (e : Committed). e.since ≡ 0) made _ all (since_one (nat_le entry.since u) entry.commit))

-- entries that stand since the beginning

from_first : {X : Type 0} (since : X → ℕ) (now : ℕ) (xs : List X) → All (λ x. since x ≡ 0) xs → All (λ x. since x ≤ now) xs
from_first since now xs all = λ k d lt. let here : since (slice_index_or xs k d) ≡ 0 = all k d lt in omega arith

-- the shelf

zero_first : (u : ℕ) → nat_le 0 u ≡ true
zero_first u = grind (arith, nat_tests)

ever_all : (u v : ℕ) (xs : List Shelved) → ever_at v (map (recalled u) xs) ≡ map stored xs
ever_all u v [] = refl
ever_all u v (x ∷ xs) =
    ap (λ (b : Bool). map stored (cond b (recalled u x ∷ filter (λ p. nat_le p.since v) (map (recalled u) xs)) (filter (λ p. nat_le p.since v) (map (recalled u) xs)))) (zero_first v)
    ∙ ap (λ (l : List StoredPart). stored x ∷ l) (ever_all u v xs)

lost_then : (u : ℕ) (lost : Option ℕ) → is_lost (recalled_loss u lost) ≡ is_lost_by u lost
lost_then u None = refl
lost_then u (Some t) = elim (nat_le t u) as (λ b. is_lost (cond b (Some 0) None) ≡ b) [ true ↦ refl | false ↦ refl ]

held_head : (u : ℕ) (p : Shelved) (xs ys : List Shelved) (a : Bool) → held_in (map (recalled u) xs) ≡ map (λ q. q.name) ys
    → held_in (map (recalled u) (cond a (p ∷ xs) xs)) ≡ map (λ q. q.name) (cond (a && not (is_lost_by u p.lost)) (p ∷ ys) ys)
held_head u p xs ys true rest =
    let others = filter (λ part. not (is_lost part.lost)) (map (recalled u) xs) in
    ap (λ (b : Bool). map (λ q. q.name) (cond (not b) (recalled u p ∷ others) others)) (lost_then u p.lost) ∙ step (not (is_lost_by u p.lost))
  where
    step : (b : Bool) → map (λ q. q.name) (cond b (recalled u p ∷ filter (λ part. not (is_lost part.lost)) (map (recalled u) xs)) (filter (λ part. not (is_lost part.lost)) (map (recalled u) xs))) ≡ map (λ q. q.name) (cond b (p ∷ ys) ys)
    step true = ap (λ (l : List PartName). p.name ∷ l) rest
    step false = rest
held_head u p xs ys false rest = rest

held_all : (u : ℕ) (parts : List Shelved) → held_in (map (recalled u) (filter (λ part. nat_le part.since u) parts)) ≡ held_at u parts
held_all u [] = refl
held_all u (p ∷ parts) = held_head u p (filter (λ part. nat_le part.since u) parts) (filter (λ part. nat_le part.since u && not (is_lost_by u part.lost)) parts) (nat_le p.since u) (held_all u parts)

loss_first : (u : ℕ) (lost : Option ℕ) (t : ℕ) → recalled_loss u lost ≡ Some t → t ≤ 0
loss_first u None t is = absurd (cc)
loss_first u (Some s) t is = elim (nat_le s u) as (λ b. cond b (Some 0) None ≡ Some t → t ≤ 0) [ true ↦ λ here. let zero_is : 0 ≡ t = cc in omega arith | false ↦ λ wrong. absurd (cc) ] is

module _ (u : ℕ) (parts made : List Shelved) (is : made ≡ map (recalled u) (filter (λ part. nat_le part.since u) parts)) where
  pub happened_recalled : HasHappened 0 made
  happened_recalled =
      subst (λ (l : List Shelved). HasHappened 0 l) (sym is)
      (All-map (λ (part : Shelved). (part.since ≤ 0) × ((t : ℕ) → part.lost ≡ Some t → t ≤ 0)) (recalled u) (filter (λ part. nat_le part.since u) parts)
      (λ k d lt. (omega arith, λ t lost. loss_first u (slice_index_or (filter (λ part. nat_le part.since u) parts) k d).lost t lost)))

  pub held_recalled : held_in made ≡ held_at u parts
  held_recalled = ap held_in is ∙ held_all u parts

pub held_few : (parts : List Shelved) → length (held_in parts) ≤ length parts
held_few [] = omega arith
held_few (p ∷ parts) = fewer (not (is_lost p.lost)) (filter (λ part. not (is_lost part.lost)) parts) (held_few parts)
  where
    fewer : (b : Bool) (xs : List Shelved) → length (map (λ q. q.name) xs) ≤ length parts → length (map (λ q. q.name) (cond b (p ∷ xs) xs)) ≤ length (p ∷ parts)
    fewer true xs le = omega arith
    fewer false xs le = omega arith

-- what a crash at a time leaves by its choice
pub recalled_whole : (history made : History) (u now choice : ℕ) → whole_log (disk_of made.log) ≡ chosen_log choice (disk_at u history.log) → All (λ c. c.since ≡ 0) made.log
    → made.shelf ≡ map (recalled u) (filter (λ part. nat_le part.since u) history.shelf) → commits_in made.sink ≡ commits_at u history.sink → All (λ e. e.since ≡ 0) made.sink
    → whole (past_at made now) ≡ chosen choice (past_at history u)
recalled_whole history made u now choice log first_log shelf commits first_sink =
    let happened = happened_until 0 now made.shelf (omega arith) (happened_recalled u history.shelf made.shelf shelf) in
    let log_is = log_now now made.log (from_first (λ (c : LogChange). c.since) now made.log first_log) ∙ log in
    let ever_is = ap (ever_at now) shelf ∙ ever_all u now (filter (λ part. nat_le part.since u) history.shelf) in
    let held_is = held_after now made.shelf happened ∙ held_recalled u history.shelf made.shelf shelf in
    let commits_is = commits_now now made.sink (from_first (λ (e : Committed). e.since) now made.sink first_sink) ∙ commits in
    λ i. record { log = log_is i; ever = ever_is i; held = held_is i; commits = commits_is i }

pub recalled_ended : (history made : History) (u now : ℕ) → All (λ c. c.since ≡ 0) made.log → made.shelf ≡ map (recalled u) (filter (λ part. nat_le part.since u) history.shelf) → All (λ e. e.since ≡ 0) made.sink → HasEnded made now
recalled_ended history made u now log shelf sink = record {
  log = from_first (λ (c : LogChange). c.since) now made.log log;
  shelf = happened_until 0 now made.shelf (omega arith) (happened_recalled u history.shelf made.shelf shelf);
  sink = from_first (λ (e : Committed). e.since) now made.sink sink;
}
