-- The steps of the log, the shelf and the sink of an estate in memory.
use Rattle.std.proofs.Common.{◌≡◌, inl, inr, ℕ, zero, suc, ◌+◌, ◌<◌, ◌≤◌, Bool, true, false, cond, not, ◌&&◌, nat_le, All, Contains, List, [], ◌∷◌, ◌++◌, length, take, get_or, map, Option, Some, None, refl, sym, ◌∙◌, ap, subst, arith}
use Rattle.std.specs.List.{filter, slice_index_or}
use Rattle.std.proofs.lemmas.List.{append-nil, map-append}
use Rattle.std.proofs.lemmas.List.Elements.{filter-append, filter_more as filter_one_more}
use Rattle.std.proofs.lemmas.Bool.Decides.{nat_tests}
use Rattle.estate.specs.declared.part_name.PartName.{PartName}
use Rattle.estate.specs.declared.commit.Commit.{Commit}
use Rattle.estate.specs.declared.committed.Committed.{Committed}
use Rattle.estate.specs.declared.write.Write.{Write}
use Rattle.estate.specs.declared.log_event.LogEvent.TheVariants.{Wrote, Synced}
use Rattle.estate.specs.declared.log_change.LogChange.{LogChange}
use Rattle.estate.specs.declared.shelved.Shelved.{Shelved}
use Rattle.estate.specs.Holding.{StoredPart}
use Rattle.estate.specs.Changes.{Torn, Same, MayGain}
use Rattle.estate.specs.Disk.{overwritten, applied, IsTornBy, Disk, whole_log, after_event, after_changes, disk_of, disk_at, halved, last_halved}
use Rattle.estate.specs.Shelf.{is_lost_by, is_lost, stored, ever_at, held_at, held_in, HasHappened, LosesFrom}
use Rattle.estate.specs.Pasts.{commits_in, commits_at}
use Rattle.estate.specs.PastLaws.{torn_some, torn_applied}
use Rattle.estate.proofs.Torn.{torn_refl}
use Rattle.estate.proofs.Laws.{may_stay, held_stays}
use Rattle.estate.proofs.Keeping.{LogGoes, LogStep, ShelfStep, SinkStep}

-- dated entries

module _ {X : Type 0} (since : X → ℕ) where
  -- all of them stand by then
  pub filter_all : (u : ℕ) (xs : List X) → All (λ x. since x ≤ u) xs → filter (λ x. nat_le (since x) u) xs ≡ xs
  filter_all u [] all = refl
  filter_all u (x ∷ xs) all =
      let here : since x ≤ u = all zero x (omega arith) in
      let rest = filter_all u xs (λ k d lt. all (suc k) d (omega arith)) in
      grind (arith, nat_tests, rest)

  pub all_until : (u v : ℕ) (xs : List X) → u ≤ v → All (λ x. since x ≤ u) xs → All (λ x. since x ≤ v) xs
  all_until u v xs le all = λ k d lt. let here : since (slice_index_or xs k d) ≤ u = all k d lt in omega arith

  pub filter_still : (now u : ℕ) (xs : List X) → now ≤ u → All (λ x. since x ≤ now) xs → filter (λ x. nat_le (since x) u) xs ≡ filter (λ x. nat_le (since x) now) xs
  filter_still now u xs le all = filter_all u xs (all_until now u xs le all) ∙ sym (filter_all now xs all)

  -- one that stands later
  pub filter_before : (u : ℕ) (xs : List X) (x : X) → u < since x → filter (λ y. nat_le (since y) u) (xs ++ x ∷ []) ≡ filter (λ y. nat_le (since y) u) xs
  filter_before u xs x below =
      let last : filter (λ y. nat_le (since y) u) (x ∷ []) ≡ [] = grind (arith, nat_tests) in
      filter-append _ xs _ ∙ ap (λ (l : List X). filter (λ y. nat_le (since y) u) xs ++ l) last ∙ append-nil _

  -- one more, which stands or not
  filter_more : (now u : ℕ) (xs : List X) (x : X) → now ≤ u → All (λ y. since y ≤ now) xs
      → filter (λ y. nat_le (since y) u) (xs ++ x ∷ []) ≡ filter (λ y. nat_le (since y) now) xs ++ cond (nat_le (since x) u) (x ∷ []) []
  filter_more now u xs x le all = filter-append _ xs _ ∙ ap (λ (l : List X). l ++ cond (nat_le (since x) u) (x ∷ []) []) (filter_still now u xs le all)

-- the log

changes_on : (disk : Disk) (changes more : List LogChange) → after_changes disk (changes ++ more) ≡ after_changes (after_changes disk changes) more
changes_on disk [] more = refl
changes_on disk (change ∷ changes) more = changes_on (after_event disk change.event) changes more

pub applied_push : (writes : List Write) (write : Write) (log : List ℕ) → applied (writes ++ write ∷ []) log ≡ overwritten (applied writes log) write.at write.bytes
applied_push [] write log = refl
applied_push (w ∷ writes) write log = applied_push writes write (overwritten log w.at w.bytes)

torn_push : (writes : List Write) (write : Write) (durable log : List ℕ) → IsTornBy (writes ++ write ∷ []) durable log
    → (between : List ℕ) × IsTornBy writes durable between × Torn write.at (length write.bytes) between log
torn_push [] write durable log (between, torn, is) = (durable, refl, subst (λ (l : List ℕ). Torn write.at (length write.bytes) durable l) (sym is) torn)
torn_push (w ∷ writes) write durable log (between, torn, rest) =
    let more = torn_push writes write between log rest in
    (more.0, (between, torn, more.1), more.2)

log_goes_refl : (writes : List ℕ → List ℕ → Type 0) → ((log : List ℕ) → writes log log) → (disk : Disk) → LogGoes writes disk disk
log_goes_refl writes same disk = record { reads = same (whole_log disk); torn = λ log torn. (log, torn, same log) }

log_goes_write : (write : Write) (disk : Disk) → LogGoes (Torn write.at (length write.bytes)) disk (after_event disk (Wrote write))
log_goes_write write disk = record {
  reads =
      subst (λ (l : List ℕ). Torn write.at (length write.bytes) (whole_log disk) l) (sym (applied_push disk.writes write disk.durable))
      (torn_some write.at (length write.bytes) (whole_log disk) write.bytes (omega arith));
  torn = λ log torn. torn_push disk.writes write disk.durable log torn;
}

log_goes_sync : (disk : Disk) → LogGoes Same disk (after_event disk Synced)
log_goes_sync disk = record {
  reads = refl;
  torn = λ log is. (log, subst (λ (l : List ℕ). IsTornBy disk.writes disk.durable l) (sym is) (torn_applied disk.writes disk.durable), refl);
}

-- a call that leaves the log
pub log_stays : {writes : List ℕ → List ℕ → Type 0} (now : ℕ) (changes : List LogChange) → ((log : List ℕ) → writes log log) → All (λ change. change.since ≤ now) changes → LogStep writes now changes changes
log_stays {writes} now changes same all = record {
  before = λ u within. refl;
  after = λ u le.
      subst (λ (l : List LogChange). LogGoes writes (disk_at now changes) (disk_of l)) (sym (filter_still (λ (c : LogChange). c.since) now u changes le all))
      (log_goes_refl writes same (disk_at now changes));
}

one_event : (writes : List ℕ → List ℕ → Type 0) (changes : List LogChange) (change : LogChange) (b : Bool) → ((log : List ℕ) → writes log log)
    → LogGoes writes (disk_of changes) (after_event (disk_of changes) change.event) → LogGoes writes (disk_of changes) (disk_of (changes ++ cond b (change ∷ []) []))
one_event writes changes change true same goes = subst (λ (d : Disk). LogGoes writes (disk_of changes) d) (sym (changes_on _ changes (change ∷ []))) goes
one_event writes changes change false same goes = subst (λ (l : List LogChange). LogGoes writes (disk_of changes) (disk_of l)) (sym (append-nil changes)) (log_goes_refl writes same (disk_of changes))

log_changes : (writes : List ℕ → List ℕ → Type 0) (now : ℕ) (changes : List LogChange) (change : LogChange) → ((log : List ℕ) → writes log log) → All (λ c. c.since ≤ now) changes → now < change.since
    → ((disk : Disk) → LogGoes writes disk (after_event disk change.event)) → LogStep writes now changes (changes ++ change ∷ [])
log_changes writes now changes change same all later goes = record {
  before = λ u within. ap disk_of (filter_before (λ (c : LogChange). c.since) u changes change (omega arith));
  after = λ u le.
      subst (λ (l : List LogChange). LogGoes writes (disk_at now changes) (disk_of l)) (sym (filter_more (λ (c : LogChange). c.since) now u changes change le all))
      (one_event writes (filter (λ c. nat_le c.since now) changes) change (nat_le change.since u) same (goes (disk_at now changes)));
}

-- a call that leaves the log, as its list is afterwards
pub log_same : {writes : List ℕ → List ℕ → Type 0} (now : ℕ) (changes new : List LogChange) → new ≡ changes → ((log : List ℕ) → writes log log) → All (λ change. change.since ≤ now) changes → LogStep writes now changes new
log_same {writes} now changes new is same all = subst (λ (l : List LogChange). LogStep writes now changes l) (sym is) (log_stays now changes same all)

pub log_writes : (now since : ℕ) (changes new : List LogChange) (write : Write) → All (λ c. c.since ≤ now) changes → now < since → new ≡ changes ++ (record { since = since; event = Wrote write }) ∷ []
    → LogStep (Torn write.at (length write.bytes)) now changes new
log_writes now since changes new write all later is =
    subst (λ (l : List LogChange). LogStep (Torn write.at (length write.bytes)) now changes l) (sym is)
    (log_changes (Torn write.at (length write.bytes)) now changes (record { since = since; event = Wrote write }) (torn_refl write.at (length write.bytes)) all later (log_goes_write write))

pub log_syncs : (now since : ℕ) (changes new : List LogChange) → All (λ c. c.since ≤ now) changes → now < since → new ≡ changes ++ (record { since = since; event = Synced }) ∷ [] → LogStep Same now changes new
log_syncs now since changes new all later is =
    subst (λ (l : List LogChange). LogStep Same now changes l) (sym is)
    (log_changes Same now changes (record { since = since; event = Synced }) (λ log. refl) all later log_goes_sync)

-- one more event, as the log sees it
disk_push : (changes : List LogChange) (change : LogChange) → disk_of (changes ++ change ∷ []) ≡ after_event (disk_of changes) change.event
disk_push changes change = changes_on _ changes (change ∷ [])

pub whole_write : (changes new : List LogChange) (since : ℕ) (write : Write) → new ≡ changes ++ (record { since = since; event = Wrote write }) ∷ []
    → whole_log (disk_of new) ≡ overwritten (whole_log (disk_of changes)) write.at write.bytes
whole_write changes new since write is =
    ap (λ (l : List LogChange). whole_log (disk_of l)) is
    ∙ ap whole_log (disk_push changes (record { since = since; event = Wrote write }))
    ∙ applied_push (disk_of changes).writes write (disk_of changes).durable

pub whole_sync : (changes new : List LogChange) (since : ℕ) → new ≡ changes ++ (record { since = since; event = Synced }) ∷ [] → whole_log (disk_of new) ≡ whole_log (disk_of changes)
whole_sync changes new since is =
    ap (λ (l : List LogChange). whole_log (disk_of l)) is ∙ ap whole_log (disk_push changes (record { since = since; event = Synced }))

pub writes_sync : (changes new : List LogChange) (since : ℕ) → new ≡ changes ++ (record { since = since; event = Synced }) ∷ [] → (disk_of new).writes ≡ []
writes_sync changes new since is =
    ap (λ (l : List LogChange). (disk_of l).writes) is ∙ ap (λ (d : Disk). d.writes) (disk_push changes (record { since = since; event = Synced }))

-- one change more of a list, as a disk at a moment sees it
pub disk_more : (u : ℕ) (changes : List LogChange) (i : ℕ) (d : LogChange) → i < length changes
    → disk_at u (take (i + 1) changes) ≡ after_changes (disk_at u (take i changes)) (cond (nat_le (get_or changes i d).since u) (get_or changes i d ∷ []) [])
disk_more u changes i d lt = ap disk_of (filter_one_more (λ c. nat_le c.since u) changes i d lt) ∙ changes_on (record { durable = []; writes = [] }) (filter (λ c. nat_le c.since u) (take i changes)) (cond (nat_le (get_or changes i d).since u) (get_or changes i d ∷ []) [])

pub halved_push : (writes : List Write) (write : Write) → last_halved (writes ++ write ∷ []) ≡ writes ++ halved write ∷ []
halved_push [] write = refl
halved_push (w ∷ []) write = refl
halved_push (w ∷ v ∷ writes) write = ap (λ (l : List Write). w ∷ l) (halved_push (v ∷ writes) write)

-- the sink

pub sink_stays : {commit : Option Commit} (now : ℕ) (sink : List Committed) → All (λ entry. entry.since ≤ now) sink → SinkStep commit now sink sink
sink_stays {commit} now sink all = record {
  before = λ u within. refl;
  after = λ u le. may_stay commit (commits_at now sink) (commits_at u sink) (ap commits_in (filter_still (λ (e : Committed). e.since) now u sink le all));
}

pub sink_same : {commit : Option Commit} (now : ℕ) (sink new : List Committed) → new ≡ sink → All (λ entry. entry.since ≤ now) sink → SinkStep commit now sink new
sink_same {commit} now sink new is all = subst (λ (l : List Committed). SinkStep commit now sink l) (sym is) (sink_stays now sink all)

may_gain : (commit : Commit) (since : ℕ) (sink : List Committed) (b : Bool)
    → MayGain (Some commit) (commits_in sink) (commits_in (sink ++ cond b ((record { since = since; commit = commit }) ∷ []) []))
may_gain commit since sink true = inr (map-append _ sink _)
may_gain commit since sink false = inl (ap commits_in (append-nil sink))

pub sink_gains : (now since : ℕ) (sink new : List Committed) (commit : Commit) → All (λ entry. entry.since ≤ now) sink → now < since → new ≡ sink ++ (record { since = since; commit = commit }) ∷ [] → SinkStep (Some commit) now sink new
sink_gains now since sink new commit all later is =
    let entry : Committed = record { since = since; commit = commit } in
    subst (λ (l : List Committed). SinkStep (Some commit) now sink l) (sym is)
    (record {
      before = λ u within. ap commits_in (filter_before (λ (e : Committed). e.since) u sink entry (omega arith));
      after = λ u le.
          subst (λ (l : List Committed). MayGain (Some commit) (commits_at now sink) (commits_in l)) (sym (filter_more (λ (e : Committed). e.since) now u sink entry le all))
          (may_gain commit since (filter (λ e. nat_le e.since now) sink) (nat_le since u));
    })

-- the shelf

-- what was put by a moment, once all of it was
pub ever_still : (now u : ℕ) (parts : List Shelved) → now ≤ u → HasHappened now parts → ever_at u parts ≡ ever_at now parts
ever_still now u parts le happened =
    ap (λ (l : List Shelved). map stored l) (filter_still (λ (p : Shelved). p.since) now u parts le (λ k d lt. (happened k d lt).0))

pub test_still : (u since : ℕ) (lost : Option ℕ) → since ≤ u → ((t : ℕ) → lost ≡ Some t → t ≤ u) → (nat_le since u && not (is_lost_by u lost)) ≡ not (is_lost lost)
test_still u since None le when = grind (arith, nat_tests)
test_still u since (Some t) le when = let by : t ≤ u = when t refl in grind (arith, nat_tests)

-- what is held once all has happened
pub held_after : (u : ℕ) (parts : List Shelved) → HasHappened u parts → held_at u parts ≡ held_in parts
held_after u [] happened = refl
held_after u (p ∷ parts) happened =
    let here = happened zero p (omega arith) in
    let rest = held_after u parts (λ k d lt. happened (suc k) d (omega arith)) in
    cond_map (nat_le p.since u && not (is_lost_by u p.lost)) (not (is_lost p.lost)) p _ _ (test_still u p.since p.lost here.0 here.1) rest
  where
    cond_map : (a b : Bool) (p : Shelved) (xs ys : List Shelved) → a ≡ b → map (λ q. q.name) xs ≡ map (λ q. q.name) ys → map (λ q. q.name) (cond a (p ∷ xs) xs) ≡ map (λ q. q.name) (cond b (p ∷ ys) ys)
    cond_map true true p xs ys is rest = ap (λ (l : List PartName). p.name ∷ l) rest
    cond_map false false p xs ys is rest = rest
    cond_map true false p xs ys is rest = absurd (cc)
    cond_map false true p xs ys is rest = absurd (cc)

pub happened_until : (now u : ℕ) (parts : List Shelved) → now ≤ u → HasHappened now parts → HasHappened u parts
happened_until now u parts le happened = λ k d lt. let was = happened k d lt in (omega (arith, was.0), λ t is. let by : t ≤ now = was.1 t is in omega arith)

pub held_still : (now u : ℕ) (parts : List Shelved) → now ≤ u → HasHappened now parts → held_at u parts ≡ held_at now parts
held_still now u parts le happened = held_after u parts (happened_until now u parts le happened) ∙ sym (held_after now parts happened)

-- parts may be lost, and nothing else
pub shelf_stays : (now : ℕ) (old new : List Shelved) → HasHappened now old → LosesFrom (now + 1) old new → ShelfStep None now old new
shelf_stays now old new happened loses = record {
  before = λ u within. loses.ever u;
  before_held = λ u within. loses.earlier u (omega arith);
  ever = λ u le. loses.ever u ∙ ever_still now u old le happened;
  held = λ u log log' commits commits' name le has. subst (λ (l : List PartName). Contains l name) (held_still now u old le happened) (loses.fewer u name has);
}

-- a call that may put a part does not, but parts may be lost
pub shelf_may : (part : Option StoredPart) (now : ℕ) (old new : List Shelved) → ShelfStep None now old new → ShelfStep part now old new
shelf_may part now old new stays = record {
  before = stays.before;
  before_held = stays.before_held;
  ever = λ u le. may_stay part (ever_at now old) (ever_at u new) (stays.ever u le);
  held = λ u log log' commits commits' name le has. held_stays part (record { log = log; ever = ever_at now old; held = held_at now old; commits = commits }) (record { log = log'; ever = ever_at u new; held = held_at u new; commits = commits' }) name (stays.held u log log' commits commits' name le has);
}
