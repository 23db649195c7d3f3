-- What the calls on an estate in memory do.
use Rattle.std.proofs.Common.{◌≡◌, ◌≢◌, ◌⊎◌, inl, inr, ⊎_elim, ℕ, ◌+◌, ◌*◌, ◌<◌, ◌≤◌, All, Contains, IsTrue, nat_le, count_by, length, Bool, true, false, ◌↔◌, min, List, [], ◌∷◌, ◌++◌, map, Option, None, Result, Ok, Err, OnOk, OnErr, refl, sym, ◌∙◌, ap, subst, arith}
use Rattle.std.proofs.lemmas.Bool.{cases_lt}
use Rattle.std.proofs.lemmas.List.Sums.{length-filter}
use Rattle.std.proofs.lemmas.List.Elements.{All-push}
use Rattle.estate.specs.declared.write.Write.{Write}
use Rattle.estate.specs.declared.log_event.LogEvent.TheVariants.{Synced}
use Rattle.estate.specs.declared.part_name.PartName.{PartName}
use Rattle.estate.specs.declared.commit.Commit.{Commit}
use Rattle.estate.specs.declared.committed.Committed.{Committed}
use Rattle.estate.specs.declared.log_change.LogChange.{LogChange}
use Rattle.estate.specs.declared.shelved.Shelved.{Shelved}
use Rattle.estate.specs.Holding.{StoredPart, Holding, Counts}
use Rattle.estate.specs.World.{World, IsWorld}
use Rattle.estate.specs.Changes.{Rose, Same, Step, Stays, Counted, Leads}
use Rattle.estate.specs.Disk.{Disk, IsTornBy, whole_log, disk_of, disk_at}
use Rattle.estate.specs.Shelf.{stored, ever_at, held_in, HasHappened, LosesFrom}
use Rattle.estate.specs.Pasts.{Past, IsLeftOf, past_world, History, past_at, commits_in, commits_at, HasEnded, Enters}
use Rattle.estate.proofs.Keeping.{LogStep, ShelfStep, SinkStep, steps_lead}
use Rattle.estate.proofs.Stepping.{filter_all, all_until, log_same, log_syncs, sink_same, shelf_stays, held_after, ever_still, happened_until, filter_before, filter_still}
use Rattle.estate.proofs.Laws.{rose_earlier}

-- the present

pub disk_now : (now : ℕ) (changes : List LogChange) → All (λ c. c.since ≤ now) changes → disk_at now changes ≡ disk_of changes
disk_now now changes all = ap disk_of (filter_all (λ (c : LogChange). c.since) now changes all)

pub log_now : (now : ℕ) (changes : List LogChange) → All (λ c. c.since ≤ now) changes → whole_log (disk_at now changes) ≡ whole_log (disk_of changes)
log_now now changes all = ap whole_log (disk_now now changes all)

pub ever_now : (now : ℕ) (parts : List Shelved) → HasHappened now parts → ever_at now parts ≡ map stored parts
ever_now now parts happened = ap (λ (l : List Shelved). map stored l) (filter_all (λ (s : Shelved). s.since) now parts (λ k d lt. (happened k d lt).0))

pub commits_now : (now : ℕ) (sink : List Committed) → All (λ e. e.since ≤ now) sink → commits_at now sink ≡ commits_in sink
commits_now now sink all = ap commits_in (filter_all (λ (e : Committed). e.since) now sink all)

-- where nothing was written since a sync, each image has the log
pub durable_now : (history : History) (now : ℕ) → All (λ c. c.since ≤ now) history.log → (disk_of history.log).writes ≡ [] → (image : Holding) (u : ℕ) → now ≤ u → u ≤ now → IsLeftOf (past_at history u) image
    → image.log ≡ whole_log (disk_at now history.log)
durable_now history now all none image u le ge left =
    let at : u ≡ now = omega arith in
    let here = subst (λ (v : ℕ). IsLeftOf (past_at history v) image) at left in
    settled (disk_at now history.log) image.log (ap (λ (d : Disk). d.writes) (disk_now now history.log all) ∙ none) here.log
  where
    settled_by : (writes : List Write) (durable log : List ℕ) → writes ≡ [] → IsTornBy writes durable log → log ≡ whole_log (record { durable = durable; writes = writes })
    settled_by [] durable log none torn = torn
    settled_by (w ∷ writes) durable log none torn = absurd (cc)

    settled : (disk : Disk) (log : List ℕ) → disk.writes ≡ [] → IsTornBy disk.writes disk.durable log → log ≡ whole_log disk
    settled disk log none torn = settled_by disk.writes disk.durable log none torn

-- the time within a call

pub time_within : (calls : ℕ) (old new : List ℕ) → new ≡ old → All (λ d. d ≤ 2 * calls) old → 2 * calls + 1 + count_by (λ d. nat_le d (2 * calls + 1)) new ≡ 2 * calls + length old + 1
time_within calls old new is all =
    let all_by : All (λ d. d ≤ 2 * calls + 1) old = all_until (λ (d : ℕ). d) (2 * calls) (2 * calls + 1) old (omega arith) all in
    let counted : count_by (λ d. nat_le d (2 * calls + 1)) old ≡ length old =
    sym (length-filter (λ d. nat_le d (2 * calls + 1)) old) ∙ ap (λ (l : List ℕ). length l) (filter_all (λ (d : ℕ). d) (2 * calls + 1) old all_by) in
    let same = ap (λ (l : List ℕ). count_by (λ d. nat_le d (2 * calls + 1)) l) is in
    omega (arith, counted, same)

-- what a call adds only at its exit is not there within it

pub log_within : (now u since : ℕ) (changes mid new : List LogChange) → (new ≡ mid) ⊎ (new ≡ mid ++ (record { since = since; event = Synced }) ∷ []) → mid ≡ changes → All (λ c. c.since ≤ now) changes → now ≤ u → u < since
    → disk_at u new ≡ disk_at now changes
log_within now u since changes mid new (inl same) is all le lt =
    ap (disk_at u) (same ∙ is) ∙ ap disk_of (filter_still (λ (c : LogChange). c.since) now u changes le all)
log_within now u since changes mid new (inr more) is all le lt =
    ap (disk_at u) (more ∙ ap (λ (l : List LogChange). l ++ (record { since = since; event = Synced }) ∷ []) is)
    ∙ ap disk_of (filter_before (λ (c : LogChange). c.since) u changes (record { since = since; event = Synced }) lt ∙ filter_still (λ (c : LogChange). c.since) now u changes le all)

pub sink_within : (now u since : ℕ) (sink new : List Committed) (commit : Commit) → new ≡ sink ++ (record { since = since; commit = commit }) ∷ [] → All (λ e. e.since ≤ now) sink → now ≤ u → u < since → commits_at u new ≡ commits_at now sink
sink_within now u since sink new commit is all le lt =
    ap (commits_at u) is
    ∙ ap commits_in (filter_before (λ (e : Committed). e.since) u sink (record { since = since; commit = commit }) lt ∙ filter_still (λ (e : Committed). e.since) now u sink le all)

pub ever_within : (now u since : ℕ) (old mid new : List Shelved) (name : PartName) (edges : List (List (List ℕ))) → new ≡ mid ++ (record { since = since; name = name; edges = edges; lost = None }) ∷ [] → HasHappened now old
    → LosesFrom (now + 1) old mid → now ≤ u → u < since → ever_at u new ≡ ever_at now old
ever_within now u since old mid new name edges is happened loses le lt =
    ap (ever_at u) is
    ∙ ap (λ (l : List Shelved). map stored l) (filter_before (λ (p : Shelved). p.since) u mid (record { since = since; name = name; edges = edges; lost = None }) lt)
    ∙ loses.ever u ∙ ever_still now u old le happened

-- one entry more, or none
pub push_ended : (now : ℕ) (changes new : List LogChange) (change : LogChange) → new ≡ changes ++ change ∷ [] → change.since ≤ now → All (λ c. c.since ≤ now) changes → All (λ c. c.since ≤ now) new
push_ended now changes new change is le all = subst (λ (l : List LogChange). All (λ c. c.since ≤ now) l) (sym is) (All-push (λ (c : LogChange). c.since ≤ now) changes change all le)

pub sync_ended : (now since : ℕ) (changes new : List LogChange) → (new ≡ changes) ⊎ (new ≡ changes ++ (record { since = since; event = Synced }) ∷ []) → since ≤ now → All (λ c. c.since ≤ now) changes → All (λ c. c.since ≤ now) new
sync_ended now since changes new (inl same) le all = subst (λ (l : List LogChange). All (λ c. c.since ≤ now) l) (sym same) all
sync_ended now since changes new (inr is) le all = push_ended now changes new (record { since = since; event = Synced }) is le all

pub log_may_sync : (now since : ℕ) (changes mid new : List LogChange) → (new ≡ mid) ⊎ (new ≡ mid ++ (record { since = since; event = Synced }) ∷ []) → mid ≡ changes → All (λ c. c.since ≤ now) changes → now < since → LogStep Same now changes new
log_may_sync now since changes mid new (inl same) is all lt = log_same now changes new (same ∙ is) (λ log. refl) all
log_may_sync now since changes mid new (inr more) is all lt =
    log_syncs now since changes new all lt (more ∙ ap (λ (l : List LogChange). l ++ (record { since = since; event = Synced }) ∷ []) is)

-- what is there when a call has begun
pub log_kept : (old new : History) (now : ℕ) → HasEnded old now → new.log ≡ old.log → whole_log (disk_of new.log) ≡ whole_log (disk_at now old.log)
log_kept old new now ended same = ap (λ (l : List LogChange). whole_log (disk_of l)) same ∙ sym (log_now now old.log ended.log)

pub commits_kept : (old new : History) (now : ℕ) → HasEnded old now → new.sink ≡ old.sink → commits_in new.sink ≡ commits_at now old.sink
commits_kept old new now ended same = ap commits_in same ∙ sym (commits_now now old.sink ended.sink)

pub ever_kept : (old new : History) (now later : ℕ) → HasEnded old now → HasEnded new later → now + 1 ≤ later → LosesFrom (now + 1) old.shelf new.shelf → map stored new.shelf ≡ ever_at now old.shelf
ever_kept old new now later ended ended' le loses =
    sym (ever_now later new.shelf ended'.shelf) ∙ loses.ever later ∙ ever_still now later old.shelf (omega arith) ended.shelf

pub ended_later : (old new : History) (now later : ℕ) (counts counts' : Counts) → HasEnded old now → Enters old new now counts counts' → now + 1 ≤ later → HasEnded new later
ended_later old new now later counts counts' ended enters le = record {
  log = subst (λ (l : List LogChange). All (λ c. c.since ≤ later) l) (sym enters.log) (all_until (λ (c : LogChange). c.since) now later old.log (omega arith) ended.log);
  shelf = enters.shelf.happened later le (happened_until now later old.shelf (omega arith) ended.shelf);
  sink = subst (λ (l : List Committed). All (λ e. e.since ≤ later) l) (sym enters.sink) (all_until (λ (e : Committed). e.since) now later old.sink (omega arith) ended.sink);
}

-- a count that saturates has risen
pub rose_by : (before now : ℕ) → now ≡ min (before + 1) 18446744073709551615 → Rose before now
rose_by before now is = ⊎_elim (λ (low : before < 18446744073709551615). inl (omega arith)) (λ (top : 18446744073709551615 ≤ before). inr (omega arith)) (cases_lt before 18446744073709551615)

-- below a number that was not reached
pub below_by : (b : Bool) (n m : ℕ) → (IsTrue b ↔ (n ≡ m)) → b ≡ false → n ≤ m → n < m
below_by b n m iff unset le =
    ⊎_elim (λ (lt : n < m). lt) (λ (ge : m ≤ n). let is : n ≡ m = omega arith in let set : b ≡ true = iff.1 is in absurd (cc)) (cases_lt n m)

-- parts may be lost at the start of a call
pub enters_by : (log : List LogChange) (old new : List Shelved) (sink : List Committed) (now within log_faults shelf_faults sink_faults losses losses' : ℕ) → within ≡ now → LosesFrom (within + 1) old new → losses ≤ losses'
    → ((name : PartName) → Contains (held_in old) name → Contains (held_in new) name ⊎ Rose losses losses')
    → Enters (record { log = log; shelf = old; sink = sink }) (record { log = log; shelf = new; sink = sink }) now
    (record { log_faults = log_faults; shelf_faults = shelf_faults; sink_faults = sink_faults; losses = losses }) (record { log_faults = log_faults; shelf_faults = shelf_faults; sink_faults = sink_faults; losses = losses' })
enters_by log old new sink now within log_faults shelf_faults sink_faults losses losses' is loses le lost = record {
  log = refl;
  shelf = subst (λ (t : ℕ). LosesFrom (t + 1) old new) is loses;
  sink = refl;
  counts = record { log_faults = omega arith; shelf_faults = omega arith; sink_faults = omega arith; losses = le };
  lost = lost;
}

-- a call that begins, and then goes by these steps
pub call_leads : {writes : List ℕ → List ℕ → Type 0} {part : Option StoredPart} {commit : Option Commit} (old mid new : History) (now later : ℕ) (counts counts' : Counts)
    → HasEnded old now → HasHappened later new.shelf → now ≤ later → Enters old mid now counts counts'
    → LogStep writes now old.log new.log → ShelfStep part now old.shelf new.shelf → SinkStep commit now old.sink new.sink
    → ((name : PartName) → Contains (held_in mid.shelf) name → Contains (held_in new.shelf) name)
    → Leads (Step writes part commit) (past_world (past_at old) now counts) (past_world (past_at new) later counts')
call_leads old mid new now later counts counts' ended happened le enters log shelf sink held =
    steps_lead old new now later counts counts' le log shelf sink enters.counts
    (λ name has.
    ⊎_elim
    (λ still. inl (subst (λ (l : List PartName). Contains l name) (sym (held_after later new.shelf happened)) (held name still)))
    (λ rose. inr rose)
    (enters.lost name (subst (λ (l : List PartName). Contains l name) (held_after now old.shelf ended.shelf) has)))

-- a call that begins, and changes nothing more
pub enter_leads : (old new : History) (now later : ℕ) (counts counts' : Counts) → HasEnded old now → HasEnded new later → now ≤ later → Enters old new now counts counts'
    → Leads Stays (past_world (past_at old) now counts) (past_world (past_at new) later counts')
enter_leads old new now later counts counts' ended ended' le enters =
    call_leads {writes = Same} {part = None} {commit = None} old new new now later counts counts' ended ended'.shelf le enters
    (log_same now old.log new.log enters.log (λ log. refl) ended.log)
    (shelf_stays now old.shelf new.shelf ended.shelf enters.shelf)
    (sink_same now old.sink new.sink enters.sink ended.sink)
    (λ name has. has)

-- a name that no part that was put has is not held
pub not_held : (old new : World) (name : PartName) → IsWorld new → Leads Stays old new → IsTrue old.told → IsTrue new.told → ((part : StoredPart) → Contains old.holding.ever part → part.name ≢ name) → ¬ (Contains new.holding.held name)
not_held old new name lawful leads told told' fresh has =
    let put = lawful.was_put told' name has in
    let stays = leads.holding told in
    fresh put.0 (subst (λ (l : List StoredPart). Contains l put.0) stays.ever put.1) put.2

-- one fault more is counted
pub leads_faults : {R : Holding → Holding → Type 0} (a : World) (past : ℕ → Past) (now : ℕ) (counts counts' : Counts) → Counted counts counts' → Leads R a (past_world past now counts) → Leads R a (past_world past now counts')
leads_faults a past now counts counts' more first = record {
  time = record {
    told = first.time.told;
    later = first.time.later;
    nothing_else = first.time.nothing_else;
    keeps = first.time.keeps;
    counts = record {
      log_faults = omega (arith, first.time.counts.log_faults, more.log_faults);
      shelf_faults = omega (arith, first.time.counts.shelf_faults, more.shelf_faults);
      sink_faults = omega (arith, first.time.counts.sink_faults, more.sink_faults);
      losses = omega (arith, first.time.counts.losses, more.losses);
    };
    losses = λ told name had. ⊎_elim (λ still. inl still) (λ rose. inr (rose_earlier a.counts.losses counts.losses counts'.losses rose more.losses)) (first.time.losses told name had);
  };
  holding = first.holding;
  images = first.images;
}

-- the same lists and the same time
pub leads_same : {R : Holding → Holding → Type 0} (a : World) (history new : History) (now now' : ℕ) (counts : Counts) → new.log ≡ history.log → new.shelf ≡ history.shelf → new.sink ≡ history.sink → now' ≡ now
    → Leads R a (past_world (past_at history) now counts) → Leads R a (past_world (past_at new) now' counts)
leads_same {R} a history new now now' counts log shelf sink time first =
    let is : new ≡ history = λ i. record { log = log i; shelf = shelf i; sink = sink i } in
    subst (λ (h : History). Leads R a (past_world (past_at h) now' counts)) (sym is)
    (subst (λ (t : ℕ). Leads R a (past_world (past_at history) t counts)) (sym time) first)

-- what holds of either answer
pub either : {T E : Type 0} {P Q : Type 0} (result : Result T E) → OnOk result P → OnErr result Q → P ⊎ Q
either (Ok x) ok err = inl ok
either (Err e) ok err = inr err
