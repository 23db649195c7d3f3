-- What calls on an estate in memory do to what it may leave.
use Rattle.std.proofs.Common.{◌≡◌, ◌⊎◌, inl, inr, ⊎_elim, ℕ, ◌<◌, ◌≤◌, Contains, List, [], ◌∷◌, ◌++◌, Option, Some, None, refl, sym, ◌∙◌, ap, subst, arith}
use Rattle.std.proofs.lemmas.Bool.{cases_lt}
use Rattle.estate.specs.declared.part_name.PartName.{PartName}
use Rattle.estate.specs.declared.commit.Commit.{Commit}
use Rattle.estate.specs.declared.committed.Committed.{Committed}
use Rattle.estate.specs.declared.log_change.LogChange.{LogChange}
use Rattle.estate.specs.declared.shelved.Shelved.{Shelved}
use Rattle.estate.specs.Holding.{StoredPart, Holding, Counts}
use Rattle.estate.specs.Changes.{Rose, MayGain, WasHeld, Step, Counted, Leads}
use Rattle.estate.specs.Disk.{Disk, IsTornBy, whole_log, disk_at}
use Rattle.estate.specs.Shelf.{ever_at, held_at}
use Rattle.estate.specs.Pasts.{Past, whole, IsLeftOf, past_world, History, past_at, commits_at}

-- a moment that is past, or not
pub cases_le : (u now : ℕ) → (u ≤ now) ⊎ (now < u)
cases_le u now = ⊎_elim (λ later. inr later) (λ past. inl past) (cases_lt now u)

-- each count as it was
pub counted_refl : (counts : Counts) → Counted counts counts
counted_refl counts = record { log_faults = omega arith; shelf_faults = omega arith; sink_faults = omega arith; losses = omega arith }

-- what a read gives, and what a crash may leave, come by a relation
pub record LogGoes (writes : List ℕ → List ℕ → Type 0) (old new : Disk) : Type 0 where
  pub reads : writes (whole_log old) (whole_log new)
  pub torn : (log : List ℕ) → IsTornBy new.writes new.durable log → (before : List ℕ) × IsTornBy old.writes old.durable before × writes before log

-- what stood at a moment comes by a step from what stood at another
pub record Goes (writes : List ℕ → List ℕ → Type 0) (part : Option StoredPart) (commit : Option Commit) (old new : Past) : Type 0 where
  pub log : LogGoes writes old.disk new.disk
  pub ever : MayGain part old.ever new.ever
  pub held : (name : PartName) → Contains new.held name → WasHeld part (whole old) (whole new) name
  pub commits : MayGain commit old.commits new.commits

was_held_by : (part : Option StoredPart) (a b c d : Holding) (name : PartName) → c.held ≡ a.held → c.ever ≡ a.ever → d.ever ≡ b.ever → WasHeld part a b name → WasHeld part c d name
was_held_by None a b c d name held ever is has = subst (λ (l : List PartName). Contains l name) (sym held) has
was_held_by (Some part) a b c d name held ever is (inl has) = inl (subst (λ (l : List PartName). Contains l name) (sym held) has)
was_held_by (Some part) a b c d name held ever is (inr put) = inr (put.0, is ∙ put.1 ∙ ap (λ (l : List StoredPart). l ++ part ∷ []) (sym ever))

may_gain_by : {A : Type 0} (x : Option A) (old new new' : List A) → new' ≡ new → MayGain x old new → MayGain x old new'
may_gain_by x old new new' is gain = subst (λ (l : List _). MayGain x old l) (sym is) gain

module _ (writes : List ℕ → List ℕ → Type 0) (part : Option StoredPart) (commit : Option Commit) where
  goes_image : (p q : Past) (image : Holding) → Goes writes part commit p q → IsLeftOf q image → (before : Holding) × IsLeftOf p before × Step writes part commit before image
  goes_image p q image goes left =
      let from = goes.log.torn image.log left.log in
      let before : Holding = record { log = from.0; ever = p.ever; held = p.held; commits = p.commits } in (
        before,
        record { log = from.1; ever = refl; held = refl; commits = refl },
        record {
          log = from.2;
          ever = may_gain_by part p.ever q.ever image.ever left.ever goes.ever;
          commits = may_gain_by commit p.commits q.commits image.commits left.commits goes.commits;
          held = λ name has.
              was_held_by part (whole p) (whole q) before image name refl refl left.ever
              (goes.held name (subst (λ (l : List PartName). Contains l name) left.held has));
        },
      )

  -- Time goes on, and what stands at each later moment comes by a step from what stood at the beginning.
  pub past_leads : (past past' : ℕ → Past) (now later : ℕ) (counts counts' : Counts)
      → now ≤ later
      → ((u : ℕ) → u ≤ now → past' u ≡ past u)
      → Counted counts counts'
      → ((name : PartName) → Contains (past now).held name → Contains (past' later).held name ⊎ Rose counts.losses counts'.losses)
      → ((u : ℕ) → now ≤ u → u ≤ later → Goes writes part commit (past now) (past' u))
      → Leads (Step writes part commit) (past_world past now counts) (past_world past' later counts')
  past_leads past past' now later counts counts' le same counted lost goes = record {
    time = record {
      told = refl;
      later = le;
      nothing_else = λ t image before was.
          ⊎_elim
          (λ (here : was.0 ≤ now). inl (was.0, was.1, here, subst (λ (p : Past). IsLeftOf p image) (same was.0 here) was.3))
          (λ (after : now < was.0). inr (was.0, omega arith, was.2, was.3))
          (cases_le was.0 now);
      keeps = λ t image before was. (was.0, was.1, omega (arith, was.2, le), subst (λ (p : Past). IsLeftOf p image) (sym (same was.0 was.2)) was.3);
      counts = counted;
      losses = λ told. lost;
    };
    holding = λ told. let goes_now = goes later le (omega arith) in record { log = goes_now.log.reads; ever = goes_now.ever; commits = goes_now.commits; held = goes_now.held };
    images = λ image was.
        let from = goes_image (past now) (past' was.0) image (goes was.0 was.1 was.2) was.3 in
        (from.0, (now, omega arith, omega arith, from.1), from.2);
  }

-- what a call does to the log, from now on
pub record LogStep (writes : List ℕ → List ℕ → Type 0) (now : ℕ) (old new : List LogChange) : Type 0 where
  pub before : (u : ℕ) → u ≤ now → disk_at u new ≡ disk_at u old
  pub after : (u : ℕ) → now ≤ u → LogGoes writes (disk_at now old) (disk_at u new)

-- what it does to the shelf
pub record ShelfStep (part : Option StoredPart) (now : ℕ) (old new : List Shelved) : Type 0 where
  pub before : (u : ℕ) → u ≤ now → ever_at u new ≡ ever_at u old
  pub before_held : (u : ℕ) → u ≤ now → held_at u new ≡ held_at u old
  pub ever : (u : ℕ) → now ≤ u → MayGain part (ever_at now old) (ever_at u new)
  pub held : (u : ℕ) (log log' : List ℕ) (commits commits' : List Commit) (name : PartName) → now ≤ u → Contains (held_at u new) name
      → WasHeld part (record { log = log; ever = ever_at now old; held = held_at now old; commits = commits }) (record { log = log'; ever = ever_at u new; held = held_at u new; commits = commits' }) name

-- what it does to the sink
pub record SinkStep (commit : Option Commit) (now : ℕ) (old new : List Committed) : Type 0 where
  pub before : (u : ℕ) → u ≤ now → commits_at u new ≡ commits_at u old
  pub after : (u : ℕ) → now ≤ u → MayGain commit (commits_at now old) (commits_at u new)

-- the three together
pub steps_lead : {writes : List ℕ → List ℕ → Type 0} {part : Option StoredPart} {commit : Option Commit} (old new : History) (now later : ℕ) (counts counts' : Counts)
    → now ≤ later
    → LogStep writes now old.log new.log → ShelfStep part now old.shelf new.shelf → SinkStep commit now old.sink new.sink
    → Counted counts counts'
    → ((name : PartName) → Contains (held_at now old.shelf) name → Contains (held_at later new.shelf) name ⊎ Rose counts.losses counts'.losses)
    → Leads (Step writes part commit) (past_world (past_at old) now counts) (past_world (past_at new) later counts')
steps_lead {writes} {part} {commit} old new now later counts counts' le log shelf sink counted lost =
    past_leads writes part commit (past_at old) (past_at new) now later counts counts' le
    (λ u within i. record { disk = log.before u within i; ever = shelf.before u within i; held = shelf.before_held u within i; commits = sink.before u within i })
    counted lost
    (λ u since until. record { log = log.after u since; ever = shelf.ever u since; held = λ name has. shelf.held u _ _ _ _ name since has; commits = sink.after u since })
