-- The readers and the producers of a task, as numbers that a search finds.
use Rattle.std.proofs.Common.{◌≡◌, ℕ, ◌<◌, List, length, get_or, refl, sym, ◌∙◌, ap, subst, true, false, nat_eq}
use Rattle.std.specs.Prelude.{All, Contains, HoldsAt, count_by}
use Rattle.std.proofs.lemmas.Bool.{false≢true}
use Rattle.std.proofs.lemmas.List.Elements.{All-contains, Contains-get_or, at_from_Contains}
use Rattle.reader_index.specs.Links.{IsInside}
use Rattle.reader_index.specs.Tasks.{Tasks, is_between, is_done, is_of, reads_of}
use Rattle.reader_index.specs.declared.read.Read.{Read}
use Rattle.rerun_set.specs.Found.{Finds}
use Rattle.rerun_set.specs.Reruns.{HasOpenReader, Reads}
use Rattle.rerun_set.proofs.Items.{from_filter, into_filter, reader_reads, reads_reader, same_number, same_yes}
use Rattle.rerun_set.proofs.Leading.{Led, finds_same}

-- as many readers as there are reads from the task
abbrev pub AreItsReaders : Tasks → ℕ → List ℕ → Type 0
AreItsReaders tasks task readers = (n : ℕ) → count_by (nat_eq n) readers ≡ count_by (is_between n task) tasks.reads

pub readers_found : (tasks : Tasks) (task : ℕ) (readers old new : List ℕ) (P : ℕ → Type 0) → AreItsReaders tasks task readers
    → Finds old (Led (λ (n : ℕ). n) P readers) new → Finds old (λ n. Reads tasks n task × P n) new
readers_found tasks task readers old new P same h =
    finds_same old new (Led (λ (n : ℕ). n) P readers) (λ n. Reads tasks n task × P n)
    (λ n (x, has, is, p). (reader_reads tasks task readers same n (subst (λ (m : ℕ). Contains readers m) is has), p))
    (λ n (reads, p). (n, reads_reader tasks task readers same n reads, refl, p)) h

pub producers_found : (tasks : Tasks) (task : ℕ) (old new : List ℕ) (P : ℕ → Type 0)
    → Finds old (Led (λ (read : Read). read.producer) P (reads_of tasks task)) new → Finds old (λ n. Reads tasks task n × P n) new
producers_found tasks task old new P h =
    finds_same old new (Led (λ (read : Read). read.producer) P (reads_of tasks task)) (λ n. Reads tasks task n × P n) to back h
  where
    to : (n : ℕ) → Led (λ (read : Read). read.producer) P (reads_of tasks task) n → Reads tasks task n × P n
    to n (read, has, is, p) =
        let (there, own) = from_filter (is_of task) tasks.reads read has in
        ((read, there, sym (same_number task read.reader own), is), p)

    back : (n : ℕ) → Reads tasks task n × P n → Led (λ (read : Read). read.producer) P (reads_of tasks task) n
    back n ((read, has, reader, producer), p) =
        (read, into_filter (is_of task) tasks.reads read has (ap (nat_eq task) reader ∙ same_yes task), producer, p)

pub open_at : (tasks : Tasks) (task : ℕ) (readers : List ℕ) (k : ℕ) → AreItsReaders tasks task readers → k < length readers → is_done tasks.done (get_or readers k 0) ≡ false → HasOpenReader tasks task
open_at tasks task readers k same lt is = (get_or readers k 0, reader_reads tasks task readers same (get_or readers k 0) (Contains-get_or readers k 0 lt), is)

pub none_open : (tasks : Tasks) (task : ℕ) (readers : List ℕ) → AreItsReaders tasks task readers → ((k : ℕ) → k < length readers → is_done tasks.done (get_or readers k 0) ≡ true) → HasOpenReader tasks task → ⊥
none_open tasks task readers same all (reader, reads, is) = at (at_from_Contains readers reader (reads_reader tasks task readers same reader reads))
  where
    at : (k : ℕ) × (k < length readers) × HoldsAt (λ (y : ℕ). y ≡ reader) readers k → ⊥
    at (k, lt, holds) = false≢true (sym is ∙ ap (is_done tasks.done) (sym (holds 0)) ∙ all k lt)

-- ---- numbers of the list

-- who reads from a task is one of the tasks
pub reader_at : (tasks : Tasks) (task count : ℕ) (readers items : List ℕ) (k : ℕ) → All (IsInside count) tasks.reads → AreItsReaders tasks task readers → items ≡ readers → k < length items → get_or items k 0 < count
reader_at tasks task count readers items k inside same is lt =
    at (reader_reads tasks task readers same (get_or items k 0) (subst (λ (l : List ℕ). Contains l (get_or items k 0)) is (Contains-get_or items k 0 lt)))
  where
    at : Reads tasks (get_or items k 0) task → get_or items k 0 < count
    at (read, has, reader, producer) = subst (λ (n : ℕ). n < count) reader (All-contains (IsInside count) tasks.reads read inside has).reader

-- of a list's numbers those that pass
pub listed_found : (list old new : List ℕ) (P : ℕ → Type 0) → Finds old (Led (λ (n : ℕ). n) P list) new → Finds old (λ n. Contains list n × P n) new
listed_found list old new P h =
    finds_same old new (Led (λ (n : ℕ). n) P list) (λ n. Contains list n × P n)
    (λ n (x, has, is, p). (subst (λ (m : ℕ). Contains list m) is has, p))
    (λ n (has, p). (n, has, refl, p)) h
