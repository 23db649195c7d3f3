-- A search under way: all that was found runs again, and what the first ones of it lead to is found.
use Rattle.std.proofs.Common.{◌≡◌, ℕ, ◌+◌, ◌<◌, ◌≤◌, Bool, List, [], length, get_or, sym, ◌∙◌, ap, subst, arith, true, inl, inr}
use Rattle.std.specs.Prelude.{◌⊎◌, ◌≢◌, All, AllPairs, Contains, HoldsAt, IsTrue}
use Rattle.std.proofs.lemmas.Bool.{cases_lt}
use Rattle.std.proofs.lemmas.List.Elements.{All-contains, Contains-get_or, at_from_Contains}
use Rattle.reader_index.specs.Links.{IsInside}
use Rattle.reader_index.specs.Tasks.{Tasks, is_done}
use Rattle.rerun_set.specs.Found.{Finds}
use Rattle.rerun_set.specs.Reruns.{AreReruns, HasOpenReader, IsClosed, IsWanted, LeadsTo, Reads}
use Rattle.rerun_set.proofs.Finding.{finds_both, stays}
use Rattle.rerun_set.proofs.Items.{in_nothing}
use Rattle.rerun_set.proofs.Leading.{finds_same}

-- a set that was made of a list has its numbers
pub made_in : (list set : List ℕ) → Finds [] (Contains list) set → (n : ℕ) → Contains set n → Contains list n
made_in list set made n has = by (made.only n has)
  where
    by : Contains [] n ⊎ Contains list n → Contains list n
    by (inl none) = absurd (in_nothing n none)
    by (inr there) = there

pub made_inside : (list set : List ℕ) (count : ℕ) → Finds [] (Contains list) set → All (λ n. n < count) list → All (λ n. n < count) set
made_inside list set count made inside = λ k d lt. All-contains (λ n. n < count) list (get_or set k d) inside (made_in list set made (get_or set k d) (Contains-get_or set k d lt))

module _ (tasks : Tasks) (gone awaited : List ℕ) where
  pub record IsUnderway (items : List ℕ) (next : ℕ) : Type 0 where
    pub inside : All (λ n. n < length tasks.done) items
    pub first : (n : ℕ) → IsWanted tasks gone awaited n → Contains items n
    pub within : next ≤ length items
    pub passed : (k m : ℕ) → k < next → LeadsTo tasks gone (get_or items k 0) m → Contains items m
    pub least : (other : ℕ → Bool) → IsClosed tasks gone awaited (λ n. IsTrue (other n)) → (n : ℕ) → Contains items n → IsTrue (other n)

  -- begun with those that are awaited, and those that are gone while a reader isn't done
  pub underway_first : (begun lost items : List ℕ) → All (λ n. n < length tasks.done) gone → All (λ n. n < length tasks.done) awaited
      → Finds [] (Contains gone) lost → Finds [] (Contains awaited) begun → Finds begun (λ n. Contains lost n × HasOpenReader tasks n) items → IsUnderway items 0
  underway_first begun lost items gone_inside awaited_inside made_lost made_begun h = record {
    inside = λ k d lt. inside (get_or items k d) (wanted (get_or items k d) (h.only (get_or items k d) (Contains-get_or items k d lt)));
    first = λ n is. from n is;
    within = omega arith;
    passed = λ k m lt. absurd (omega (arith, lt));
    least = λ other is n has. is.first n (wanted n (h.only n has));
  }
    where
      wanted : (n : ℕ) → Contains begun n ⊎ (Contains lost n × HasOpenReader tasks n) → IsWanted tasks gone awaited n
      wanted n (inl has) = inl (made_in awaited begun made_begun n has)
      wanted n (inr (has, open_reader)) = inr (made_in gone lost made_lost n has, open_reader)

      from : (n : ℕ) → IsWanted tasks gone awaited n → Contains items n
      from n (inl has) = stays begun items (λ n. Contains lost n × HasOpenReader tasks n) h n (made_begun.has n has)
      from n (inr (has, open_reader)) = h.has n (made_lost.has n has, open_reader)

      inside : (n : ℕ) → IsWanted tasks gone awaited n → n < length tasks.done
      inside n (inl has) = All-contains (λ m. m < length tasks.done) awaited n awaited_inside has
      inside n (inr (has, open_reader)) = All-contains (λ m. m < length tasks.done) gone n gone_inside has

  -- who reads is a task, and so is whom it reads from
  led_inside : All (IsInside (length tasks.done)) tasks.reads → (n m : ℕ) → LeadsTo tasks gone n m → m < length tasks.done
  led_inside inside n m (inl ((read, has, reader, producer), is)) = subst (λ (k : ℕ). k < length tasks.done) reader (All-contains (IsInside (length tasks.done)) tasks.reads read inside has).reader
  led_inside inside n m (inr ((read, has, reader, producer), is)) = subst (λ (k : ℕ). k < length tasks.done) producer (All-contains (IsInside (length tasks.done)) tasks.reads read inside has).producer

  pub underway_more : (items new : List ℕ) (next : ℕ) → All (IsInside (length tasks.done)) tasks.reads → IsUnderway items next → next < length items
      → Finds items (LeadsTo tasks gone (get_or items next 0)) new → IsUnderway new (next + 1)
  underway_more items new next inside h lt finds = record {
    inside = λ k d less. within (get_or new k d) (finds.only (get_or new k d) (Contains-get_or new k d less));
    first = λ n has. stays items new led finds n (h.first n has);
    within = let x = finds.long in omega (arith, lt, x);
    passed = λ k m less leads. by_place k m leads (cases_lt k next) less;
    least = λ other is n has. from other is n (finds.only n has);
  }
    where
      led : ℕ → Type 0
      led m = LeadsTo tasks gone (get_or items next 0) m

      within : (n : ℕ) → Contains items n ⊎ led n → n < length tasks.done
      within n (inl has) = All-contains (λ m. m < length tasks.done) items n h.inside has
      within n (inr leads) = led_inside inside (get_or items next 0) n leads

      by_place : (k m : ℕ) → LeadsTo tasks gone (get_or new k 0) m → (k < next) ⊎ (next ≤ k) → k < next + 1 → Contains new m
      by_place k m leads (inl below) less =
          stays items new led finds m (h.passed k m below (subst (λ (n : ℕ). LeadsTo tasks gone n m) (finds.kept k (let x = h.within in omega (arith, below, x))) leads))
      by_place k m leads (inr above) less =
          let is : k ≡ next = omega (arith, above, less) in
          finds.has m (subst (λ (n : ℕ). LeadsTo tasks gone n m) (ap (λ (i : ℕ). get_or new i 0) is ∙ finds.kept next lt) leads)

      from : (other : ℕ → Bool) → IsClosed tasks gone awaited (λ n. IsTrue (other n)) → (n : ℕ) → Contains items n ⊎ led n → IsTrue (other n)
      from other is n (inl has) = h.least other is n has
      from other is n (inr leads) = is.onward (get_or items next 0) n (h.least other is (get_or items next 0) (Contains-get_or items next 0 lt)) leads

  pub underway_last : (items : List ℕ) (next : ℕ) → IsUnderway items next → length items ≤ next → AllPairs ◌≢◌ items → AreReruns tasks gone awaited items
  underway_last items next h end once = record {
    inside = h.inside;
    once = once;
    closed = record {
      first = h.first;
      onward = λ n m has leads. at n m leads (at_from_Contains items n has);
    };
    least = λ other is k d lt. h.least other is (get_or items k d) (Contains-get_or items k d lt);
  }
    where
      at : (n m : ℕ) → LeadsTo tasks gone n m → (k : ℕ) × (k < length items) × HoldsAt (λ (y : ℕ). y ≡ n) items k → Contains items m
      at n m leads (k, lt, holds) = h.passed k m (omega (arith, lt, end)) (subst (λ (i : ℕ). LeadsTo tasks gone i m) (sym (holds 0)) leads)

  -- what a task leads to: its readers that were done, and then its producers that are gone
  pub led_on : (lost items mid new : List ℕ) (n : ℕ) → Finds [] (Contains gone) lost → Finds items (λ m. Reads tasks m n × (is_done tasks.done m ≡ true)) mid
      → Finds mid (λ m. Reads tasks n m × Contains lost m) new → Finds items (LeadsTo tasks gone n) new
  led_on lost items mid new n made readers producers =
      finds_both items mid new front back (LeadsTo tasks gone n) readers
      (finds_same mid new (λ m. Reads tasks n m × Contains lost m) back (λ m (reads, has). (reads, made_in gone lost made m has)) (λ m (reads, has). (reads, made.has m has)) producers)
      (λ m h. h) (λ m h. inl h) (λ m h. inr h)
    where
      front : ℕ → Type 0
      front m = Reads tasks m n × (is_done tasks.done m ≡ true)

      back : ℕ → Type 0
      back m = Reads tasks n m × Contains gone m
