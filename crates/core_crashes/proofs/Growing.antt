-- Lists and holdings that grow, and logs that say a first part of events.
use Rattle.std.proofs.Common.{◌≡◌, ℕ, ◌≤◌, List, [], ◌∷◌, ◌++◌, length, take, Option, Some, None, sym, ◌∙◌, ap, subst, arith, inl, inr, append_assoc, append-nil, length-append}
use Rattle.std.proofs.lemmas.List.{take-append-le}
use Rattle.std.proofs.lemmas.List.Elements.{All-append, All-cons, All-nil}
use Rattle.estate.specs.Changes.{MayGain, Step}
use Rattle.estate.specs.Holding.{Holding, StoredPart}
use Rattle.estate.specs.declared.commit.Commit.{Commit}
use Rattle.graph_model.specs.declared.event.Event.{Event}
use Rattle.job_soundness.specs.Jobs.{Files, Job}
use Rattle.job_soundness.specs.Logs.{SaysEvents}
use Rattle.job_soundness.specs.Sound.{IsWithin, Says}
use Rattle.core_crashes.specs.Growth.{Grows, IsFirstPart, IsOfJob, SaysWithin}

pub first_refl : {A : Type 0} (l : List A) → IsFirstPart l l
first_refl l = ([], sym (append-nil l))

pub first_trans : {A : Type 0} (a b c : List A) → IsFirstPart a b → IsFirstPart b c → IsFirstPart a c
first_trans a b c (more, is) (others, are) = (more ++ others, are ∙ ap (λ l. l ++ others) is ∙ append_assoc a more others)

first_length : {A : Type 0} (a b : List A) → IsFirstPart a b → length a ≤ length b
first_length a b (more, is) = omega (arith, ap length is, length-append a more)

-- ---- holdings

gained : {A : Type 0} (x : Option A) (old new : List A) → MayGain x old new → IsFirstPart old new
gained None old new is = ([], is ∙ sym (append-nil old))
gained (Some x) old new (inl is) = ([], is ∙ sym (append-nil old))
gained (Some x) old new (inr is) = (x ∷ [], is)

-- a step that adds no commit
pub grows_step : (job : Job) (writes : List ℕ → List ℕ → Type 0) (part : Option StoredPart) (d h : Holding) → Step writes part None d h → Grows job d h
grows_step job writes part d h step = record {
  ever = gained part d.ever h.ever step.ever;
  more = [];
  commits = step.commits ∙ sym (append-nil d.commits);
  own = All-nil (IsOfJob job);
}

-- a step that may add the job's
pub grows_commit : (job : Job) (writes : List ℕ → List ℕ → Type 0) (commit : Commit) (d h : Holding) → IsOfJob job commit → Step writes None (Some commit) d h → Grows job d h
grows_commit job writes commit d h own step = by step.commits
  where
    ever : IsFirstPart d.ever h.ever
    ever = gained None d.ever h.ever step.ever

    by : MayGain (Some commit) d.commits h.commits → Grows job d h
    by (inl none) = record { ever = ever; more = []; commits = none ∙ sym (append-nil d.commits); own = All-nil (IsOfJob job) }
    by (inr one) = record { ever = ever; more = commit ∷ []; commits = one; own = All-cons (IsOfJob job) commit [] own (All-nil (IsOfJob job)) }

pub grows_trans : (job : Job) (d e h : Holding) → Grows job d e → Grows job e h → Grows job d h
grows_trans job d e h one two = record {
  ever = first_trans d.ever e.ever h.ever one.ever two.ever;
  more = one.more ++ two.more;
  commits = two.commits ∙ ap (λ (l : List Commit). l ++ two.more) one.commits ∙ append_assoc d.commits one.more two.more;
  own = All-append (IsOfJob job) one.more two.more one.own two.own;
}

-- ---- events

take_first : (count : ℕ) (events more : List Event) → count ≤ length events → IsFirstPart events more → take count more ≡ take count events
take_first count events more le (others, is) = ap (take count) is ∙ take-append-le count events others le

-- more events, and fewer that it must have
pub says_within_more : (least fewer : ℕ) (events more : List Event) (log : List ℕ) → fewer ≤ least → IsFirstPart events more → SaysWithin least events log → SaysWithin fewer more log
says_within_more least fewer events more log le first within = record {
  count = within.count;
  no_fewer = omega (arith, le, within.no_fewer);
  no_more = omega (arith, within.no_more, first_length events more first);
  says = subst (SaysEvents log) (sym (take_first within.count events more within.no_more first)) within.says;
}

pub within_more : (job : Job) (files : Files) (least fewer : ℕ) (events more : List Event) (image : Holding) → fewer ≤ least → IsFirstPart events more → IsWithin job files least events image → IsWithin job files fewer more image
within_more job files least fewer events more image le first within = record {
  count = within.count;
  no_fewer = omega (arith, le, within.no_fewer);
  no_more = omega (arith, within.no_more, first_length events more first);
  says = subst (λ (l : List Event). Says job files l image) (sym (take_first within.count events more within.no_more first)) within.says;
}
