-- The bags of nodes while some are taken out and put back.
use Rattle.std.proofs.Common.{◌≡◌, ◌≢◌, ℕ, zero, suc, nat_lt, Bool, true, false, IsTrue, List, [], ◌∷◌, length, get_or, set, refl, sym, subst, ap, ◌∙◌}
use Rattle.std.proofs.lemmas.List.{length-map}
use Rattle.row_core.specs.Bags.{SameBag}
use Rattle.bag_laws.proofs.Laws.{same_refl, same_on}
use Rattle.bag_laws.specs.Rows.{OneRow as Row}
use Rattle.plan_model.specs.Nodes.{bag_widths}
use Rattle.plan_model.specs.Plans.{Bag, bag_at}
use Rattle.plan_eval.specs.Evaluated.{Keeps, Stays, bag_with, is_taken_later}
use Rattle.plan_eval.specs.declared.evaluation.Evaluation.{Evaluation}

pub stays_itself : (kept : ℕ → Type 0) (bags : List Bag) → Stays kept bags bags
stays_itself kept bags = record { widths = refl; rows = λ place k. same_refl (bag_at bags place).rows }

pub stays_on : (kept : ℕ → Type 0) (bags more rest : List Bag) → Stays kept bags more → Stays kept more rest → Stays kept bags rest
stays_on kept bags more rest one two = record { widths = two.widths ∙ one.widths; rows = λ place k. same_on (two.rows place k) (one.rows place k) }

pub stays_fewer : (kept fewer : ℕ → Type 0) (bags more : List Bag) → ((place : ℕ) → fewer place → kept place) → Stays kept bags more → Stays fewer bags more
stays_fewer kept fewer bags more each one = record { widths = one.widths; rows = λ place k. one.rows place (each place k) }

pub long_stays : (kept : ℕ → Type 0) (bags more : List Bag) → Stays kept bags more → length more ≡ length bags
long_stays kept bags more one =
    sym (length-map more (λ (bag : Bag). bag.width)) ∙ ap (λ (widths : List ℕ). length widths) one.widths ∙ length-map bags (λ (bag : Bag). bag.width)

pub set_widths : (bags : List Bag) (k : ℕ) (bag : Bag) → bag.width ≡ (bag_at bags k).width → bag_widths (set bags k bag) ≡ bag_widths bags
set_widths [] k bag same = refl
set_widths (b ∷ bs) zero bag same = λ i. same i ∷ bag_widths bs
set_widths (b ∷ bs) (suc k) bag same = ap (λ (l : List ℕ). b.width ∷ l) (set_widths bs k bag same)

pub set_apart : (bags : List Bag) (k : ℕ) (bag : Bag) (other : ℕ) → other ≢ k → bag_at (set bags k bag) other ≡ bag_at bags other
set_apart [] k bag other apart = refl
set_apart (b ∷ bs) zero bag zero apart = absurd (apart refl)
set_apart (b ∷ bs) zero bag (suc other) apart = refl
set_apart (b ∷ bs) (suc k) bag zero apart = refl
set_apart (b ∷ bs) (suc k) bag (suc other) apart = set_apart bs k bag other (λ e. apart (ap suc e))

-- a bag of the same width in its place: the others stay
pub stays_set : (bags : List Bag) (k : ℕ) (rows : List Row) → Stays (λ place. place ≢ k) bags (set bags k (bag_with (bag_at bags k).width rows))
stays_set bags k rows = record {
  widths = set_widths bags k (bag_with (bag_at bags k).width rows) refl;
  rows = λ place apart. subst (λ (bag : Bag). SameBag (bag_at (set bags k (bag_with (bag_at bags k).width rows)) place).rows bag.rows)
      (set_apart bags k (bag_with (bag_at bags k).width rows) place apart) (same_refl _);
}

-- what is taken later is not a place that is not
apart_from : (test : ℕ → Bool) (k : ℕ) → test k ≡ false → (place : ℕ) → test place ≡ true → place ≢ k
apart_from test k none place holds is = let t : test k ≡ true = ap test (sym is) ∙ holds in cc

-- no rows are left at a place that nobody takes later
pub lets_go : (e now : Evaluation) (k : ℕ) → is_taken_later e k ≡ false
    → now.outputs.items ≡ set e.outputs.items k (bag_with (bag_at e.outputs.items k).width []) → now.last.items ≡ e.last.items → Keeps e now
lets_go e now k none left last = record {
  outputs = stays_fewer (λ place. place ≢ k) (λ place. IsTrue (is_taken_later e place)) e.outputs.items now.outputs.items (apart_from (is_taken_later e) k none)
      (subst (λ (bags : List Bag). Stays (λ place. place ≢ k) e.outputs.items bags) (sym left) (stays_set e.outputs.items k []));
  last = last;
}

pub long_kept : (e now : Evaluation) → Keeps e now → length now.outputs.items ≡ length e.outputs.items
long_kept e now one = long_stays (λ place. IsTrue (is_taken_later e place)) e.outputs.items now.outputs.items one.outputs

pub keeps_itself : (e : Evaluation) → Keeps e e
keeps_itself e = record { outputs = stays_itself (λ place. IsTrue (is_taken_later e place)) e.outputs.items; last = refl }

-- one after the other
pub keeps_on : (e now next : Evaluation) → Keeps e now → Keeps now next → Keeps e next
keeps_on e now next one two =
    let same : (place : ℕ) → is_taken_later now place ≡ is_taken_later e place = λ place i. nat_lt (long_kept e now one i) (get_or (one.last i) place 0) in
    record {
      outputs = stays_on (λ place. IsTrue (is_taken_later e place)) e.outputs.items now.outputs.items next.outputs.items one.outputs
          (stays_fewer (λ place. IsTrue (is_taken_later now place)) (λ place. IsTrue (is_taken_later e place)) now.outputs.items next.outputs.items (λ place h. same place ∙ h) two.outputs);
      last = two.last ∙ one.last;
    }
