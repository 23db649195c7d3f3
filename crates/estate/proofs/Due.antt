-- Which parts are lost at a call.
use Rattle.std.proofs.Common.{◌≡◌, ◌≢◌, ◌⊎◌, inl, inr, ⊎_elim, ℕ, zero, suc, Bool, true, false, Contains, List, [], ◌∷◌, ◌++◌, refl, sym, ◌∙◌, ap, subst, arith}
use Rattle.std.proofs.lemmas.List.Elements.{Contains-append_cases, Contains-append_left, Contains-append_right}
use Rattle.estate.specs.declared.loss.Loss.{Loss}
use Rattle.estate.specs.declared.part_name.PartName.{PartName}
use Rattle.estate.specs.declared.shelved.Shelved.{Shelved}
use Rattle.estate.specs.declared.calls.Calls.{Calls}
use Rattle.estate.specs.Parts.{is_same_name}
use Rattle.estate.specs.Shelf.{held_at, held_in, HasHappened}
use Rattle.estate.specs.Calls.{FailsAsListed, IsDue, LosesDue}
use Rattle.estate.proofs.Shelving.{names_equal, name_itself}
use Rattle.estate.proofs.Stepping.{held_after}

-- the only item of a list
the_only : {X : Type 0} (x y : X) → Contains (x ∷ []) y → x ≡ y
the_only x y (zero, lt, is) = is
the_only x y (suc k, lt, is) = absurd (omega (arith, lt))

-- no loss, nothing is lost
pub none_due : (call : ℕ) (old new : List PartName) → new ≡ old → LosesDue [] call old new
none_due call old new is = record {
  gone = λ name had due. absurd (omega (arith, due.1));
  kept = λ name had. inr (subst (λ (l : List PartName). Contains l name) (sym is) had);
}

-- a loss at another call
pub other_due : (loss : Loss) (call : ℕ) (old new : List PartName) → loss.call ≢ call → new ≡ old → LosesDue (loss ∷ []) call old new
other_due loss call old new other is = record {
  gone = λ name had due. absurd (other (ap (λ (l : Loss). l.call) (the_only loss (record { call = call; name = name }) due)));
  kept = λ name had. inr (subst (λ (l : List PartName). Contains l name) (sym is) had);
}

-- a loss at this call
pub one_due : (loss : Loss) (call : ℕ) (old new : List PartName) → loss.call ≡ call → ¬ (Contains new loss.name)
    → ((other : PartName) → other ≢ loss.name → Contains old other → Contains new other) → LosesDue (loss ∷ []) call old new
one_due loss call old new now gone others = record {
  gone = λ name had due has.
      gone (subst (λ (n : PartName). Contains new n) (sym (ap (λ (l : Loss). l.name) (the_only loss (record { call = call; name = name }) due))) has);
  kept = λ name had. decide name had (is_same_name loss.name name) refl;
}
  where
    due_here : (name : PartName) → loss.name ≡ name → IsDue (loss ∷ []) call name
    due_here name is = (zero, omega arith, ap (λ (n : ℕ). record { call = n; name = loss.name }) now ∙ ap (λ (n : PartName). record { call = call; name = n }) is)

    decide : (name : PartName) → Contains old name → (same : Bool) → is_same_name loss.name name ≡ same → IsDue (loss ∷ []) call name ⊎ Contains new name
    decide name had true is = inl (due_here name (names_equal loss.name name is))
    decide name had false is = inr (others name (λ eq. let itself : is_same_name loss.name name ≡ true = subst (λ (n : PartName). is_same_name loss.name n ≡ true) (sym eq) (name_itself loss.name) in absurd (cc)) had)

-- the losses of two lists, one after the other
pub both_due : (first second : List Loss) (call : ℕ) (old mid new : List PartName) → LosesDue first call old mid → LosesDue second call mid new
    → ((name : PartName) → Contains new name → Contains mid name) → LosesDue (first ++ second) call old new
both_due first second call old mid new one two fewer = record {
  gone = λ name had due has.
      ⊎_elim
      (λ by_first. one.gone name had by_first (fewer name has))
      (λ by_second. two.gone name (fewer name has) by_second has)
      (Contains-append_cases first second (record { call = call; name = name }) due);
  kept = λ name had.
      ⊎_elim
      (λ by_first. inl (Contains-append_left first second (record { call = call; name = name }) by_first))
      (λ still.
      ⊎_elim
      (λ by_second. inl (Contains-append_right first second (record { call = call; name = name }) by_second))
      (λ has. inr has)
      (two.kept name still))
      (one.kept name had);
}

-- the parts that are held after all, at moments by which all has happened
pub due_at : (losing : List Loss) (call u v : ℕ) (old new : List Shelved) → HasHappened u old → HasHappened v new → LosesDue losing call (held_in old) (held_in new)
    → LosesDue losing call (held_at u old) (held_at v new)
due_at losing call u v old new happened happened' loses =
    subst (λ (l : List PartName). LosesDue losing call l (held_at v new)) (sym (held_after u old happened))
    (subst (λ (l : List PartName). LosesDue losing call (held_in old) l) (sym (held_after v new happened')) loses)

-- a part is put behind what is left
pub due_put : (losing : List Loss) (call : ℕ) (old mid new : List PartName) (name : PartName) → LosesDue losing call old mid → ¬ (Contains old name) → new ≡ mid ++ name ∷ []
    → LosesDue losing call old new
due_put losing call old mid new put loses fresh is = record {
  gone = λ name had due has.
      ⊎_elim
      (λ still. loses.gone name had due still)
      (λ last. fresh (subst (λ (n : PartName). Contains old n) (sym (the_only put name last)) had))
      (Contains-append_cases mid (put ∷ []) name (subst (λ (l : List PartName). Contains l name) is has));
  kept = λ name had.
      ⊎_elim
      (λ due. inl due)
      (λ still. inr (subst (λ (l : List PartName). Contains l name) (sym is) (Contains-append_left mid (put ∷ []) name still)))
      (loses.kept name had);
}

-- the same call, where its failure is said in another way
pub fails_as : (failed says : Type 0) (old new : Calls) → FailsAsListed failed old new → (failed → says) → (says → failed) → FailsAsListed says old new
fails_as failed says old new call there back = (call.0, (λ said. call.1.0 (back said), λ next. there (call.1.1 next)))
