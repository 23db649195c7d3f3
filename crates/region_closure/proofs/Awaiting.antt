-- Which of the lost subtasks are awaited, one more each time.
use Rattle.std.proofs.Common.{◌≡◌, ℕ, ◌<◌, ◌≤◌, Bool, List, [], ◌∷◌, ◌++◌, length, get_or, refl, sym, subst, arith, true, false, inl, inr}
use Rattle.std.specs.Prelude.{◌⊎◌, ◌↔◌, All, Any, Contains}
use Rattle.std.proofs.lemmas.Bool.{false≢true}
use Rattle.std.proofs.lemmas.List.{get_or_past}
use Rattle.std.proofs.lemmas.List.Elements.{All-contains, Contains-append_left, Contains-get_or, Contains-push, Contains-push_cases}
use Rattle.graph_model.specs.declared.made_vertex.MadeVertex.{MadeVertex}
use Rattle.graph_model.specs.declared.sub.Sub.{Sub}
use Rattle.graph_model.specs.Closures.{IsAwaited}
use Rattle.graph_model.specs.Indexes.{sub_at}
use Rattle.graph_model.specs.States.{no_vertex, vertex_at}
use Rattle.rerun_set.proofs.Laws.{in_nothing}
use Rattle.region_closure.specs.Closing.{AreAwaited, HasAwaited}

-- one past the last vertex has no outputs
pub past_awaited : (vs : List MadeVertex) (sub : Sub) → length vs ≤ sub.vertex → HasAwaited vs sub → ⊥
past_awaited vs sub past any = none (subst (λ (made : MadeVertex). Any (IsAwaited vs) made.vertex.outputs) (get_or_past vs sub.vertex no_vertex past) any)
  where
    none : Any (IsAwaited vs) [] → ⊥
    none (k, output, lt, is, awaited) = absurd (omega (arith, lt))

module _ (vs : List MadeVertex) (subs : List Sub) where
  pub awaited_inside : (lost awaited : List ℕ) (count : ℕ) → AreAwaited vs subs lost awaited → All (λ n. n < count) lost → All (λ n. n < count) awaited
  awaited_inside lost awaited count are inside = λ k d lt. All-contains (λ n. n < count) lost (get_or awaited k d) inside ((are.each (get_or awaited k d)).0 (Contains-get_or awaited k d lt)).0

  pub none_awaited : AreAwaited vs subs [] []
  none_awaited = record { each = λ n. (λ has. absurd (in_nothing n has), λ (has, any). absurd (in_nothing n has)) }

  module _ (lost awaited : List ℕ) (n : ℕ) (h : AreAwaited vs subs lost awaited) where
    pub awaited_yes : HasAwaited vs (sub_at subs n) → AreAwaited vs subs (lost ++ n ∷ []) (awaited ++ n ∷ [])
    awaited_yes is = record { each = λ m. (λ has. to m (Contains-push_cases awaited n m has), λ (has, any). back m any (Contains-push_cases lost n m has)) }
      where
        to : (m : ℕ) → Contains awaited m ⊎ (n ≡ m) → Contains (lost ++ n ∷ []) m × HasAwaited vs (sub_at subs m)
        to m (inl has) = let (there, any) = (h.each m).0 has in (Contains-append_left lost (n ∷ []) m there, any)
        to m (inr same) = subst (λ (k : ℕ). Contains (lost ++ n ∷ []) k × HasAwaited vs (sub_at subs k)) same (Contains-push lost n, is)

        back : (m : ℕ) → HasAwaited vs (sub_at subs m) → Contains lost m ⊎ (n ≡ m) → Contains (awaited ++ n ∷ []) m
        back m any (inl there) = Contains-append_left awaited (n ∷ []) m ((h.each m).1 (there, any))
        back m any (inr same) = subst (λ (k : ℕ). Contains (awaited ++ n ∷ []) k) same (Contains-push awaited n)

    pub awaited_no : (HasAwaited vs (sub_at subs n) → ⊥) → AreAwaited vs subs (lost ++ n ∷ []) awaited
    awaited_no never = record { each = λ m. (λ has. to m has, λ (has, any). back m any (Contains-push_cases lost n m has)) }
      where
        to : (m : ℕ) → Contains awaited m → Contains (lost ++ n ∷ []) m × HasAwaited vs (sub_at subs m)
        to m has = let (there, any) = (h.each m).0 has in (Contains-append_left lost (n ∷ []) m there, any)

        back : (m : ℕ) → HasAwaited vs (sub_at subs m) → Contains lost m ⊎ (n ≡ m) → Contains awaited m
        back m any (inl there) = (h.each m).1 (there, any)
        back m any (inr same) = absurd (never (subst (λ (k : ℕ). HasAwaited vs (sub_at subs k)) (sym same) any))

    -- by its test
    pub awaited_if : (new : List ℕ) (b : Bool) → ((b ≡ true) ↔ HasAwaited vs (sub_at subs n)) → (b ≡ true → new ≡ awaited ++ n ∷ []) → (b ≡ false → new ≡ awaited)
        → AreAwaited vs subs (lost ++ n ∷ []) new
    awaited_if new true is on off = subst (λ (l : List ℕ). AreAwaited vs subs (lost ++ n ∷ []) l) (sym (on refl)) (awaited_yes (is.0 refl))
    awaited_if new false is on off = subst (λ (l : List ℕ). AreAwaited vs subs (lost ++ n ∷ []) l) (sym (off refl)) (awaited_no (λ any. false≢true (is.1 any)))
