-- Which subtasks are lost, name by name.
use Rattle.std.proofs.Common.{◌≡◌, ℕ, ◌<◌, List, [], ◌∷◌, ◌++◌, length, Some, sym, ◌∙◌, ap, subst, arith, inl, inr}
use Rattle.std.specs.Prelude.{◌⊎◌, Contains}
use Rattle.std.proofs.lemmas.List.Elements.{All-push, Contains-append_left, Contains-push, Contains-push_cases}
use Rattle.estate.specs.declared.part_name.PartName.{PartName}
use Rattle.graph_model.specs.declared.made_vertex.MadeVertex.{MadeVertex}
use Rattle.graph_model.specs.declared.sub.Sub.{Sub}
use Rattle.graph_model.specs.Closures.{IsGone}
use Rattle.graph_model.specs.Indexes.{sub_at}
use Rattle.graph_model.specs.States.{sub_of, winner_name}
use Rattle.rerun_set.proofs.Laws.{in_nothing}
use Rattle.region_closure.specs.Closing.{AreGone, OwnParts}

-- no part is gone, and nothing is lost
pub none_gone : (vs : List MadeVertex) (subs : List Sub) → AreGone vs [] subs []
none_gone vs subs = record {
  inside = λ k d lt. absurd (omega (arith, lt));
  each = λ n lt. (λ has. absurd (in_nothing n has), λ is. absurd (in_nothing is.name is.lost));
}

module _ (vs : List MadeVertex) (subs : List Sub) (own : OwnParts vs) (front : List PartName) (name : PartName) where
  -- it was gone before, or its part is this one
  either_gone : (sub : Sub) → IsGone vs (front ++ name ∷ []) sub → IsGone vs front sub ⊎ (winner_name vs sub ≡ Some name)
  either_gone sub is = by (Contains-push_cases front name is.name is.lost)
    where
      by : Contains front is.name ⊎ (name ≡ is.name) → IsGone vs front sub ⊎ (winner_name vs sub ≡ Some name)
      by (inl has) = inl (record { name = is.name; won = is.won; lost = has })
      by (inr same) = inr (is.won ∙ ap (λ (n : PartName). Some n) (sym same))

  still_gone : (sub : Sub) → IsGone vs front sub → IsGone vs (front ++ name ∷ []) sub
  still_gone sub is = record { name = is.name; won = is.won; lost = Contains-append_left front (name ∷ []) is.name is.lost }

  -- a part that is no present winner's takes nothing away
  pub gone_absent : (lost : List ℕ) → AreGone vs front subs lost → (winner_name vs (sub_of name) ≡ Some name → ⊥) → AreGone vs (front ++ name ∷ []) subs lost
  gone_absent lost h absent = record {
    inside = h.inside;
    each = λ n lt. (
      λ has. still_gone (sub_at subs n) ((h.each n lt).0 has),
      λ is. by n lt (either_gone (sub_at subs n) is),
    );
  }
    where
      by : (n : ℕ) → n < length subs → IsGone vs front (sub_at subs n) ⊎ (winner_name vs (sub_at subs n) ≡ Some name) → Contains lost n
      by n lt (inl was) = (h.each n lt).1 was
      by n lt (inr won) = absurd (absent (subst (λ (s : Sub). winner_name vs s ≡ Some name) (sym (own (sub_at subs n) name won)) won))

  -- with a present winner's its subtask is lost
  pub gone_present : (lost : List ℕ) (m : ℕ) → AreGone vs front subs lost → winner_name vs (sub_of name) ≡ Some name → m < length subs → sub_at subs m ≡ sub_of name
      → ((n : ℕ) → n < length subs → sub_at subs n ≡ sub_of name → n ≡ m) → AreGone vs (front ++ name ∷ []) subs (lost ++ m ∷ [])
  gone_present lost m h present within here once = record {
    inside = All-push (λ n. n < length subs) lost m h.inside within;
    each = λ n lt. (
      λ has. to n lt (Contains-push_cases lost m n has),
      λ is. back n lt (either_gone (sub_at subs n) is),
    );
  }
    where
      to : (n : ℕ) → n < length subs → Contains lost n ⊎ (m ≡ n) → IsGone vs (front ++ name ∷ []) (sub_at subs n)
      to n lt (inl has) = still_gone (sub_at subs n) ((h.each n lt).0 has)
      to n lt (inr same) = record { name = name; won = ap (winner_name vs) (ap (sub_at subs) (sym same) ∙ here) ∙ present; lost = Contains-push front name }

      back : (n : ℕ) → n < length subs → IsGone vs front (sub_at subs n) ⊎ (winner_name vs (sub_at subs n) ≡ Some name) → Contains (lost ++ m ∷ []) n
      back n lt (inl was) = Contains-append_left lost (m ∷ []) n ((h.each n lt).1 was)
      back n lt (inr won) = subst (λ (k : ℕ). Contains (lost ++ m ∷ []) k) (sym (once n lt (sym (own (sub_at subs n) name won)))) (Contains-push lost m)
