-- Subtasks that are sorted, each once, ascend.
use Rattle.std.proofs.Common.{◌≡◌, ℕ, ◌+◌, ◌<◌, List, [], ◌∷◌, ◌++◌, length, map, take, get_or, refl, sym, ◌∙◌, ap, subst, arith, false, ◌&&◌, eqb, inl, inr}
use Rattle.std.specs.Prelude.{◌≢◌, AllPairs, Contains, Decides, IsPermutation, IsSorted}
use Rattle.std.specs.Cmp.{IsTotalOrder, nat_cmp_total}
use Rattle.std.specs.Ordering.{MatchOrdering, is_lt, nat_cmp, ordering_then}
use Rattle.std.specs.declared.cmp.Ordering.{Ordering}
use Rattle.std.specs.declared.cmp.Ordering.TheVariants.{Less, Equal, Greater}
use Rattle.std.proofs.lemmas.Bool.{true≢false}
use Rattle.std.proofs.lemmas.Bool.Decides.{Decides-like, same_from_decides}
use Rattle.std.proofs.lemmas.Cmp.{on_total, ranked, then_total}
use Rattle.std.proofs.lemmas.List.{get_or-map, length-map, map_push, take_more}
use Rattle.std.proofs.lemmas.List.Sorted.{Contains-permutation, IsPermutation-sym, ranks_by, sorted_far}
use Rattle.std.proofs.lemmas.Map.Keys.{IsDistinct-IsPermutation}
use Rattle.std.proofs.lemmas.Map.Made.{AllPairs-from_IsDistinct, IsDistinct-from_AllPairs}
use Rattle.graph_model.specs.declared.sub.Sub.{Sub}
use Rattle.graph_model.specs.Closures.{IsBefore}
use Rattle.graph_model.specs.Indexes.{sub_at}
use Rattle.graph_model.proofs.Laws.{in_map, same_sub}
use Rattle.region_closure.specs.Closing.{ArePicked}
use Rattle.region_closure.proofs.Closing.{from_map}
use Rattle.region_closure.proofs.Same.{subs_decide}

-- by vertex, and then by number
abbrev pub cmp_subs : Sub → Sub → Ordering
cmp_subs a b = ordering_then (nat_cmp a.vertex b.vertex) (nat_cmp a.subtask b.subtask)

total : IsTotalOrder cmp_subs
total = then_total (on_total (λ (s : Sub). s.vertex) nat_cmp_total) (on_total (λ (s : Sub). s.subtask) nat_cmp_total)

ranked_before : (a b : Sub) (first second : Ordering) → MatchOrdering first (b.vertex < a.vertex) (b.vertex ≡ a.vertex) (a.vertex < b.vertex)
    → MatchOrdering second (b.subtask < a.subtask) (b.subtask ≡ a.subtask) (a.subtask < b.subtask) → is_lt (ordering_then first second) ≡ false → (a ≡ b → ⊥) → IsBefore a b
ranked_before a b Less second f s up ne = absurd (true≢false up)
ranked_before a b Greater second f s up ne = inl f
ranked_before a b Equal Less f s up ne = absurd (true≢false up)
ranked_before a b Equal Equal f s up ne = absurd (ne (same_sub a b (sym f) (sym s)))
ranked_before a b Equal Greater f s up ne = inr (sym f, s)

before : (a b : Sub) → is_lt (cmp_subs b a) ≡ false → (a ≡ b → ⊥) → IsBefore a b
before a b up ne =
    ranked_before a b (nat_cmp b.vertex a.vertex) (nat_cmp b.subtask a.subtask) (ranked b.vertex a.vertex (nat_cmp b.vertex a.vertex) refl)
    (ranked b.subtask a.subtask (nat_cmp b.subtask a.subtask) refl) up ne

sorted_ascends : (set : List Sub) → IsSorted cmp_subs set → AllPairs ◌≢◌ set → AllPairs IsBefore set
sorted_ascends set sorted each i j d lt less =
    before (get_or set i d) (get_or set j d) (sorted_far (λ (x y : Sub). is_lt (cmp_subs x y)) (ranks_by total (λ (s : Sub). s)) set sorted i j d (omega (arith, lt)) less) (each i j d lt less)

-- each once, in whatever order
still_apart : (xs ys : List Sub) → IsPermutation xs ys → AllPairs ◌≢◌ xs → AllPairs ◌≢◌ ys
still_apart xs ys moved each =
    AllPairs-from_IsDistinct subs_decide ys
    (IsDistinct-IsPermutation (λ (a b : Sub). eqb a.vertex b.vertex && eqb a.subtask b.subtask) flips xs ys moved (IsDistinct-from_AllPairs subs_decide xs each))
  where
    flips : (a b : Sub) → (eqb a.vertex b.vertex && eqb a.subtask b.subtask) ≡ (eqb b.vertex a.vertex && eqb b.subtask a.subtask)
    flips a b =
        same_from_decides (eqb a.vertex b.vertex && eqb a.subtask b.subtask) (eqb b.vertex a.vertex && eqb b.subtask a.subtask) (subs_decide a b)
        (Decides-like (eqb b.vertex a.vertex && eqb b.subtask a.subtask) (λ e. sym e) (λ e. sym e) (subs_decide b a))

module _ (subs : List Sub) (numbers : List ℕ) where
  pub picked_more : (set : List Sub) (k : ℕ) → k < length numbers → set ≡ map (sub_at subs) (take k numbers) → set ++ sub_at subs (get_or numbers k 0) ∷ [] ≡ map (sub_at subs) (take (k + 1) numbers)
  picked_more set k lt is =
      ap (λ (l : List Sub). l ++ sub_at subs (get_or numbers k 0) ∷ []) is ∙ sym (map_push (sub_at subs) (take k numbers) (get_or numbers k 0))
      ∙ ap (map (sub_at subs)) (sym (take_more numbers k 0 lt))

  pub are_picked : (set : List Sub) → IsPermutation (map (sub_at subs) numbers) set → IsSorted cmp_subs set → AllPairs (λ n m. sub_at subs n ≢ sub_at subs m) numbers → ArePicked subs numbers set
  are_picked set moved sorted apart = record {
    ascending = sorted_ascends set sorted (still_apart all set moved each);
    picked = λ sub has. from_map (sub_at subs) numbers sub (Contains-permutation set all sub (IsPermutation-sym all set moved) has);
    all = λ n has. Contains-permutation all set (sub_at subs n) moved (in_map (sub_at subs) numbers n has);
  }
    where
      all : List Sub
      all = map (sub_at subs) numbers

      each : AllPairs ◌≢◌ all
      each i j d lt less same =
          let long = length-map numbers (sub_at subs) in
          let under : j < length numbers = omega (arith, less, long) in
          apart i j 0 lt under (sym (get_or-map (sub_at subs) numbers i 0 d (omega (arith, lt, under))) ∙ same ∙ get_or-map (sub_at subs) numbers j 0 d under)
