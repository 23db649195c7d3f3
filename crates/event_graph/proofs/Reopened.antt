-- Winners that are taken one after the other.
use Rattle.std.proofs.Common.{◌≡◌, ℕ, ◌<◌, ◌≤◌, List, [], ◌∷◌, ◌++◌, length, get_or, take, Option, None, refl, sym, ◌∙◌, ap, subst, arith, inl, inr, ⊎_elim}
use Rattle.std.specs.Prelude.{AllPairs, Contains, HoldsAt, IsTrue}
use Rattle.std.specs.Option.{is_some}
use Rattle.std.proofs.lemmas.Bool.{cases_lt, false≢true}
use Rattle.std.proofs.lemmas.List.{get_or_past, get_or-take, length-take-le}
use Rattle.std.proofs.lemmas.List.Elements.{at_from_Contains}
use Rattle.graph_model.specs.declared.made_vertex.MadeVertex.{MadeVertex}
use Rattle.graph_model.specs.declared.subtask_state.SubtaskState.{SubtaskState}
use Rattle.graph_model.specs.declared.sub.Sub.{Sub}
use Rattle.graph_model.specs.declared.win.Win.{Win}
use Rattle.graph_model.specs.Closures.{IsBefore}
use Rattle.graph_model.specs.Indexes.{no_sub}
use Rattle.graph_model.specs.States.{is_finished, no_subtask, put_winner, subtasks_at, without_winners}
use Rattle.graph_model.proofs.Laws.{without-other}

-- a subtask that has a winner is decided
pub finished_decided : (vs : List MadeVertex) (sub : Sub) → IsTrue (is_finished vs sub) → sub.subtask < length (subtasks_at vs sub.vertex)
finished_decided vs sub won = ⊎_elim
    (λ (lt : sub.subtask < length (subtasks_at vs sub.vertex)). lt)
    (λ (le : length (subtasks_at vs sub.vertex) ≤ sub.subtask).
    absurd (false≢true (sym (ap (λ (t : SubtaskState). is_some t.winner) (get_or_past (subtasks_at vs sub.vertex) sub.subtask no_subtask le)) ∙ won)))
    (cases_lt sub.subtask (length (subtasks_at vs sub.vertex)))

-- one more
pub without_push : (vs : List MadeVertex) (subs : List Sub) (sub : Sub) → without_winners vs (subs ++ sub ∷ []) ≡ put_winner (without_winners vs subs) sub None
without_push vs [] sub = refl
without_push vs (other ∷ subs) sub = without_push (put_winner vs other None) subs sub

not_before : (s : Sub) → IsBefore s s → ⊥
not_before s (inl lt) = absurd (omega (arith, lt))
not_before s (inr (same, lt)) = absurd (omega (arith, lt))

-- in ascending order, one behind others is not among them
apart : (subs : List Sub) (place : ℕ) → AllPairs IsBefore subs → place < length subs → Contains (take place subs) (get_or subs place no_sub) → ⊥
apart subs place ascending lt has = at (at_from_Contains (take place subs) (get_or subs place no_sub) has)
  where
    at : (k : ℕ) × (k < length (take place subs)) × HoldsAt (λ (s : Sub). s ≡ get_or subs place no_sub) (take place subs) k → ⊥
    at (k, less, is) =
        let long : length (take place subs) ≡ place = length-take-le place subs (omega (arith, lt)) in
        let before : k < place = omega (arith, less, long) in
        let same : get_or subs k no_sub ≡ get_or subs place no_sub = sym (get_or-take place subs k no_sub before) ∙ is no_sub in
        not_before (get_or subs place no_sub) (subst (λ (s : Sub). IsBefore s (get_or subs place no_sub)) same (ascending k place no_sub before lt))

-- so its winner stands when those before have lost theirs
pub still_finished : (vs : List MadeVertex) (subs : List Sub) (place : ℕ) → AllPairs IsBefore subs → place < length subs
    → is_finished (without_winners vs (take place subs)) (get_or subs place no_sub) ≡ is_finished vs (get_or subs place no_sub)
still_finished vs subs place ascending lt =
    ap (λ (o : Option Win). is_some o) (without-other vs (take place subs) (get_or subs place no_sub) (apart subs place ascending lt))
