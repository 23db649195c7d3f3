-- A graph is complete where each node is in a decided vertex and no subtask is without a winner.
use Rattle.std.proofs.Common.{◌≡◌, ℕ, zero, suc, ◌<◌, Bool, true, false, not, ◌&&◌, ◌||◌, slice_get, Some, List, [], ◌∷◌, length, get_or, refl, sym, ◌∙◌, ap, arith, nat_eq}
use Rattle.std.specs.Prelude.{◌↔◌, IsTrue, count_by}
use Rattle.std.specs.Option.{is_some}
use Rattle.std.proofs.lemmas.Bool.{false≢true}
use Rattle.std.proofs.lemmas.Bool.Decides.{nat_tests}
use Rattle.std.proofs.lemmas.List.{get_or_default}
use Rattle.std.proofs.lemmas.List.Sums.{AllPass-from_list_all, list_all-from_AllPass, sum_by-cons}
use Rattle.vertex_builder.specs.Chains.{is_among}
use Rattle.vertex_builder.specs.Vertices.{head_of}
use Rattle.graph_model.specs.declared.made_vertex.MadeVertex.{MadeVertex}
use Rattle.graph_model.specs.declared.sub.Sub.{Sub}
use Rattle.graph_model.specs.declared.subtask_state.SubtaskState.{SubtaskState}
use Rattle.graph_model.specs.Indexes.{sub_at}
use Rattle.graph_model.specs.Legal.{IsDone}
use Rattle.graph_model.specs.States.{Given, State, no_subtask, vertex_at, subtasks_at, is_finished, is_decided, is_complete, are_won, maker}
use Rattle.graph_model.proofs.Laws.{in_range, maker_has, none_is_some, single_law, some_is}
use Rattle.reader_index.specs.Tasks.{undone}
use Rattle.event_graph.specs.Kept.{IsKept}
use Rattle.event_graph.specs.Numbers.{Numbering, number_of}
use Rattle.graph_vertices.proofs.Laws.{maker_first}
use Rattle.event_graph.proofs.Counting.{one_if}
use Rattle.event_graph.proofs.Undecided.{all_decided, decided_all}

both_left : (a b : Bool) → (a && b) ≡ true → a ≡ true
both_left true b e = refl
both_left false b e = e

both_right : (a b : Bool) → (a && b) ≡ true → b ≡ true
both_right true b e = e
both_right false b e = absurd (false≢true e)

both_true : (a b : Bool) → a ≡ true → b ≡ true → (a && b) ≡ true
both_true true b e f = f
both_true false b e f = absurd (false≢true e)

is_zero : (n : ℕ) → nat_eq n 0 ≡ true → n ≡ 0
is_zero n e = grind (arith, nat_tests)

zero_is : (n : ℕ) → n ≡ 0 → nat_eq n 0 ≡ true
zero_is n e = grind (arith, nat_tests)

-- none is undone where each is done
all_done : (done : List Bool) (n : ℕ) → count_by not done ≡ 0 → n < length done → get_or done n false ≡ true
all_done [] n none lt = absurd (omega (arith, lt))
all_done (b ∷ done) zero none lt = let e = sum_by-cons (λ d. one_if (not d)) b done in by b (omega (arith, e, none))
  where
    by : (d : Bool) → one_if (not d) ≡ 0 → d ≡ true
    by true z = refl
    by false z = absurd (omega (arith, z))
all_done (b ∷ done) (suc n) none lt = let e = sum_by-cons (λ d. one_if (not d)) b done in all_done done n (omega (arith, e, none)) (omega (arith, lt))

none_undone : (done : List Bool) → ((n : ℕ) → n < length done → get_or done n false ≡ true) → count_by not done ≡ 0
none_undone [] each = refl
none_undone (b ∷ done) each =
    let e = sum_by-cons (λ d. one_if (not d)) b done in
    let here : one_if (not b) ≡ 0 = ap (λ (d : Bool). one_if (not d)) (each 0 (omega arith)) in
    let rest = none_undone done (λ n lt. each (suc n) (omega (arith, lt))) in
    omega (arith, e, here, rest)

same_yes : (n : ℕ) → nat_eq n n ≡ true
same_yes n = grind (arith, nat_tests)

-- the first of a list stands in it
pub head_among : (nodes : List ℕ) (head : ℕ) → slice_get nodes 0 ≡ Some head → is_among nodes head ≡ true
head_among [] head is = absurd (none_is_some head is)
head_among (node ∷ nodes) head is = ap (λ (n : ℕ). nat_eq n node || is_among nodes n) (sym (some_is node head is)) ∙ ap (λ (b : Bool). b || is_among nodes node) (same_yes node)

module _ (given : Given) (state : State) (numbering : Numbering) (undecided : ℕ) (kept : IsKept given state numbering undecided) where
  abbrev vs : List MadeVertex
  vs = state.vertices

  abbrev done : List Bool
  done = numbering.tasks.done

  to : (nat_eq undecided 0 && nat_eq (undone numbering.tasks) 0) ≡ true → IsDone given state
  to e node lt =
      let count = is_zero undecided (both_left (nat_eq undecided 0) (nat_eq (undone numbering.tasks) 0) e) in
      let here = all_decided given vs (sym kept.undecided_is ∙ count) node lt in
      let none = is_zero (undone numbering.tasks) (both_right (nat_eq undecided 0) (nat_eq (undone numbering.tasks) 0) e) in
      let v = maker vs node in
      let subtasks = subtasks_at vs v in
      both_true (is_decided (vertex_at vs v)) (are_won subtasks) here
      (list_all-from_AllPass (λ (t : SubtaskState). is_some t.winner) subtasks (λ k d less.
      let sub : Sub = record { vertex = v; subtask = k } in
      let number = kept.numbered.numbered sub less in
      let n = number_of numbering sub in
      let long = kept.numbered.subs_len in
      let within = number.within in
      let is = all_done done n none (omega (arith, long, within)) in
      let won : is_finished vs sub ≡ true = ap (is_finished vs) (sym number.is) ∙ sym (kept.numbered.numbers n within).done ∙ is in
      ap (λ (t : SubtaskState). is_some t.winner) (get_or_default subtasks k d no_subtask less) ∙ won))

  from : IsDone given state → (nat_eq undecided 0 && nat_eq (undone numbering.tasks) 0) ≡ true
  from all = both_true (nat_eq undecided 0) (nat_eq (undone numbering.tasks) 0)
      (zero_is undecided (kept.undecided_is ∙ decided_all given vs (λ node lt. both_left (is_decided (vertex_at vs (maker vs node))) (are_won (subtasks_at vs (maker vs node))) (all node lt))))
      (zero_is (undone numbering.tasks) (none_undone done each))
    where
      each : (n : ℕ) → n < length done → get_or done n false ≡ true
      each n lt =
          let long = kept.numbered.subs_len in
          let has = kept.numbered.numbers n (omega (arith, lt, long)) in
          let sub = sub_at numbering.subs n in
          let v = sub.vertex in
          let d = has.decided in
          let inside = in_range vs v (omega (arith, d)) in
          let made = kept.valid.made v inside in
          let head = head_of (vertex_at vs v).vertex in
          let here = head_among (vertex_at vs v).vertex.nodes head made.is.chain.first in
          let first = maker_first vs v head inside here in
          let under : maker vs head < length vs = omega (arith, first, inside) in
          let same : maker vs head ≡ v = single_law given state kept.faultless kept.valid (maker vs head) v head under inside (maker_has vs head under) here in
          let complete : is_complete (vertex_at vs v) ≡ true = ap (λ (u : ℕ). is_complete (vertex_at vs u)) (sym same) ∙ all head made.within in
          let won = AllPass-from_list_all (λ (t : SubtaskState). is_some t.winner) (subtasks_at vs v) (both_right (is_decided (vertex_at vs v)) (are_won (subtasks_at vs v)) complete) in
          has.done ∙ won sub.subtask no_subtask has.decided

  -- where no node is left, and where one is
  pub complete_then : undecided ≡ 0 → (won : Bool) → won ≡ nat_eq (undone numbering.tasks) 0 → IsTrue won ↔ IsDone given state
  complete_then none won is = (
    λ e. to (both_true (nat_eq undecided 0) (nat_eq (undone numbering.tasks) 0) (zero_is undecided none) (sym is ∙ e)),
    λ all. is ∙ both_right (nat_eq undecided 0) (nat_eq (undone numbering.tasks) 0) (from all),
  )

  pub complete_else : (undecided ≡ 0 → ⊥) → IsTrue (nat_eq undecided 0) ↔ IsDone given state
  complete_else some = (
    λ e. absurd (some (is_zero undecided e)),
    λ all. absurd (some (is_zero undecided (both_left (nat_eq undecided 0) (nat_eq (undone numbering.tasks) 0) (from all)))),
  )
