-- Marks that are refreshed one after another.
use Rattle.std.proofs.Common.{ℕ, ◌+◌, ◌<◌, Bool, List, length, take, sym, ◌∙◌, subst, All}
use Rattle.std.proofs.lemmas.List.{take_more}
use Rattle.attempt_names.specs.Attempts.{Attempts}
use Rattle.graph_model.specs.declared.made_vertex.MadeVertex.{MadeVertex}
use Rattle.graph_model.specs.declared.sub.Sub.{Sub}
use Rattle.graph_model.specs.Indexes.{no_sub, sub_at}
use Rattle.number_set.specs.Pairs.{group_at}
use Rattle.ready_subtasks.specs.Marks.{AreMarked, IsDecidedSub, put_mark}
use Rattle.ready_subtasks.specs.Ready.{is_ready}
use Rattle.ready_subtasks.specs.Touches.{IsRefreshed}
use Rattle.ready_subtasks.proofs.Laws.{refreshed_more}

module _ (vs : List MadeVertex) (attempts : Attempts) (subs : List Sub) (place : ℕ) (old now : List (List Bool))
    (decided : All (IsDecidedSub vs) subs) (marked : AreMarked vs old) (lt : place < length subs) (h : IsRefreshed vs attempts (take place subs) old now) where
  -- the next subtask has a mark
  pub next_marked : (sub_at subs place).subtask < length (group_at now (sub_at subs place).vertex)
  next_marked =
      let sub = sub_at subs place in
      subst (λ (n : ℕ). sub.subtask < n) (sym (h.sizes sub.vertex ∙ marked sub.vertex)) (decided place no_sub lt)

  pub refreshed_step : IsRefreshed vs attempts (take (place + 1) subs) old (put_mark now (sub_at subs place) (is_ready vs attempts (sub_at subs place)))
  refreshed_step =
      let sub = sub_at subs place in
      subst (λ (l : List Sub). IsRefreshed vs attempts l old (put_mark now sub (is_ready vs attempts sub))) (sym (take_more subs place no_sub lt))
      (refreshed_more vs attempts (take place subs) sub old now next_marked h)
