-- What a graph keeps at each event.
use Rattle.std.proofs.Common.{◌≡◌, ℕ, ◌<◌, ◌≤◌, Bool, true, false, List, [], ◌∷◌, ◌++◌, length, map, get_or, set, Some, Result, Ok, Err, refl, sym, ◌∙◌, ap, subst, arith}
use Rattle.std.specs.Prelude.{replicate, All, Contains, OnErr, OnOk}
use Rattle.std.proofs.lemmas.List.{length_push, length-replicate, length-set}
use Rattle.std.proofs.lemmas.List.Elements.{Contains-get_or}
use Rattle.std.proofs.lemmas.Result.{on_err_weaker, on_ok_weaker}
use Rattle.attempt_names.specs.Attempts.{Attempts, no_attempts}
use Rattle.estate.specs.declared.part_name.PartName.{PartName}
use Rattle.event_graph.specs.Graphs.{JobState, Takes}
use Rattle.event_graph.specs.declared.verdict.Verdict.{Verdict}
use Rattle.event_graph.specs.declared.verdict.Verdict.TheVariants.{Double, Stale, Win}
use Rattle.graph_model.specs.declared.event.Event.{Event}
use Rattle.graph_model.specs.declared.event.Event.TheVariants.{Decided, Done, Made, Reset}
use Rattle.graph_model.specs.declared.made_vertex.MadeVertex.{MadeVertex}
use Rattle.graph_model.specs.declared.sub.Sub.{Sub}
use Rattle.graph_model.specs.declared.win.Win.{Win as Won}
use Rattle.graph_model.specs.Legal.{after, made_of}
use Rattle.graph_model.specs.Reads.{ReadEdge}
use Rattle.graph_model.specs.States.{Given, put_winner, sub_of, subtasks_at, without_winners}
use Rattle.graph_model.specs.Valid.{IsValid}
use Rattle.graph_model.proofs.Laws.{KeepsReads, edges-same, put-keeps, put-other, same_count, valid_after, without-keeps, without-other}
use Rattle.number_set.specs.Pairs.{group_at}
use Rattle.plan_model.specs.Checks.{plan_faults}
use Rattle.rect_cover.specs.Cells.{Reads}
use Rattle.exec_graph.specs.Deploys.{without_name}
use Rattle.exec_graph.specs.Kept.{IsKept}
use Rattle.exec_graph.proofs.Few.{few_vertices}
use Rattle.ready_subtasks.specs.Marks.{AreMarked, IsDecidedSub, IsReadiness, put_mark}
use Rattle.ready_subtasks.specs.Touches.{AreTouched, IsRefreshed}
use Rattle.ready_subtasks.proofs.Laws.{readiness_decided, readiness_deployed, readiness_dropped, readiness_made, readiness_started, readiness_touched, readiness_undropped}

-- what follows where it is Ok and where it is not
pub either : {T E P : Type 0} (r : Result T E) → OnOk r P → OnErr r P → P
either (Ok x) ok err = ok
either (Err e) ok err = err

-- what follows from the verdicts that change nothing
pub unless_won : (verdict : Verdict) (P : Type 0) → (verdict ≡ Win → ⊥) → ((winner : PartName) → verdict ≡ Double winner → P) → ((input : PartName) → verdict ≡ Stale input → P) → P
unless_won Win P apart double stale = absurd (apart refl)
unless_won (Double winner) P apart double stale = double winner refl
unless_won (Stale input) P apart double stale = stale input refl

-- nothing is made
pub kept_started : (job : JobState) (marks : List (List Bool)) → job.state.vertices ≡ [] → marks ≡ replicate (length job.given.nodes) [] → IsKept job no_attempts marks
kept_started job marks none is =
    let count = length job.given.nodes in
    record {
      ready = subst (λ (l : List (List Bool)). IsReadiness job.state.vertices no_attempts l) (sym is)
          (subst (λ (vs : List MadeVertex). IsReadiness vs no_attempts (replicate count [])) (sym none) (readiness_started count));
      room = ap (length {A = List Bool}) is ∙ length-replicate count [];
    }

-- other vertices of the same plan, of which these marks tell what is ready
pub kept_next : (old new : JobState) (vertices : List MadeVertex) (attempts later : Attempts) (marks next : List (List Bool)) → IsKept old attempts marks
    → new.given ≡ old.given → new.state.vertices ≡ vertices → IsReadiness vertices later next → length next ≡ length marks → IsKept new later next
kept_next old new vertices attempts later marks next kept given is ready len = record {
  ready = subst (λ (vs : List MadeVertex). IsReadiness vs later next) (sym is) ready;
  room = len ∙ kept.room ∙ ap (λ (g : Given). length g.nodes) (sym given);
}

-- neither the plan nor the vertices change
pub kept_same : (old new : JobState) (attempts : Attempts) (marks : List (List Bool)) → IsKept old attempts marks → new.given ≡ old.given → new.state.vertices ≡ old.state.vertices → IsKept new attempts marks
kept_same old new attempts marks kept given is = kept_next old new old.state.vertices attempts attempts marks marks kept given is kept.ready refl

-- nothing changes
pub kept_unchanged : (old new : JobState) (attempts : Attempts) (marks : List (List Bool)) → IsKept old attempts marks → new ≡ old → IsKept new attempts marks
kept_unchanged old new attempts marks kept same = subst (λ (job : JobState). IsKept job attempts marks) (sym same) kept

given_after : (old new : JobState) (event : Event) → Takes old event new → new.given ≡ old.given
given_after old new event takes = ap (λ (job : JobState). job.given) takes.next

vertices_after : (old new : JobState) (event : Event) → Takes old event new → new.state.vertices ≡ (after old.given old.state event).vertices
vertices_after old new event takes = ap (λ (job : JobState). job.state.vertices) takes.next

-- an event that leaves the vertices
pub kept_after : (old new : JobState) (event : Event) (attempts : Attempts) (marks : List (List Bool)) → IsKept old attempts marks → Takes old event new
    → (after old.given old.state event).vertices ≡ old.state.vertices → IsKept new attempts marks
kept_after old new event attempts marks kept takes is = kept_same old new attempts marks kept (given_after old new event takes) (vertices_after old new event takes ∙ is)

-- an event that leaves the vertices, or a refusal
pub kept_either : {T E : Type 0} (r : Result T E) (old new : JobState) (event : Event) (attempts : Attempts) (marks : List (List Bool)) → IsKept old attempts marks
    → (after old.given old.state event).vertices ≡ old.state.vertices → OnOk r (Takes old event new) → OnErr r (new ≡ old) → IsKept new attempts marks
kept_either r old new event attempts marks kept is ok err = either r
    (on_ok_weaker r (λ (takes : Takes old event new). kept_after old new event attempts marks kept takes is) ok)
    (on_err_weaker r (λ (same : new ≡ old). kept_unchanged old new attempts marks kept same) err)

pub kept_made : (old new : JobState) (vertex : ℕ) (nodes : List ℕ) (attempts : Attempts) (marks : List (List Bool)) → plan_faults old.given.nodes ≡ [] → IsValid old.given old.state
    → IsKept old attempts marks → Takes old (Made vertex nodes) new → IsKept new attempts marks
kept_made old new vertex nodes attempts marks good valid kept takes =
    let given = old.given in
    let event : Event = Made vertex nodes in
    let made = made_of given old.state nodes in
    let few : length (old.state.vertices ++ made ∷ []) ≤ length given.nodes = few_vertices given (after given old.state event) (valid_after given old.state event good valid takes.legal) in
    let long = length_push old.state.vertices made in
    let room = kept.room in
    kept_next old new (old.state.vertices ++ made ∷ []) attempts attempts marks marks kept (given_after old new event takes) (vertices_after old new event takes)
    (readiness_made given old.state vertex nodes good valid takes.legal attempts marks kept.ready (omega (arith, few, long, room))) refl

pub kept_decided : (old new : JobState) (vertex : ℕ) (decision : List Reads) (attempts : Attempts) (marks : List (List Bool)) → IsValid old.given old.state
    → IsKept old attempts marks → Takes old (Decided vertex decision) new → IsKept new attempts (set marks vertex (replicate (length decision) true))
kept_decided old new vertex decision attempts marks valid kept takes =
    let event : Event = Decided vertex decision in
    kept_next old new (after old.given old.state event).vertices attempts attempts marks (set marks vertex (replicate (length decision) true)) kept
    (given_after old new event takes) (vertices_after old new event takes)
    (readiness_decided old.given old.state vertex decision valid takes.legal attempts marks kept.ready) (length-set marks vertex (replicate (length decision) true))

pub kept_won : (old new : JobState) (name : PartName) (inputs : List PartName) (sizes : List (List ℕ)) (touched : List Sub) (attempts : Attempts) (marks next : List (List Bool))
    → IsKept old attempts marks → Takes old (Done name inputs sizes) new → AreTouched old.state.vertices (sub_of name ∷ []) touched
    → IsRefreshed new.state.vertices attempts touched marks next → IsKept new attempts next
kept_won old new name inputs sizes touched attempts marks next kept takes are fresh =
    let event : Event = Done name inputs sizes in
    let win : Won = record { name = name; inputs = inputs; sizes = sizes } in
    let vs = old.state.vertices in
    let own = sub_of name in
    let us = put_winner vs own (Some win) in
    let is : new.state.vertices ≡ us = vertices_after old new event takes in
    kept_next old new us attempts attempts marks next kept (given_after old new event takes) is
    (readiness_touched vs us attempts (own ∷ []) touched marks next kept.ready (put-keeps vs own (Some win))
    (λ sub apart. put-other vs own sub (Some win) (λ same. apart (subst (λ (s : Sub). Contains (own ∷ []) s) (sym same) (Contains-get_or (own ∷ []) 0 own (omega arith)))))
    are (subst (λ (l : List MadeVertex). IsRefreshed l attempts touched marks next) is fresh)) fresh.len

-- what was touched is decided once winners went
pub decided_reset : (old new : JobState) (gone : List PartName) (subs touched : List Sub) → Takes old (Reset gone subs) new → AreTouched old.state.vertices subs touched
    → All (IsDecidedSub new.state.vertices) touched
decided_reset old new gone subs touched takes are k d lt =
    let vs = old.state.vertices in
    let us = without_winners vs subs in
    let sub = get_or touched k d in
    subst (λ (l : List MadeVertex). IsDecidedSub l sub) (sym (vertices_after old new (Reset gone subs) takes))
    (subst (λ (n : ℕ). sub.subtask < n) (sym (same_count vs us (without-keeps vs subs) sub.vertex)) (are.decided k d lt))

pub kept_reset : (old new : JobState) (gone : List PartName) (subs touched : List Sub) (attempts : Attempts) (marks next : List (List Bool))
    → IsKept old attempts marks → Takes old (Reset gone subs) new → AreTouched old.state.vertices subs touched
    → IsRefreshed new.state.vertices attempts touched marks next → IsKept new attempts next
kept_reset old new gone subs touched attempts marks next kept takes are fresh =
    let event : Event = Reset gone subs in
    let vs = old.state.vertices in
    let us = without_winners vs subs in
    let is : new.state.vertices ≡ us = vertices_after old new event takes in
    let keeps = without-keeps vs subs in
    kept_next old new us attempts attempts marks next kept (given_after old new event takes) is
    (readiness_touched vs us attempts subs touched marks next kept.ready keeps (λ sub apart. without-other vs subs sub apart)
    are (subst (λ (l : List MadeVertex). IsRefreshed l attempts touched marks next) is fresh)) fresh.len

-- and each subtask has its mark
pub marked_reset : (old new : JobState) (gone : List PartName) (subs : List Sub) (attempts : Attempts) (marks : List (List Bool)) → IsKept old attempts marks
    → Takes old (Reset gone subs) new → AreMarked new.state.vertices marks
marked_reset old new gone subs attempts marks kept takes v =
    let vs = old.state.vertices in
    let us = without_winners vs subs in
    kept.ready.sizes v ∙ sym (same_count vs us (without-keeps vs subs) v)
    ∙ ap (λ (l : List MadeVertex). length (subtasks_at l v)) (sym (vertices_after old new (Reset gone subs) takes))

pub kept_deployed : (job : JobState) (old new : Attempts) (name : PartName) (marks : List (List Bool)) → IsKept job old marks
    → IsDecidedSub job.state.vertices (sub_of name) → new.running ≡ old.running ++ name ∷ [] → IsKept job new (put_mark marks (sub_of name) false)
kept_deployed job old new name marks kept decided is =
    let ready = readiness_deployed job.state.vertices old new name marks kept.ready decided is in
    kept_next job job job.state.vertices old new marks (put_mark marks (sub_of name) false) kept refl refl ready
    (length-set marks name.vertex (set (group_at marks name.vertex) name.subtask false))

pub kept_dropped : (job : JobState) (attempts : Attempts) (name : PartName) (marks next : List (List Bool)) → IsKept job attempts marks
    → IsRefreshed job.state.vertices (without_name attempts name) (sub_of name ∷ []) marks next → IsKept job (without_name attempts name) next
kept_dropped job attempts name marks next kept fresh =
    let new = without_name attempts name in
    kept_next job job job.state.vertices attempts new marks next kept refl refl (readiness_dropped job.state.vertices attempts new name marks next kept.ready refl fresh) fresh.len

pub kept_undropped : (job : JobState) (attempts : Attempts) (name : PartName) (marks : List (List Bool)) → IsKept job attempts marks
    → (IsDecidedSub job.state.vertices (sub_of name) → ⊥) → IsKept job (without_name attempts name) marks
kept_undropped job attempts name marks kept undecided =
    let new = without_name attempts name in
    kept_next job job job.state.vertices attempts new marks marks kept refl refl (readiness_undropped job.state.vertices attempts new name marks kept.ready undecided refl) refl
