-- What stays where winners come and go.
use Rattle.std.proofs.Common.{◌≡◌, ℕ, zero, suc, ◌<◌, ◌≤◌, List, [], ◌∷◌, length, get_or, set, Option, Some, None, refl, sym, ◌∙◌, ap, subst, arith, All, inl, inr, ⊎_elim}
use Rattle.std.specs.Prelude.{⊤, ◌⊎◌, Contains}
use Rattle.std.specs.List.{AllZip}
use Rattle.std.specs.Option.{MatchOption}
use Rattle.std.proofs.lemmas.Bool.{cases_eq, cases_lt}
use Rattle.std.proofs.lemmas.List.{length-set, length-map, get_or-set_same, get_or-set_other, set_past, get_or_past}
use Rattle.std.proofs.lemmas.List.Elements.{Contains-append_right, Contains-append_cases, Contains-get_or}
use Rattle.rect_cover.specs.Cells.{Reads}
use Rattle.estate.specs.declared.part_name.PartName.{PartName}
use Rattle.vertex_builder.specs.declared.vertex.Vertex.{Vertex}
use Rattle.vertex_builder.specs.declared.vertex_input.VertexInput.{VertexInput}
use Rattle.graph_model.specs.declared.sub.Sub.{Sub}
use Rattle.graph_model.specs.declared.made_vertex.MadeVertex.{MadeVertex}
use Rattle.graph_model.specs.declared.subtask_state.SubtaskState.{SubtaskState}
use Rattle.graph_model.specs.declared.win.Win.{Win}
use Rattle.graph_model.specs.Legal.{IsNamed}
use Rattle.graph_model.specs.States.{no_vertex, no_subtask, vertex_at, subtasks_at, subtask_at, winner_at, maker, with_winner, put_winner, without_winners}
use Rattle.graph_model.specs.Reads.{ReadEdge, inputs_edges, read_edges}
use Rattle.graph_model.specs.Valid.{decision_of}
use Rattle.graph_model.proofs.Items.{none_is_some, get_or-map, in_nothing, in_one}
use Rattle.graph_model.proofs.Same.{SameNode, SameInput, inputs_edges-same, maker-set}

-- vertices that are the same but for winners
pub record KeepsReads (vs us : List MadeVertex) : Type 0 where
  pub len : length us ≡ length vs
  pub vertex : (v : ℕ) → (vertex_at us v).vertex ≡ (vertex_at vs v).vertex
  pub reads : (v : ℕ) → decision_of (subtasks_at us v) ≡ decision_of (subtasks_at vs v)
  pub makers : (node : ℕ) → maker us node ≡ maker vs node

pub keeps_refl : (vs : List MadeVertex) → KeepsReads vs vs
keeps_refl vs = record { len = refl; vertex = λ v. refl; reads = λ v. refl; makers = λ node. refl }

pub keeps_both : (vs us ws : List MadeVertex) → KeepsReads vs us → KeepsReads us ws → KeepsReads vs ws
keeps_both vs us ws a b = record {
  len = b.len ∙ a.len;
  vertex = λ v. b.vertex v ∙ a.vertex v;
  reads = λ v. b.reads v ∙ a.reads v;
  makers = λ node. b.makers node ∙ a.makers node;
}

pub same_count : (vs us : List MadeVertex) → KeepsReads vs us → (v : ℕ) → length (subtasks_at us v) ≡ length (subtasks_at vs v)
same_count vs us keeps v =
    sym (length-map (subtasks_at us v) (λ (t : SubtaskState). t.reads)) ∙ ap length (keeps.reads v) ∙ length-map (subtasks_at vs v) (λ (t : SubtaskState). t.reads)

pub same_node : (vs us : List MadeVertex) → KeepsReads vs us → (node : ℕ) → SameNode us vs node
same_node vs us keeps node =
    (keeps.makers node, ap (λ (v : ℕ). length (subtasks_at us v)) (keeps.makers node) ∙ same_count vs us keeps (maker vs node))

same_from : (vs us : List MadeVertex) → KeepsReads vs us → (from : Option ℕ) → MatchOption from ⊤ (λ node. SameNode us vs node)
same_from vs us keeps None = tt
same_from vs us keeps (Some node) = same_node vs us keeps node

pub same_inputs : (vs us : List MadeVertex) → KeepsReads vs us → (inputs : List VertexInput) → All (SameInput us vs) inputs
same_inputs vs us keeps inputs k d lt = same_from vs us keeps (get_or inputs k d).from

pub reads_at : (subtasks : List SubtaskState) (k : ℕ) → (get_or subtasks k no_subtask).reads ≡ get_or (decision_of subtasks) k []
reads_at subtasks k = sym (get_or-map (λ (t : SubtaskState). t.reads) subtasks k no_subtask)

-- a subtask reads the same
pub edges-same : (vs us : List MadeVertex) → KeepsReads vs us → (sub : Sub) → read_edges us sub ≡ read_edges vs sub
edges-same vs us keeps sub =
    let of : Vertex → Reads → List ReadEdge = λ vertex reads. inputs_edges us vertex.inputs 0 reads in
    let a : (subtask_at us sub).reads ≡ (subtask_at vs sub).reads =
    reads_at (subtasks_at us sub.vertex) sub.subtask ∙ ap (λ (l : List Reads). get_or l sub.subtask []) (keeps.reads sub.vertex) ∙ sym (reads_at (subtasks_at vs sub.vertex) sub.subtask) in
    ap (λ (vertex : Vertex). of vertex (subtask_at us sub).reads) (keeps.vertex sub.vertex)
    ∙ ap (of (vertex_at vs sub.vertex).vertex) a
    ∙ inputs_edges-same us vs (vertex_at vs sub.vertex).vertex.inputs 0 (subtask_at vs sub).reads (same_inputs vs us keeps (vertex_at vs sub.vertex).vertex.inputs)

-- ---- one winner

-- a vertex with a subtask is one of the list
pub in_range : (vs : List MadeVertex) (v : ℕ) → 0 < length (subtasks_at vs v) → v < length vs
in_range vs v some = ⊎_elim (λ (lt : v < length vs). lt)
    (λ (le : length vs ≤ v). absurd (omega (arith, subst (λ (made : MadeVertex). 0 < length made.subtasks) (get_or_past vs v no_vertex le) some))) (cases_lt v (length vs))

-- what holds of the changed vertex and of the vertex that stood there holds of each place
pub at_each : (P : MadeVertex → MadeVertex → Type 0) (vs : List MadeVertex) (v : ℕ) (made : MadeVertex) → ((m : MadeVertex) → P m m) → P made (vertex_at vs v)
    → (u : ℕ) → P (vertex_at (set vs v made) u) (vertex_at vs u)
at_each P vs v made same here u = ⊎_elim
    (λ (is : u ≡ v). ⊎_elim
    (λ (lt : v < length vs). subst (λ (k : ℕ). P (vertex_at (set vs v made) k) (vertex_at vs k)) (sym is) (subst (λ (m : MadeVertex). P m (vertex_at vs v)) (sym (get_or-set_same vs v made no_vertex lt)) here))
    (λ (le : length vs ≤ v). subst (λ (l : List MadeVertex). P (vertex_at l u) (vertex_at vs u)) (sym (set_past vs v made le)) (same (vertex_at vs u)))
    (cases_lt v (length vs)))
    (λ (ne : u ≡ v → ⊥). subst (λ (m : MadeVertex). P m (vertex_at vs u)) (sym (get_or-set_other vs v u made no_vertex ne)) (same (vertex_at vs u)))
    (cases_eq u v)

same_reads : (subtasks : List SubtaskState) (k : ℕ) (winner : Option Win) → decision_of (set subtasks k (record (get_or subtasks k no_subtask) { winner = winner })) ≡ decision_of subtasks
same_reads [] k winner = refl
same_reads (t ∷ subtasks) zero winner = refl
same_reads (t ∷ subtasks) (suc k) winner = ap (λ (l : List Reads). t.reads ∷ l) (same_reads subtasks k winner)

pub put-keeps : (vs : List MadeVertex) (sub : Sub) (winner : Option Win) → KeepsReads vs (put_winner vs sub winner)
put-keeps vs sub winner =
    let made : MadeVertex = with_winner (vertex_at vs sub.vertex) sub.subtask winner in
    record {
      len = length-set vs sub.vertex made;
      vertex = at_each (λ a b. a.vertex ≡ b.vertex) vs sub.vertex made (λ m. refl) refl;
      reads = at_each (λ a b. decision_of a.subtasks ≡ decision_of b.subtasks) vs sub.vertex made (λ m. refl) (same_reads (vertex_at vs sub.vertex).subtasks sub.subtask winner);
      makers = λ node. maker-set vs sub.vertex node made refl;
    }

-- the winner of a subtask that is decided
pub put-same : (vs : List MadeVertex) (sub : Sub) (winner : Option Win) → sub.subtask < length (subtasks_at vs sub.vertex) → winner_at (put_winner vs sub winner) sub ≡ winner
put-same vs sub winner lt =
    let made : MadeVertex = with_winner (vertex_at vs sub.vertex) sub.subtask winner in
    let at = get_or-set_same vs sub.vertex made no_vertex (in_range vs sub.vertex (omega (arith, lt))) in
    let t : SubtaskState = record (get_or (subtasks_at vs sub.vertex) sub.subtask no_subtask) { winner = winner } in
    ap (λ (m : MadeVertex). (get_or m.subtasks sub.subtask no_subtask).winner) at
    ∙ ap (λ (t : SubtaskState). t.winner) (get_or-set_same (subtasks_at vs sub.vertex) sub.subtask t no_subtask lt)

pub same_sub : (a b : Sub) → a.vertex ≡ b.vertex → a.subtask ≡ b.subtask → a ≡ b
same_sub a b v k =
    let at : ℕ → Sub = λ n. record { vertex = n; subtask = a.subtask } in
    let of : ℕ → Sub = λ n. record { vertex = b.vertex; subtask = n } in
    ap at v ∙ ap of k

-- another's winner
pub put-other : (vs : List MadeVertex) (sub other : Sub) (winner : Option Win) → (other ≡ sub → ⊥) → winner_at (put_winner vs sub winner) other ≡ winner_at vs other
put-other vs sub other winner ne =
    let made : MadeVertex = with_winner (vertex_at vs sub.vertex) sub.subtask winner in
    let t : SubtaskState = record (get_or (subtasks_at vs sub.vertex) sub.subtask no_subtask) { winner = winner } in
    ⊎_elim
    (λ (is : other.vertex ≡ sub.vertex).
    let apart : other.subtask ≡ sub.subtask → ⊥ = λ same. ne (same_sub other sub is same) in
    at_each (λ a b. other.vertex ≡ sub.vertex → (get_or a.subtasks other.subtask no_subtask).winner ≡ (get_or b.subtasks other.subtask no_subtask).winner)
    vs sub.vertex made (λ m _. refl)
    (λ _. ap (λ (t : SubtaskState). t.winner) (get_or-set_other (subtasks_at vs sub.vertex) sub.subtask other.subtask t no_subtask apart)) other.vertex is)
    (λ (differ : other.vertex ≡ sub.vertex → ⊥). ap (λ (m : MadeVertex). (get_or m.subtasks other.subtask no_subtask).winner) (get_or-set_other vs sub.vertex other.vertex made no_vertex differ))
    (cases_eq other.vertex sub.vertex)

pub cases_sub : (a b : Sub) → (a ≡ b) ⊎ (a ≡ b → ⊥)
cases_sub a b = ⊎_elim
    (λ (v : a.vertex ≡ b.vertex). ⊎_elim (λ (k : a.subtask ≡ b.subtask). inl (same_sub a b v k)) (λ (ne : a.subtask ≡ b.subtask → ⊥). inr (λ (e : a ≡ b). ne (ap (λ (s : Sub). s.subtask) e))) (cases_eq a.subtask b.subtask))
    (λ (ne : a.vertex ≡ b.vertex → ⊥). inr (λ (e : a ≡ b). ne (ap (λ (s : Sub). s.vertex) e)))
    (cases_eq a.vertex b.vertex)

-- ---- several winners

-- the names of what is read stay where their winners do
pub named_kept : (vs us : List MadeVertex) (edges : List ReadEdge) (names : List PartName)
    → ((edge : ReadEdge) (name : PartName) → Contains edges edge → IsNamed vs edge name → IsNamed us edge name)
    → AllZip (IsNamed vs) edges names → AllZip (IsNamed us) edges names
named_kept vs us [] [] keeps h = tt
named_kept vs us [] (name ∷ names) keeps h = absurd h
named_kept vs us (edge ∷ edges) [] keeps h = absurd h
named_kept vs us (edge ∷ edges) (name ∷ names) keeps (here, rest) = (
  keeps edge name (Contains-get_or (edge ∷ edges) 0 edge (omega arith)) here,
  named_kept vs us edges names (λ e n has says. keeps e n (Contains-append_right (edge ∷ []) edges e has) says) rest,
)

pub without-keeps : (vs : List MadeVertex) (subs : List Sub) → KeepsReads vs (without_winners vs subs)
without-keeps vs [] = keeps_refl vs
without-keeps vs (sub ∷ subs) = keeps_both vs (put_winner vs sub None) (without_winners (put_winner vs sub None) subs) (put-keeps vs sub None) (without-keeps (put_winner vs sub None) subs)

past : (subtasks : List SubtaskState) (k : ℕ) → length subtasks ≤ k → (get_or subtasks k no_subtask).winner ≡ None
past subtasks k le = ap (λ (t : SubtaskState). t.winner) (get_or_past subtasks k no_subtask le)

put-none : (vs : List MadeVertex) (sub : Sub) → winner_at (put_winner vs sub None) sub ≡ None
put-none vs sub = ⊎_elim
    (λ (lt : sub.subtask < length (subtasks_at vs sub.vertex)). put-same vs sub None lt)
    (λ (le : length (subtasks_at vs sub.vertex) ≤ sub.subtask).
    let count = same_count vs (put_winner vs sub None) (put-keeps vs sub None) sub.vertex in
    past (subtasks_at (put_winner vs sub None) sub.vertex) sub.subtask (omega (arith, le, count)))
    (cases_lt sub.subtask (length (subtasks_at vs sub.vertex)))

put-gone : (vs : List MadeVertex) (sub other : Sub) (win : Win) → sub ≡ other → winner_at (put_winner vs other None) sub ≡ Some win → ⊥
put-gone vs sub other win same e = none_is_some win (sym (put-none vs other) ∙ subst (λ (s : Sub). winner_at (put_winner vs other None) s ≡ Some win) same e)

-- a winner that is left is that of before, and none is left of these subtasks
pub without-was : (vs : List MadeVertex) (subs : List Sub) (sub : Sub) (win : Win) → winner_at (without_winners vs subs) sub ≡ Some win → winner_at vs sub ≡ Some win
without-was vs [] sub win e = e
without-was vs (other ∷ subs) sub win e =
    let before = without-was (put_winner vs other None) subs sub win e in
    ⊎_elim
    (λ (same : sub ≡ other). absurd (put-gone vs sub other win same before))
    (λ (ne : sub ≡ other → ⊥). sym (put-other vs other sub None ne) ∙ before)
    (cases_sub sub other)

-- the winner of another subtask than these
pub without-other : (vs : List MadeVertex) (subs : List Sub) (sub : Sub) → (Contains subs sub → ⊥) → winner_at (without_winners vs subs) sub ≡ winner_at vs sub
without-other vs [] sub apart = refl
without-other vs (other ∷ subs) sub apart =
    without-other (put_winner vs other None) subs sub (λ has. apart (Contains-append_right (other ∷ []) subs sub has))
    ∙ put-other vs other sub None (λ same. apart (subst (λ (s : Sub). Contains (other ∷ subs) s) (sym same) (Contains-get_or (other ∷ subs) 0 other (omega arith))))

-- none of these subtasks has one
pub without-gone : (vs : List MadeVertex) (subs : List Sub) (sub : Sub) (win : Win) → Contains subs sub → winner_at (without_winners vs subs) sub ≡ Some win → ⊥
without-gone vs [] sub win has e = in_nothing sub has
without-gone vs (other ∷ subs) sub win has e = ⊎_elim
    (λ (first : Contains (other ∷ []) sub). put-gone vs sub other win (in_one other sub first) (without-was (put_winner vs other None) subs sub win e))
    (λ (rest : Contains subs sub). without-gone (put_winner vs other None) subs sub win rest e)
    (Contains-append_cases (other ∷ []) subs sub has)
