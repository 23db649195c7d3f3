-- How the numbers of subtasks without a winner change.
use Rattle.std.proofs.Common.{◌≡◌, ℕ, ◌+◌, ◌-◌, ◌<◌, not, cond, Option, List, [], ◌∷◌, ◌++◌, length, get_or, set, sym, ◌∙◌, ap, arith}
use Rattle.std.specs.Option.{is_some}
use Rattle.std.proofs.lemmas.List.{map-append, map-set}
use Rattle.std.proofs.lemmas.List.Sums.{sum_by-set}
use Rattle.graph_model.specs.declared.made_vertex.MadeVertex.{MadeVertex}
use Rattle.graph_model.specs.declared.sub.Sub.{Sub}
use Rattle.graph_model.specs.declared.win.Win.{Win}
use Rattle.graph_model.specs.States.{no_subtask, no_vertex, put_winner, subtasks_at, vertex_at, winner_at, with_winner}
use Rattle.graph_model.proofs.Laws.{get_or-map}
use Rattle.graph_vertices.specs.Counts.{AreCounts, is_unwon, unwon_count}

count_at : (vs : List MadeVertex) (counts : List ℕ) (v : ℕ) → AreCounts vs counts → get_or counts v 0 ≡ unwon_count (vertex_at vs v)
count_at vs counts v are = ap (λ (l : List ℕ). get_or l v 0) are ∙ get_or-map unwon_count vs v no_vertex

pub counts_push : (vs : List MadeVertex) (counts : List ℕ) (made : MadeVertex) → AreCounts vs counts → AreCounts (vs ++ made ∷ []) (counts ++ unwon_count made ∷ [])
counts_push vs counts made are = ap (λ (l : List ℕ). l ++ unwon_count made ∷ []) are ∙ sym (map-append unwon_count vs (made ∷ []))

pub counts_set : (vs : List MadeVertex) (counts : List ℕ) (v : ℕ) (made : MadeVertex) → AreCounts vs counts → AreCounts (set vs v made) (set counts v (unwon_count made))
counts_set vs counts v made are = ap (λ (l : List ℕ). set l v (unwon_count made)) are ∙ sym (map-set unwon_count vs v made)

-- a winner comes or goes
count_put : (made : MadeVertex) (k : ℕ) (winner : Option Win) → k < length made.subtasks
    → unwon_count (with_winner made k winner) + cond (not (is_some (get_or made.subtasks k no_subtask).winner)) 1 0 ≡ unwon_count made + cond (not (is_some winner)) 1 0
count_put made k winner lt = sum_by-set (λ t. cond (is_unwon t) 1 0) made.subtasks k (record (get_or made.subtasks k no_subtask) { winner = winner }) no_subtask lt

-- as many as before, less the winner that came, or more the one that went
pub counts_put : (vs : List MadeVertex) (counts : List ℕ) (sub : Sub) (winner : Option Win) (before after now : ℕ) → AreCounts vs counts
    → sub.subtask < length (subtasks_at vs sub.vertex) → before ≡ cond (not (is_some (winner_at vs sub))) 1 0 → after ≡ cond (not (is_some winner)) 1 0
    → now ≡ (get_or counts sub.vertex 0 + after) - before → AreCounts (put_winner vs sub winner) (set counts sub.vertex now)
counts_put vs counts sub winner before after now are lt was is e =
    let put = count_put (vertex_at vs sub.vertex) sub.subtask winner lt in
    let at = count_at vs counts sub.vertex are in
    let same : now ≡ unwon_count (with_winner (vertex_at vs sub.vertex) sub.subtask winner) = omega (arith, put, at, was, is, e) in
    ap (λ (n : ℕ). set counts sub.vertex n) same ∙ counts_set vs counts sub.vertex (with_winner (vertex_at vs sub.vertex) sub.subtask winner) are
