-- Marks of subtasks, and the winners' parts of those that are not marked.
use Rattle.std.proofs.Common.{◌≡◌, ◌≢◌, ℕ, ◌+◌, ◌<◌, ◌≤◌, Bool, true, false, List, [], ◌∷◌, ◌++◌, length, get_or, set, take, Option, Some, None, IsTrue, Contains, refl, sym, ap, subst, ◌∙◌, arith, inl, inr, ⊎_elim}
use Rattle.std.specs.Prelude.{◌⊎◌, ◌↔◌}
use Rattle.std.specs.Option.{option_map, option_map_or}
use Rattle.std.proofs.lemmas.Bool.{cases_lt}
use Rattle.std.proofs.lemmas.List.{get_or_default, get_or_past, get_or-set_same, get_or-set_other, length-set, take_more}
use Rattle.std.proofs.lemmas.List.Elements.{Contains-append_cases, Contains-append_left, Contains-push}
use Rattle.std.proofs.lemmas.List.Quantifiers.{all_pairs_push}
use Rattle.estate.specs.Parts.{is_same_name}
use Rattle.estate.specs.Parts.{IsBefore as Precedes}
use Rattle.estate.specs.declared.part_name.PartName.{PartName}
use Rattle.estate.proofs.Laws.{name_itself, names_apart}
use Rattle.event_graph.specs.Numbers.{IsNumbering, Numbering, number_of}
use Rattle.graph_model.specs.Closures.{IsBefore}
use Rattle.graph_model.specs.Indexes.{sub_at}
use Rattle.graph_model.specs.States.{Given, State, no_subtask, sub_of, subtasks_at, winner_at, winner_name}
use Rattle.graph_model.specs.Valid.{IsValid}
use Rattle.graph_model.specs.declared.made_vertex.MadeVertex.{MadeVertex}
use Rattle.graph_model.specs.declared.sub.Sub.{Sub}
use Rattle.graph_model.specs.declared.subtask_state.SubtaskState.{SubtaskState}
use Rattle.graph_model.specs.declared.win.Win.{Win}
use Rattle.graph_model.proofs.Laws.{cases_sub, in_nothing, in_one, in_range, same_sub}
use Rattle.graph_vertices.specs.Winning.{IsPresent}
use Rattle.core_model.specs.Moves.{AreGone}
use Rattle.core_model.specs.Slowness.{is_present}
use Rattle.recover_core.specs.Gone.{AddsGone, AreHeld, AreOwn, GoneBefore, IsDecidedSub, IsMarked, Notes}

-- a winner's subtask is decided
pub won_sub : (vertices : List MadeVertex) (sub : Sub) (name : PartName) → winner_name vertices sub ≡ Some name → IsDecidedSub vertices sub
won_sub vertices sub name won = ⊎_elim
    (λ (lt : sub.subtask < length (subtasks_at vertices sub.vertex)). lt)
    (λ (le : length (subtasks_at vertices sub.vertex) ≤ sub.subtask).
    let none : winner_name vertices sub ≡ None = ap (λ (t : SubtaskState). option_map (λ (win : Win). win.name) t.winner) (get_or_past (subtasks_at vertices sub.vertex) sub.subtask no_subtask le) in
    absurd (cc (sym none ∙ won)))
    (cases_lt sub.subtask (length (subtasks_at vertices sub.vertex)))

some_same : (a b : PartName) → Some a ≡ Some b → a ≡ b
some_same a b e = cc

record IsNamedBy (found : Option Win) (name : PartName) : Type 0 where
  win : Win
  is : found ≡ Some win
  named : win.name ≡ name

named_by : (found : Option Win) (name : PartName) → option_map (λ win. win.name) found ≡ Some name → IsNamedBy found name
named_by None name e = absurd cc
named_by (Some win) name e = record { win = win; is = refl; named = some_same win.name name e }

-- a valid state's winners are their subtasks' own
pub owns : (given : Given) (state : State) → IsValid given state → (vertices : List MadeVertex) → vertices ≡ state.vertices → AreOwn vertices
owns given state valid vertices same sub name won =
    let by = named_by (winner_at vertices sub) name won in
    let at : winner_at state.vertices sub ≡ Some by.win = subst (λ (v : List MadeVertex). winner_at v sub ≡ Some by.win) same by.is in
    subst (λ (n : PartName). sub_of n ≡ sub) by.named (valid.winners sub by.win at).own

module _ (vertices : List MadeVertex) (numbering : Numbering) (numbered : IsNumbering vertices numbering) where
  -- each decided subtask has a number of its own
  pub same_number : (a b : Sub) → IsDecidedSub vertices a → IsDecidedSub vertices b → number_of numbering a ≡ number_of numbering b → a ≡ b
  same_number a b in_a in_b same = sym (numbered.numbered a in_a).is ∙ ap (sub_at numbering.subs) same ∙ (numbered.numbered b in_b).is

  module _ (own : AreOwn vertices) where
    pub note_present : (name : PartName) (marks : List Bool) → IsPresent vertices name → length marks ≡ length numbering.subs → Notes vertices numbering name marks (set marks (number_of numbering (sub_of name)) true)
    note_present name marks is long =
        let n = number_of numbering (sub_of name) in
        let decided = won_sub vertices (sub_of name) name is in
        let inside = (numbered.numbered (sub_of name) decided).within in
        let lt : n < length marks = omega (arith, inside, long) in record {
          len = length-set marks n true;
          each = λ sub in_sub. ⊎_elim
              (λ (e : sub ≡ sub_of name).
              let P : Sub → Type 0 = λ s. IsMarked numbering (set marks n true) s ↔ (IsMarked numbering marks s ⊎ (winner_name vertices s ≡ Some name)) in
              let here : P (sub_of name) = ((λ _. inr is), (λ _. get_or-set_same marks n true false lt)) in
              subst P (sym e) here)
              (λ (ne : sub ≡ sub_of name → ⊥).
              let other : number_of numbering sub ≢ n = λ e. ne (same_number sub (sub_of name) in_sub decided e) in
              let keeps = get_or-set_other marks n (number_of numbering sub) true false other in
              ((λ marked. inl (sym keeps ∙ marked)), (λ either. ⊎_elim (λ old. keeps ∙ old) (λ won. absurd (ne (sym (own sub name won)))) either)))
              (cases_sub sub (sub_of name));
        }

    pub note_absent : (name : PartName) (marks : List Bool) → (IsPresent vertices name → ⊥) → Notes vertices numbering name marks marks
    note_absent name marks absent = record {
      len = refl;
      each = λ sub in_sub. ((λ marked. inl marked), (λ either. ⊎_elim (λ old. old) (λ won. absurd (absent (subst (λ (s : Sub). winner_name vertices s ≡ Some name) (sym (own sub name won)) won))) either));
    }

  -- none is marked
  pub held_none : (marks : List Bool) → length marks ≡ length numbering.subs → ((k : ℕ) → k < length marks → get_or marks k false ≡ false) → AreHeld vertices numbering [] marks
  held_none marks long clear = record {
    len = long;
    each = λ sub decided.
        let within = (numbered.numbered sub decided).within in
        let unmarked = clear (number_of numbering sub) (omega (arith, within, long)) in
        ((λ marked. absurd (cc (sym unmarked ∙ marked))), (λ held. absurd (in_nothing held.0 held.2)));
  }

  -- one name more
  pub held_more : (names : List PartName) (i : ℕ) (name : PartName) (old new : List Bool) → i < length names → name ≡ get_or names i name → AreHeld vertices numbering (take i names) old
      → Notes vertices numbering name old new → AreHeld vertices numbering (take (i + 1) names) new
  held_more names i name old new lt is held notes =
      let Q : PartName → Type 0 = λ x. take (i + 1) names ≡ take i names ++ x ∷ [] in
      let taken : take (i + 1) names ≡ take i names ++ name ∷ [] = subst Q (sym is) (take_more names i name lt) in
      subst (λ (l : List PartName). AreHeld vertices numbering l new) (sym taken) (record {
        len = notes.len ∙ held.len;
        each = λ sub decided. (
          (λ marked. ⊎_elim
              (λ was. let it = ((held.each sub decided).0 was) in (it.0, it.1, Contains-append_left (take i names) (name ∷ []) it.0 it.2))
              (λ won. (name, won, Contains-push (take i names) name))
              ((notes.each sub decided).0 marked)),
          (λ it. (notes.each sub decided).1 (⊎_elim
              (λ was. inl ((held.each sub decided).1 (it.0, it.1, was)))
              (λ last. inr (subst (λ (x : PartName). winner_name vertices sub ≡ Some x) (in_one name it.0 last) it.1))
              (Contains-append_cases (take i names) (name ∷ []) it.0 it.2))),
        );
      })

-- ---- what is gone

before_next : (a : Sub) (v k : ℕ) → IsBefore a (record { vertex = v; subtask = k + 1 }) → IsBefore a (record { vertex = v; subtask = k }) ⊎ (a ≡ record { vertex = v; subtask = k })
before_next a v k (inl lt) = inl (inl lt)
before_next a v k (inr (same, lt)) = ⊎_elim
    (λ (less : a.subtask < k). inl (inr (same, less)))
    (λ (le : k ≤ a.subtask). inr (same_sub a (record { vertex = v; subtask = k }) same (omega arith)))
    (cases_lt a.subtask k)

next_before : (a : Sub) (v k : ℕ) → IsBefore a (record { vertex = v; subtask = k }) → IsBefore a (record { vertex = v; subtask = k + 1 })
next_before a v k (inl lt) = inl lt
next_before a v k (inr (same, lt)) = inr (same, omega arith)

itself_next : (a : Sub) (v k : ℕ) → a ≡ record { vertex = v; subtask = k } → IsBefore a (record { vertex = v; subtask = k + 1 })
itself_next a v k e = subst (λ (s : Sub). IsBefore s (record { vertex = v; subtask = k + 1 })) (sym e) (inr (refl, omega arith))

name_before : (a b : PartName) → IsBefore (sub_of a) (sub_of b) → Precedes a b
name_before a b (inl lt) = inl lt
name_before a b (inr both) = inr (inl both)

module _ (vertices : List MadeVertex) (numbering : Numbering) (marks : List Bool) (own : AreOwn vertices) where
  pub gone_none : GoneBefore vertices numbering marks (record { vertex = 0; subtask = 0 }) []
  gone_none = record {
    ascending = λ i j d below within. absurd (omega (arith, within));
    are = λ name. ((λ has. absurd (in_nothing name has)), (λ it. absurd (nothing (sub_of name) it.0)));
  }
    where
      nothing : (a : Sub) → IsBefore a (record { vertex = 0; subtask = 0 }) → ⊥
      nothing a (inl lt) = omega (arith, lt)
      nothing a (inr both) = omega (arith, both.1)

  module _ (v k : ℕ) (old new : List PartName) (before : GoneBefore vertices numbering marks (record { vertex = v; subtask = k }) old) where
    abbrev here : Sub
    here = record { vertex = v; subtask = k }

    pub gone_more : AddsGone vertices numbering marks here old new → GoneBefore vertices numbering marks (record { vertex = v; subtask = k + 1 }) new
    gone_more (inl (same, marked)) = subst (GoneBefore vertices numbering marks (record { vertex = v; subtask = k + 1 })) (sym same) (record {
      ascending = before.ascending;
      are = λ name. (
        (λ has. let it = (before.are name).0 has in (next_before (sub_of name) v k it.0, it.1, it.2)),
        (λ it. ⊎_elim
            (λ earlier. (before.are name).1 (earlier, it.1, it.2))
            (λ (e : sub_of name ≡ here). absurd (it.2 (subst (IsMarked numbering marks) (sym e) (marked name (subst (λ (s : Sub). winner_name vertices s ≡ Some name) e it.1)))))
            (before_next (sub_of name) v k it.0)),
      );
    })
    gone_more (inr (part, won, unmarked, is)) = subst (GoneBefore vertices numbering marks (record { vertex = v; subtask = k + 1 })) (sym is) (record {
      ascending = all_pairs_push Precedes old part before.ascending (λ j d lt.
          let has : Contains old (get_or old j d) = in_place j d lt in
          let at = ((before.are (get_or old j d)).0 has).0 in
          name_before (get_or old j d) part (subst (IsBefore (sub_of (get_or old j d))) (sym (own here part won)) at));
      are = λ name. (
        (λ has. ⊎_elim
            (λ was. let it = (before.are name).0 was in (next_before (sub_of name) v k it.0, it.1, it.2))
            (λ last. let e : name ≡ part = in_one part name last in
            let P : PartName → Type 0 = λ x. IsBefore (sub_of x) (record { vertex = v; subtask = k + 1 }) × IsPresent vertices x × (IsMarked numbering marks (sub_of x) → ⊥) in
            let at : P part = (itself_next (sub_of part) v k (own here part won), subst (λ (s : Sub). winner_name vertices s ≡ Some part) (sym (own here part won)) won, λ marked. unmarked (subst (IsMarked numbering marks) (own here part won) marked)) in
            subst P (sym e) at)
            (Contains-append_cases old (part ∷ []) name has)),
        (λ it. ⊎_elim
            (λ earlier. Contains-append_left old (part ∷ []) name ((before.are name).1 (earlier, it.1, it.2)))
            (λ (e : sub_of name ≡ here).
            let same : part ≡ name = some_same part name (sym won ∙ subst (λ (s : Sub). winner_name vertices s ≡ Some name) e it.1) in
            subst (Contains (old ++ part ∷ [])) same (Contains-push old part))
            (before_next (sub_of name) v k it.0)),
      );
    })
      where
        in_place : (j : ℕ) (d : PartName) → j < length old → Contains old (get_or old j d)
        in_place j d lt = (j, lt, get_or_default old j (get_or old j d) d lt)

  -- behind the last subtask of a vertex comes the next vertex
  pub gone_vertex : (v : ℕ) (gone : List PartName) → GoneBefore vertices numbering marks (record { vertex = v; subtask = length (subtasks_at vertices v) }) gone → GoneBefore vertices numbering marks (record { vertex = v + 1; subtask = 0 }) gone
  gone_vertex v gone before = record {
    ascending = before.ascending;
    are = λ name. (
      (λ has. let it = (before.are name).0 has in (on (sub_of name) it.0, it.1, it.2)),
      (λ it. (before.are name).1 (back (sub_of name) (won_sub vertices (sub_of name) name it.1) it.0, it.1, it.2)),
    );
  }
    where
      on : (a : Sub) → IsBefore a (record { vertex = v; subtask = length (subtasks_at vertices v) }) → IsBefore a (record { vertex = v + 1; subtask = 0 })
      on a (inl lt) = inl (omega arith)
      on a (inr both) = inl (omega (arith, both.0))

      back : (a : Sub) → IsDecidedSub vertices a → IsBefore a (record { vertex = v + 1; subtask = 0 }) → IsBefore a (record { vertex = v; subtask = length (subtasks_at vertices v) })
      back a decided (inr both) = absurd (omega (arith, both.1))
      back a decided (inl lt) = ⊎_elim
          (λ (less : a.vertex < v). inl less)
          (λ (le : v ≤ a.vertex). let e : a.vertex ≡ v = omega arith in inr (e, subst (λ (u : ℕ). a.subtask < length (subtasks_at vertices u)) e decided))
          (cases_lt a.vertex v)

-- ---- by names

names_same : (a b : PartName) → is_same_name a b ≡ true → a ≡ b
names_same a b same = ⊎_elim (λ e. e) (λ ne. absurd (cc (sym (names_apart a b ne) ∙ same))) (cases_name a b)
  where
    cases_name : (x y : PartName) → (x ≡ y) ⊎ (x ≡ y → ⊥)
    cases_name x y = grind arith

pub present_is : (vertices : List MadeVertex) (name : PartName) → IsPresent vertices name → IsTrue (is_present vertices name)
present_is vertices name is = subst (λ (o : Option PartName). IsTrue (option_map_or (λ winner. is_same_name winner name) o false)) (sym is) (name_itself name)

pub is_present_one : (vertices : List MadeVertex) (name : PartName) → IsTrue (is_present vertices name) → IsPresent vertices name
is_present_one vertices name = by (winner_name vertices (sub_of name))
  where
    by : (found : Option PartName) → IsTrue (option_map_or (λ winner. is_same_name winner name) found false) → found ≡ Some name
    by None is = absurd (cc is)
    by (Some winner) is = ap Some (names_same winner name is)

pub gone_all : (vertices : List MadeVertex) (numbering : Numbering) (names gone : List PartName) (marks : List Bool) → AreHeld vertices numbering names marks
    → GoneBefore vertices numbering marks (record { vertex = length vertices; subtask = 0 }) gone → AreGone vertices names gone
gone_all vertices numbering names gone marks held before = record {
  ascending = before.ascending;
  are = λ name. (
    (λ has. let it = (before.are name).0 has in (
      present_is vertices name it.1,
      λ kept. it.2 ((held.each (sub_of name) (won_sub vertices (sub_of name) name it.1)).1 (name, it.1, kept)),
    )),
    (λ it. let is = is_present_one vertices name it.0 in
        let decided = won_sub vertices (sub_of name) name is in
        (before.are name).1 (
          inl (in_range vertices name.vertex (omega (arith, decided))),
          is,
          λ marked. let h = (held.each (sub_of name) decided).0 marked in it.1 (subst (Contains names) (some_same h.0 name (sym h.1 ∙ is)) h.2),
        )),
  );
}
