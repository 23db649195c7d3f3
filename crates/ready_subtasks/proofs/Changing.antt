-- What an event leaves of readiness: the marks that it touches are refreshed, and the others stay.
use Rattle.std.proofs.Common.{◌≡◌, ℕ, ◌<◌, Bool, true, false, List, [], ◌∷◌, ◌++◌, length, map, filter, get_or, refl, sym, ◌∙◌, ap, subst, arith, All, Option, inl, inr, ⊎_elim}
use Rattle.std.specs.Prelude.{◌⊎◌, ◌==◌, ◌&&◌, ◌||◌, not, Contains}
use Rattle.std.specs.List.{list_all, list_any}
use Rattle.std.specs.Option.{is_none, is_some}
use Rattle.std.proofs.lemmas.Bool.Decides.{nat_tests}
use Rattle.std.proofs.lemmas.List.Elements.{All-filter, All-push, Contains-append_cases, Contains-append_left, Contains-append_right, Contains-get_or, Contains-push_cases}
use Rattle.std.proofs.lemmas.List.Folds.{list_any-append}
use Rattle.attempt_names.specs.Attempts.{Attempts, is_of}
use Rattle.estate.specs.Parts.{is_same_name}
use Rattle.estate.specs.declared.part_name.PartName.{PartName}
use Rattle.graph_model.specs.Reads.{ReadEdge, reads_from}
use Rattle.graph_model.specs.States.{winner_at, is_finished, sub_of, subtasks_at}
use Rattle.graph_model.specs.Valid.{IsOfSubtask}
use Rattle.graph_model.specs.declared.made_vertex.MadeVertex.{MadeVertex}
use Rattle.graph_model.specs.declared.sub.Sub.{Sub}
use Rattle.graph_model.specs.declared.win.Win.{Win}
use Rattle.graph_model.proofs.Laws.{KeepsReads, cases_sub, edges-same, in_nothing, in_one, same_count, same_sub}
use Rattle.number_set.specs.Pairs.{group_at}
use Rattle.ready_subtasks.specs.Marks.{IsDecidedSub, IsReadiness, mark_at, put_mark}
use Rattle.ready_subtasks.specs.Ready.{is_ready, is_running}
use Rattle.ready_subtasks.specs.Touches.{AreTouched, IsRefreshed}
use Rattle.ready_subtasks.proofs.Lists.{list_all-agree, list_any-filter_less}
use Rattle.ready_subtasks.proofs.Marking.{put_here, put_len, put_sizes, put_there}
use Rattle.ready_subtasks.proofs.Feeding.{is_fed}

-- a subtask is in a list, or not
cases_in : (subs : List Sub) (sub : Sub) → Contains subs sub ⊎ (Contains subs sub → ⊥)
cases_in [] sub = inr (λ has. in_nothing sub has)
cases_in (first ∷ subs) sub = by (cases_in subs sub) (cases_sub sub first)
  where
    by : Contains subs sub ⊎ (Contains subs sub → ⊥) → (sub ≡ first) ⊎ (sub ≡ first → ⊥) → Contains (first ∷ subs) sub ⊎ (Contains (first ∷ subs) sub → ⊥)
    by rest (inl is) = inl (subst (λ (s : Sub). Contains (first ∷ subs) s) (sym is) (Contains-get_or (first ∷ subs) 0 first (omega arith)))
    by (inl has) (inr ne) = inl (Contains-append_right (first ∷ []) subs sub has)
    by (inr none) (inr ne) = inr (λ has. ⊎_elim
        (λ (own : Contains (first ∷ []) sub). ne (in_one first sub own))
        (λ (later : Contains subs sub). none later)
        (Contains-append_cases (first ∷ []) subs sub has))

-- ---- marks are refreshed

pub refreshed_none : (vertices : List MadeVertex) (attempts : Attempts) (marks : List (List Bool)) → IsRefreshed vertices attempts [] marks marks
refreshed_none vertices attempts marks = record {
  len = refl;
  sizes = λ v. refl;
  are = λ sub has. absurd (in_nothing sub has);
  others = λ sub apart. refl;
}

-- one subtask's more
pub refreshed_more : (vertices : List MadeVertex) (attempts : Attempts) (subs : List Sub) (sub : Sub) (old now : List (List Bool))
    → sub.subtask < length (group_at now sub.vertex) → IsRefreshed vertices attempts subs old now
    → IsRefreshed vertices attempts (subs ++ sub ∷ []) old (put_mark now sub (is_ready vertices attempts sub))
refreshed_more vertices attempts subs sub old now long h =
    let mark = is_ready vertices attempts sub in
    record {
      len = put_len now sub mark ∙ h.len;
      sizes = λ v. put_sizes now sub mark v ∙ h.sizes v;
      are = λ other has. ⊎_elim
          (λ (same : other ≡ sub). ap (mark_at (put_mark now sub mark)) same ∙ put_here now sub mark long ∙ ap (is_ready vertices attempts) (sym same))
          (λ (ne : other ≡ sub → ⊥).
          put_there now sub other mark ne
          ∙ ⊎_elim (λ (earlier : Contains subs other). h.are other earlier) (λ (is : sub ≡ other). absurd (ne (sym is))) (Contains-push_cases subs sub other has))
          (cases_sub other sub);
      others = λ other apart.
          put_there now sub other mark (λ is. apart (Contains-append_right subs (sub ∷ []) other
          (subst (λ (s : Sub). Contains (sub ∷ []) s) (sym is) (Contains-get_or (sub ∷ []) 0 sub (omega arith)))))
          ∙ h.others other (λ has. apart (Contains-append_left subs (sub ∷ []) other has));
    }

-- ---- winners come and go

-- ready as before where it and what it reads from have the same winners
ready_same : (vs us : List MadeVertex) (a : Attempts) (sub : Sub) → KeepsReads vs us → winner_at us sub ≡ winner_at vs sub
    → ((p : Sub) → Contains (reads_from vs sub) p → winner_at us p ≡ winner_at vs p) → is_ready us a sub ≡ is_ready vs a sub
ready_same vs us a sub keeps own reads =
    let from : reads_from us sub ≡ reads_from vs sub = ap (map (λ (edge : ReadEdge). edge.sub)) (edges-same vs us keeps sub) in
    let fed : is_fed us sub ≡ is_fed vs sub =
    ap (list_all (is_finished us)) from
    ∙ list_all-agree (is_finished us) (is_finished vs) (reads_from vs sub)
    (λ k d lt. ap (λ (winner : Option Win). is_some winner) (reads (get_or (reads_from vs sub) k d) (Contains-get_or (reads_from vs sub) k d lt))) in
    ap (λ (winner : Option Win). is_none winner && is_fed us sub && not (is_running a sub)) own
    ∙ ap (λ (b : Bool). is_none (winner_at vs sub) && b && not (is_running a sub)) fed

-- only the changed subtasks' winners are others, and the touched are refreshed
pub readiness_touched : (vs us : List MadeVertex) (a : Attempts) (changed touched : List Sub) (old new : List (List Bool)) → IsReadiness vs a old → KeepsReads vs us
    → ((sub : Sub) → (Contains changed sub → ⊥) → winner_at us sub ≡ winner_at vs sub) → AreTouched vs changed touched → IsRefreshed us a touched old new → IsReadiness us a new
readiness_touched vs us a changed touched old new h keeps winners are fresh =
    let counts = same_count vs us keeps in
    record {
      len = let few = h.len in let long = fresh.len in let lens = keeps.len in omega (arith, few, long, lens);
      sizes = λ v. fresh.sizes v ∙ h.sizes v ∙ sym (counts v);
      running = λ k d lt. subst (λ (n : ℕ). (get_or a.running k d).subtask < n) (sym (counts (get_or a.running k d).vertex)) (h.running k d lt);
      is = λ sub lt. ⊎_elim
          (λ (has : Contains touched sub). fresh.are sub has)
          (λ (apart : Contains touched sub → ⊥).
          let decided : IsDecidedSub vs sub = subst (λ (n : ℕ). sub.subtask < n) (counts sub.vertex) lt in
          fresh.others sub apart ∙ h.is sub decided
          ∙ sym (ready_same vs us a sub keeps (winners sub (λ has. apart (are.own sub decided has)))
          (λ p reads. winners p (λ has. apart (are.readers sub p decided reads has)))))
          (cases_in touched sub);
    }

-- ---- attempts come and go

is_of_self : (v k : ℕ) → (v == v && k == k) ≡ true
is_of_self v k = grind (arith, nat_tests)

is_of_other : (v k w j : ℕ) → (v == w && k == j) ≡ true → (v ≡ w) × (k ≡ j)
is_of_other v k w j is = (grind (arith, nat_tests), grind (arith, nat_tests))

-- the name is of another subtask
not_of : (sub : Sub) (name : PartName) → (sub ≡ sub_of name → ⊥) → is_of sub.vertex sub.subtask name ≡ false
not_of sub name ne = by (is_of sub.vertex sub.subtask name) refl
  where
    by : (b : Bool) → is_of sub.vertex sub.subtask name ≡ b → b ≡ false
    by true is = let same = is_of_other name.vertex name.subtask sub.vertex sub.subtask is in absurd (ne (same_sub sub (sub_of name) (sym same.0) (sym same.1)))
    by false is = refl

or_false : (b : Bool) → (b || false) ≡ b
or_false true = refl
or_false false = refl

or_true : (b : Bool) → (b || true) ≡ true
or_true true = refl
or_true false = refl

-- one name more runs
running_more : (a b : Attempts) (name : PartName) (sub : Sub) → b.running ≡ a.running ++ name ∷ [] → is_running b sub ≡ (is_running a sub || (is_of sub.vertex sub.subtask name || false))
running_more a b name sub is = ap (list_any (is_of sub.vertex sub.subtask)) is ∙ list_any-append (is_of sub.vertex sub.subtask) a.running (name ∷ [])

none_ready : (x y : Bool) → (x && y && not true) ≡ false
none_ready true true = refl
none_ready true false = refl
none_ready false y = refl

-- an attempt is deployed: its subtask is ready no more
pub readiness_deployed : (vs : List MadeVertex) (a b : Attempts) (name : PartName) (marks : List (List Bool)) → IsReadiness vs a marks
    → name.subtask < length (subtasks_at vs name.vertex) → b.running ≡ a.running ++ name ∷ [] → IsReadiness vs b (put_mark marks (sub_of name) false)
readiness_deployed vs a b name marks h decided is =
    let own = sub_of name in
    let long : name.subtask < length (group_at marks name.vertex) = subst (λ (n : ℕ). name.subtask < n) (sym (h.sizes name.vertex)) decided in
    record {
      len = let few = h.len in let same = put_len marks own false in omega (arith, few, same);
      sizes = λ v. put_sizes marks own false v ∙ h.sizes v;
      running = subst (All (IsOfSubtask vs)) (sym is) (All-push (IsOfSubtask vs) a.running name h.running decided);
      is = λ sub lt. ⊎_elim
          (λ (same : sub ≡ own).
          ap (mark_at (put_mark marks own false)) same ∙ put_here marks own false long
          ∙ sym (ap (is_ready vs b) same
          ∙ ap (λ (r : Bool). is_none (winner_at vs own) && is_fed vs own && not r)
          (running_more a b name own is ∙ ap (λ (r : Bool). is_running a own || (r || false)) (is_of_self name.vertex name.subtask) ∙ or_true (is_running a own))
          ∙ none_ready (is_none (winner_at vs own)) (is_fed vs own)))
          (λ (ne : sub ≡ own → ⊥).
          put_there marks own sub false ne ∙ h.is sub lt
          ∙ sym (ap (λ (r : Bool). is_none (winner_at vs sub) && is_fed vs sub && not r)
          (running_more a b name sub is ∙ ap (λ (r : Bool). is_running a sub || (r || false)) (not_of sub name ne) ∙ or_false (is_running a sub))))
          (cases_sub sub own);
    }

same_parts : (a b c d e f g h : ℕ) → (a == e && b == f && c == g && d == h) ≡ true → (a ≡ e) × (b ≡ f)
same_parts a b c d e f g h is = (grind (arith, nat_tests), grind (arith, nat_tests))

-- the names that are left where one is dropped
abbrev pub left_of : PartName → List PartName → List PartName
left_of name names = filter (λ other. not (is_same_name other name)) names

-- another subtask's attempts run on
running_other : (a b : Attempts) (name : PartName) (sub : Sub) → b.running ≡ left_of name a.running → (sub ≡ sub_of name → ⊥) → is_running b sub ≡ is_running a sub
running_other a b name sub is ne =
    ap (list_any (is_of sub.vertex sub.subtask)) is
    ∙ list_any-filter_less (is_of sub.vertex sub.subtask) (λ other. not (is_same_name other name)) a.running
    (λ other own. by other own (is_same_name other name) refl)
  where
    by : (other : PartName) → is_of sub.vertex sub.subtask other ≡ true → (same : Bool) → is_same_name other name ≡ same → not (is_same_name other name) ≡ true
    by other own true e =
        let at = is_of_other other.vertex other.subtask sub.vertex sub.subtask own in
        let is_name = same_parts other.vertex other.subtask other.epoch other.attempt name.vertex name.subtask name.epoch name.attempt e in
        absurd (ne (same_sub sub (sub_of name) (sym at.0 ∙ is_name.0) (sym at.1 ∙ is_name.1)))
    by other own false e = ap not e

-- an attempt is dropped, and its subtask is refreshed
pub readiness_dropped : (vs : List MadeVertex) (a b : Attempts) (name : PartName) (old new : List (List Bool)) → IsReadiness vs a old
    → b.running ≡ left_of name a.running → IsRefreshed vs b (sub_of name ∷ []) old new → IsReadiness vs b new
readiness_dropped vs a b name old new h is fresh =
    let own = sub_of name in
    record {
      len = let few = h.len in let long = fresh.len in omega (arith, few, long);
      sizes = λ v. fresh.sizes v ∙ h.sizes v;
      running = subst (All (IsOfSubtask vs)) (sym is) (All-filter (λ other. not (is_same_name other name)) (IsOfSubtask vs) a.running h.running);
      is = λ sub lt. ⊎_elim
          (λ (has : Contains (own ∷ []) sub). fresh.are sub has)
          (λ (apart : Contains (own ∷ []) sub → ⊥).
          fresh.others sub apart ∙ h.is sub lt
          ∙ sym (ap (λ (r : Bool). is_none (winner_at vs sub) && is_fed vs sub && not r)
          (running_other a b name sub is (λ same. apart (subst (λ (s : Sub). Contains (own ∷ []) s) (sym same) (Contains-get_or (own ∷ []) 0 own (omega arith)))))))
          (cases_in (own ∷ []) sub);
    }

-- an attempt of no decided subtask is dropped: none is, and nothing changes
pub readiness_undropped : (vs : List MadeVertex) (a b : Attempts) (name : PartName) (marks : List (List Bool)) → IsReadiness vs a marks
    → (name.subtask < length (subtasks_at vs name.vertex) → ⊥) → b.running ≡ left_of name a.running → IsReadiness vs b marks
readiness_undropped vs a b name marks h undecided is = record {
  len = h.len;
  sizes = h.sizes;
  running = subst (All (IsOfSubtask vs)) (sym is) (All-filter (λ other. not (is_same_name other name)) (IsOfSubtask vs) a.running h.running);
  is = λ sub lt. h.is sub lt ∙ sym (ap (λ (r : Bool). is_none (winner_at vs sub) && is_fed vs sub && not r)
      (running_other a b name sub is (λ same. undecided (subst (λ (s : Sub). s.subtask < length (subtasks_at vs s.vertex)) same lt))));
}
