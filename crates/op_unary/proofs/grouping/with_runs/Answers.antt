use Rattle.std.proofs.Common.{◌≡◌, ◌+◌, ◌-◌, ◌<◌, ◌++◌, ◌∷◌, [], All, List, ℕ, length, map, take, drop, get_or, refl, sym, ap, subst, ◌∙◌, arith}
use Rattle.std.proofs.Math.Seq.{take-add}
use Rattle.std.proofs.lemmas.List.{append_assoc, length-drop, length-take-le, map-append, take_rest}
use Rattle.bag_laws.specs.Rows.{OneRow as Row}
use Rattle.plan_model.specs.Operators.{key_of}
use Rattle.op_unary.specs.Groups.{AreGroupsOf, IsGroupOf}
use Rattle.op_unary.specs.declared.group.Group.{Group}
use Rattle.op_unary.specs.declared.keyed.Keyed.{Keyed}
use Rattle.op_unary.proofs.Runs.{IsFront, front, front_of}
use Rattle.op_unary.proofs.GroupRows.{groups_append, groups_one}
use Rattle.op_unary.proofs.grouping.with_runs.Goals as goal

abbrev row : Keyed → Row
row keyed = keyed.row.now

abbrev key : List ℕ → Keyed → Row
key keys keyed = key_of keys (row keyed)

-- the rows that are left
abbrev rest : List Keyed → ℕ → List Keyed
rest sorted start = take (length sorted - start) (drop start sorted)

run_of : (keys : List ℕ) (sorted : List Keyed) (start n : ℕ) (first : Keyed) → start < length sorted → first ≡ get_or (rest sorted start) 0 first
    → n ≡ front (key keys) (key keys first) (rest sorted start) → IsFront (key keys) (key keys first) (drop start sorted) n
run_of keys sorted start n first lt is count =
    let all = take_rest sorted start in
    let long = length-drop start sorted in
    front_of (key keys) (key keys first) first (drop start sorted) n (omega arith) (is ∙ ap (λ (l : List Keyed). get_or l 0 first) all) refl
    (count ∙ ap (front (key keys) (key keys first)) all)

pub run_group-requires-clause-some : goal.run_group-requires-clause-some
run_group-requires-clause-some c =
    let sorted = c.args.sorted.now in
    let start = c.loop-start.start in
    let n = c.run_length-size.result in
    let run = run_of c.args.keys.now sorted start n c.index-rest-0.result c.loop-start-test.true c.index-rest-0.is c.run_length-size.ensures in
    let taken : length (take n (rest sorted start)) ≡ n = ap (λ (l : List Keyed). length (take n l)) (take_rest sorted start) ∙ length-take-le n (drop start sorted) run.within in
    omega (arith, taken, run.some)

pub run_group-requires-clause-one_key : goal.run_group-requires-clause-one_key
run_group-requires-clause-one_key c =
    let keys = c.args.keys.now in
    let sorted = c.args.sorted.now in
    let start = c.loop-start.start in
    let n = c.run_length-size.result in
    let first = c.index-rest-0.result in
    let run = run_of keys sorted start n first c.loop-start-test.true c.index-rest-0.is c.run_length-size.ensures in
    subst (λ (l : List Keyed). All (λ keyed. key keys keyed ≡ key keys first) (take n l)) (sym (take_rest sorted start)) run.keys

pub loop-start-preserved : goal.loop-start-preserved
loop-start-preserved c =
    let keys = c.args.keys.now in
    let aggs = c.args.aggs.now in
    let sorted = c.args.sorted.now in
    let start = c.loop-start.start in
    let n = c.run_length-size.result in
    let group = c.in_ok-run_group.field-0 in
    let run = run_of keys sorted start n c.index-rest-0.result c.loop-start-test.true c.index-rest-0.is c.run_length-size.ensures in
    let long = length-drop start sorted in
    let is_group : IsGroupOf keys aggs group (map row (take n (drop start sorted))) =
    subst (λ (l : List Keyed). IsGroupOf keys aggs group (map row (take n l))) (take_rest sorted start) c.in_ok-run_group.ensures in
    let more : map row (take (start + n) sorted) ≡ map row (take start sorted) ++ map row (take n (drop start sorted)) =
    ap (map row) (take-add start n sorted) ∙ map-append row (take start sorted) (take n (drop start sorted)) in
    record {
      within = omega (arith, run.within, long, c.loop-start-test.true);
      holds = λ before t.
          subst (λ (l : List Group). AreGroupsOf keys aggs l (before ++ map row (take (start + n) sorted))) (sym c.in_ok-push.ensures.items)
          (subst (λ (l : List Row). AreGroupsOf keys aggs (c.loop-start.all.items ++ group ∷ []) l)
          (append_assoc before (map row (take start sorted)) (map row (take n (drop start sorted))) ∙ ap (λ (l : List Row). before ++ l) (sym more))
          (groups_append keys aggs c.loop-start.all.items (group ∷ []) (before ++ map row (take start sorted)) (map row (take n (drop start sorted)))
          (c.loop-start.invariant.holds before t) (groups_one keys aggs group (map row (take n (drop start sorted))) is_group)));
    }

pub loop-start-smaller : goal.loop-start-smaller
loop-start-smaller c =
    let sorted = c.args.sorted.now in
    let start = c.loop-start.start in
    let run = run_of c.args.keys.now sorted start c.run_length-size.result c.index-rest-0.result c.loop-start-test.true c.index-rest-0.is c.run_length-size.ensures in
    let long = length-drop start sorted in
    omega (arith, run.some, run.within, long, c.loop-start-test.true)
