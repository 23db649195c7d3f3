use Rattle.std.proofs.Common.{◌≡◌, ◌+◌, ◌<◌, ℕ, [], List, length, take, get_or, sym, ◌∙◌, ap, subst, arith, All}
use Rattle.std.proofs.lemmas.List.{get_or_default, length-drop, take_more}
use Rattle.reader_index.specs.Links.{tasks_in}
use Rattle.reader_index.specs.Tasks.{Tasks, with_task, with_tasks}
use Rattle.reader_index.proofs.Adding.{sum_drop, tasks_count, tasks_push}
use Rattle.reader_index.proofs.index.Index.add_all.Goals as goal

pub add_task-requires-clause-inside : goal.add_task-requires-clause-inside
add_task-requires-clause-inside c =
    let it = c.args.self.now in
    let tasks = c.args.tasks.now in
    let place = c.loop-place.place in
    let old : Tasks = tasks_in it.links.reads.items it.done.items in
    let item : c.as_slice.result.now ≡ get_or tasks place c.index-tasks-place.result = c.as_slice.ensures ∙ c.index-tasks-place.is in
    let inside : All (λ (p : ℕ). p < length it.done.items) (get_or tasks place c.index-tasks-place.result) = c.requires.inside place c.index-tasks-place.result c.loop-place-test.true in
    let long : length c.loop-place.self.done.items ≡ length it.done.items + length (take place tasks) = ap (λ (t : Tasks). length t.done) c.loop-place.invariant.1 ∙ tasks_count old (take place tasks) in
    λ k d lt.
    let less = subst (λ (l : List ℕ). All (λ (p : ℕ). p < length it.done.items) l) (sym item) inside k d lt in
    omega (arith, less, long)

pub loop-place-preserved : goal.loop-place-preserved
loop-place-preserved c =
    let it = c.args.self.now in
    let tasks = c.args.tasks.now in
    let place = c.loop-place.place in
    let lt = c.loop-place-test.true in
    let old : Tasks = tasks_in it.links.reads.items it.done.items in
    let item : c.as_slice.result.now ≡ get_or tasks place [] = c.as_slice.ensures ∙ c.index-tasks-place.is ∙ get_or_default tasks place c.index-tasks-place.result [] lt in
    let many = ap length item in
    let sum = sum_drop tasks place lt in
    let left = length-drop place tasks in
    let right = length-drop (place + 1) tasks in
    let h = c.loop-place.invariant in
    let e = c.add_task.ensures in (
      e.index,
      (e.tasks ∙ ap (λ (t : Tasks). with_task t c.as_slice.result.now) h.1 ∙ ap (λ (l : List ℕ). with_task (with_tasks old (take place tasks)) l) item
          ∙ sym (ap (λ (l : List (List ℕ)). with_tasks old l) (take_more tasks place [] lt) ∙ tasks_push old (take place tasks) (get_or tasks place []))),
      (let a = h.2 in let b = e.reads_len in let d = e.reads_room in omega (arith, a, b, d, many, sum)),
      (let a = h.3 in let b = e.earlier_len in let d = e.earlier_room in omega (arith, a, b, d, many, sum)),
      (let a = h.4 in let b = e.last_len in let d = e.last_room in omega (arith, a, b, d, left, right, lt)),
      (let a = h.5 in let b = e.ends_len in let d = e.ends_room in omega (arith, a, b, d, left, right, lt)),
      (let a = h.6 in let b = e.counts_len in let d = e.counts_room in omega (arith, a, b, d, left, right, lt)),
      (let a = h.7 in let b = e.done_len in let d = e.done_room in omega (arith, a, b, d, left, right, lt)),
    )
