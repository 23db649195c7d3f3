use Rattle.std.proofs.Common.{◌≡◌, ◌+◌, ℕ, Bool, not, false, [], ◌∷◌, ◌++◌, List, length, map, sym, ◌∙◌, ap, subst}
use Rattle.std.specs.Prelude.{count_by}
use Rattle.reader_index.specs.Links.{AreLinked, IsIndex, tasks_in}
use Rattle.reader_index.specs.Tasks.{is_done, read_by}
use Rattle.reader_index.specs.declared.read.Read.{Read}
use Rattle.reader_index.proofs.Indexing.{more_index}
use Rattle.reader_index.proofs.index.Index.add_task.Goals as goal

pub returns-clause-index : goal.returns-clause-index
returns-clause-index c =
    let it = c.args.self.now in
    let reads = it.links.reads.items in
    let done = it.done.items in
    let n = length done in
    let producers = c.args.producers.now in
    let at : ℕ → List Read = λ m. reads ++ map (read_by m) producers in
    let earlier = c.add_task.new.self.earlier.items in
    let last = c.add_task.new.self.last.items in
    let waiting = c.count_waiting-waiting.result in
    let number : c.len.result ≡ n = c.len.ensures ∙ it.done.ok.0 in
    let there : AreLinked (c.len.result + 1) (c.len.result + 1) (at c.len.result) earlier last =
    subst (λ (l : List Read). AreLinked (c.len.result + 1) (c.len.result + 1) l earlier last) c.add_task.ensures.reads c.add_task.ensures.linked in
    let linked : AreLinked (n + 1) (n + 1) (at n) earlier last = subst (λ (m : ℕ). AreLinked (m + 1) (m + 1) (at m) earlier last) number there in
    let count : waiting ≡ count_by (λ p. not (is_done done p)) producers =
    c.count_waiting-waiting.ensures ∙ ap (λ (l : List Bool). count_by (λ (p : ℕ). not (is_done l p)) producers) c.as_slice.ensures.value in
    let all : c.add_task.new.self.reads.items ≡ at n = c.add_task.ensures.reads ∙ ap at number in
    let end : c.len-2.result ≡ length (at n) = c.len-2.ensures ∙ c.add_task.new.self.reads.ok.0 ∙ ap length all in
    let ends : c.push_reserved.new.self.items ≡ it.ends.items ++ length (at n) ∷ [] = c.push_reserved.ensures.items ∙ ap (λ (m : ℕ). it.ends.items ++ m ∷ []) end in
    let h = more_index (tasks_in reads done) it.links.earlier.items it.links.last.items it.ends.items it.counts.items it.open_tasks producers earlier last waiting c.requires.index linked count in
    subst (λ (l : List Read). IsIndex (tasks_in l c.push_reserved-3.new.self.items) earlier last c.push_reserved.new.self.items c.push_reserved-2.new.self.items (it.open_tasks + 1)) (sym all)
    (subst (λ (l : List Bool). IsIndex (tasks_in (at n) l) earlier last c.push_reserved.new.self.items c.push_reserved-2.new.self.items (it.open_tasks + 1)) (sym c.push_reserved-3.ensures.items)
    (subst (λ (l : List ℕ). IsIndex (tasks_in (at n) (done ++ false ∷ [])) earlier last l c.push_reserved-2.new.self.items (it.open_tasks + 1)) (sym ends)
    (subst (λ (l : List ℕ). IsIndex (tasks_in (at n) (done ++ false ∷ [])) earlier last (it.ends.items ++ length (at n) ∷ []) l (it.open_tasks + 1)) (sym c.push_reserved-2.ensures.items) h)))
