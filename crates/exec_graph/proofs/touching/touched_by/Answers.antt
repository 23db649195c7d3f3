use Rattle.std.proofs.Common.{◌≡◌, ℕ, ◌<◌, List, [], ◌∷◌, ◌++◌, length, map, nat_eq, sym, ◌∙◌, ap, subst, All}
use Rattle.std.specs.Prelude.{count_by}
use Rattle.std.proofs.lemmas.Bool.{false≢true}
use Rattle.event_graph.specs.Numbers.{number_of}
use Rattle.graph_model.specs.declared.sub.Sub.{Sub}
use Rattle.graph_model.specs.Indexes.{sub_at}
use Rattle.reader_index.specs.Tasks.{Tasks, is_between}
use Rattle.ready_subtasks.specs.Touches.{AreTouched}
use Rattle.exec_graph.proofs.Readers.{readers_inside, touched_none, touched_readers}
use Rattle.exec_graph.proofs.touching.touched_by.Goals as goal

pub returns-then-not-has : goal.returns-then-not-has
returns-then-not-has c =
    let vs = c.args.job.now.state.vertices in
    subst (λ (l : List Sub). AreTouched vs (c.args.sub ∷ []) l) (sym c.new.ensures.items)
    (touched_none vs c.numbers-numbers.result.now c.numbers-numbers.ensures c.args.sub (λ decided. false≢true (sym c.if-not-has.true ∙ c.has.ensures.1 decided)))

pub subs_at-requires : goal.subs_at-requires
subs_at-requires c =
    let vs = c.args.job.now.state.vertices in
    let numbering = c.numbers-numbers.result.now in
    let readers = c.in_ok-readers.readers.items in
    let counts : (n : ℕ) → count_by (nat_eq n) readers ≡ count_by (is_between n (number_of numbering c.args.sub)) numbering.tasks.reads =
    λ n. c.in_ok-readers.ensures n ∙ ap (λ (t : Tasks). count_by (is_between n c.number.result) t.reads) c.tasks.ensures ∙ ap (λ (m : ℕ). count_by (is_between n m) numbering.tasks.reads) c.number.ensures in
    subst (λ (l : List ℕ). All (λ n. n < length c.subs.result.now) l) (sym c.as_slice.ensures.value)
    (subst (λ (l : List Sub). All (λ n. n < length l) readers) (sym c.subs.ensures)
    (readers_inside vs numbering c.numbers-numbers.ensures c.args.sub (c.has.ensures.0 c.if-not-has.false) readers counts))

pub returns : goal.returns
returns c =
    let vs = c.args.job.now.state.vertices in
    let numbering = c.numbers-numbers.result.now in
    let readers = c.in_ok-readers.readers.items in
    let sub = c.args.sub in
    let counts : (n : ℕ) → count_by (nat_eq n) readers ≡ count_by (is_between n (number_of numbering sub)) numbering.tasks.reads =
    λ n. c.in_ok-readers.ensures n ∙ ap (λ (t : Tasks). count_by (is_between n c.number.result) t.reads) c.tasks.ensures ∙ ap (λ (m : ℕ). count_by (is_between n m) numbering.tasks.reads) c.number.ensures in
    let found : c.in_ok-touched.touched.items ≡ map (sub_at numbering.subs) readers =
    c.in_ok-touched.ensures ∙ ap (λ (l : List Sub). map (sub_at l) c.as_slice.result.now) c.subs.ensures ∙ ap (map (sub_at numbering.subs)) c.as_slice.ensures.value in
    subst (λ (l : List Sub). AreTouched vs (sub ∷ []) l) (sym (c.in_ok-push.ensures.items ∙ ap (λ (l : List Sub). l ++ sub ∷ []) found))
    (touched_readers vs numbering c.numbers-numbers.ensures sub (c.has.ensures.0 c.if-not-has.false) readers counts)
