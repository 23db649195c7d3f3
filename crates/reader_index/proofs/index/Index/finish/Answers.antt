use Rattle.std.proofs.Common.{◌≡◌, ◌<◌, ℕ, nat_eq, List, length, get_or, sym, ◌∙◌, ap, subst, arith}
use Rattle.std.specs.Prelude.{count_by}
use Rattle.std.proofs.lemmas.List.{get_or_default}
use Rattle.reader_index.specs.Links.{chain_at, tasks_in}
use Rattle.reader_index.specs.declared.read.Read.{Read}
use Rattle.reader_index.proofs.Indexing.{done_index, enough_wait}
use Rattle.reader_index.proofs.index.Index.finish.Goals as goal

pub lower-requires-clause-enough : goal.lower-requires-clause-enough
lower-requires-clause-enough c =
    let it = c.args.self.now in
    let reads = it.links.reads.items in
    let earlier = it.links.earlier.items in
    let last = it.links.last.items in
    let inside : c.args.task < length last = subst (λ (m : ℕ). c.args.task < m) (sym c.requires.index.linked.last_len) c.requires.inside in
    let first : c.index-first.result.now ≡ get_or last c.args.task 0 = c.index-first.ensures ∙ get_or_default last c.args.task c.index-first.result.now 0 inside in
    let same : chain_at c.as_slice-reads.result.now c.as_slice-earlier.result.now c.index-first.result.now ≡ chain_at reads earlier (get_or last c.args.task 0) =
    ap (λ (l : List Read). chain_at l c.as_slice-earlier.result.now c.index-first.result.now) c.as_slice-reads.ensures.value
    ∙ ap (λ (l : List ℕ). chain_at reads l c.index-first.result.now) c.as_slice-earlier.ensures.value
    ∙ ap (λ (m : ℕ). chain_at reads earlier m) first in
    λ n.
    let a = ap (λ (l : List ℕ). count_by (nat_eq n) l) same in
    let b = enough_wait (tasks_in reads it.done.items) earlier last it.ends.items it.counts.items it.open_tasks c.args.task n c.requires.index c.requires.inside c.requires.open_task in
    omega (arith, a, b)

pub returns-clause-index : goal.returns-clause-index
returns-clause-index c =
    let it = c.args.self.now in
    let reads = it.links.reads.items in
    let earlier = it.links.earlier.items in
    let last = it.links.last.items in
    let inside : c.args.task < length last = subst (λ (m : ℕ). c.args.task < m) (sym c.requires.index.linked.last_len) c.requires.inside in
    let first : c.index-first.result.now ≡ get_or last c.args.task 0 = c.index-first.ensures ∙ get_or_default last c.args.task c.index-first.result.now 0 inside in
    let same : chain_at c.as_slice-reads.result.now c.as_slice-earlier.result.now c.index-first.result.now ≡ chain_at reads earlier (get_or last c.args.task 0) =
    ap (λ (l : List Read). chain_at l c.as_slice-earlier.result.now c.index-first.result.now) c.as_slice-reads.ensures.value
    ∙ ap (λ (l : List ℕ). chain_at reads l c.index-first.result.now) c.as_slice-earlier.ensures.value
    ∙ ap (λ (m : ℕ). chain_at reads earlier m) first in
    done_index (tasks_in reads it.done.items) earlier last it.ends.items it.counts.items c.lower.new.counts.items it.open_tasks c.args.task c.requires.index c.requires.inside c.requires.open_task c.lower.ensures.len
    (λ n. let a = ap (λ (l : List ℕ). count_by (nat_eq n) l) same in let b = c.lower.ensures.lowered n in omega (arith, a, b))
