use Rattle.std.proofs.Common.{◌≡◌, ◌<◌, ℕ, nat_eq, List, length, get_or, sym, ◌∙◌, ap, subst, arith}
use Rattle.std.specs.Prelude.{count_by}
use Rattle.std.proofs.lemmas.List.{get_or_default}
use Rattle.std.proofs.lemmas.List.Sums.{count_by-le-length}
use Rattle.reader_index.specs.Links.{chain_at, tasks_in}
use Rattle.reader_index.specs.Tasks.{is_waiting}
use Rattle.reader_index.specs.declared.read.Read.{Read}
use Rattle.reader_index.proofs.Indexing.{undone_index, few_wait}
use Rattle.reader_index.proofs.index.Index.reopen.Goals as goal
use Rattle.std.proofs.Common.{set, false}

pub raise-requires-clause-few : goal.raise-requires-clause-few
raise-requires-clause-few c =
    let it = c.args.self.now in
    let reads = it.links.reads.items in
    let earlier = it.links.earlier.items in
    let last = it.links.last.items in
    let inside : c.args.task < length last = subst (λ (m : ℕ). c.args.task < m) (sym c.requires.index.linked.last_len) c.requires.inside in
    let first : c.index-first.result.now ≡ get_or last c.args.task 0 = c.index-first.ensures ∙ get_or_default last c.args.task c.index-first.result.now 0 inside in
    let same : chain_at c.as_slice-reads.result.now c.as_slice-earlier.result.now c.index-first.result.now ≡ chain_at reads earlier (get_or last c.args.task 0) =
    ap (λ (l : List Read). chain_at l c.as_slice-earlier.result.now c.index-first.result.now) c.as_slice-reads.ensures.value
    ∙ ap (λ (l : List ℕ). chain_at reads l c.index-first.result.now) c.as_slice-earlier.ensures.value
    ∙ ap (λ (m : ℕ). chain_at reads earlier m) first in
    λ n.
    let a = ap (λ (l : List ℕ). count_by (nat_eq n) l) same in
    let b = few_wait (tasks_in reads it.done.items) earlier last it.ends.items it.counts.items it.open_tasks c.args.task n c.requires.index c.requires.inside c.requires.done_task in
    let most = count_by-le-length (is_waiting (set it.done.items c.args.task false) n) reads in
    let long = it.links.reads.ok.0 in
    let room = it.links.reads.ok.1 in
    let small = it.links.reads.small in
    omega (arith, a, b, most, long, room, small)

pub returns-clause-index : goal.returns-clause-index
returns-clause-index c =
    let it = c.args.self.now in
    let reads = it.links.reads.items in
    let earlier = it.links.earlier.items in
    let last = it.links.last.items in
    let inside : c.args.task < length last = subst (λ (m : ℕ). c.args.task < m) (sym c.requires.index.linked.last_len) c.requires.inside in
    let first : c.index-first.result.now ≡ get_or last c.args.task 0 = c.index-first.ensures ∙ get_or_default last c.args.task c.index-first.result.now 0 inside in
    let same : chain_at c.as_slice-reads.result.now c.as_slice-earlier.result.now c.index-first.result.now ≡ chain_at reads earlier (get_or last c.args.task 0) =
    ap (λ (l : List Read). chain_at l c.as_slice-earlier.result.now c.index-first.result.now) c.as_slice-reads.ensures.value
    ∙ ap (λ (l : List ℕ). chain_at reads l c.index-first.result.now) c.as_slice-earlier.ensures.value
    ∙ ap (λ (m : ℕ). chain_at reads earlier m) first in
    undone_index (tasks_in reads it.done.items) earlier last it.ends.items it.counts.items c.raise.new.counts.items it.open_tasks c.args.task c.requires.index c.requires.inside c.requires.done_task c.raise.ensures.len
    (λ n. let a = ap (λ (l : List ℕ). count_by (nat_eq n) l) same in let b = c.raise.ensures.raised n in omega (arith, a, b))
