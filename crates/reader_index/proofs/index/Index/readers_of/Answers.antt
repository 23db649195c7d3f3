use Rattle.std.proofs.Common.{◌≡◌, ◌<◌, ℕ, nat_eq, List, length, get_or, sym, ◌∙◌, ap, subst}
use Rattle.std.specs.Prelude.{count_by}
use Rattle.std.proofs.lemmas.List.{get_or_default}
use Rattle.std.proofs.lemmas.Result.{IfOk-weaker}
use Rattle.reader_index.specs.Tasks.{is_between}
use Rattle.reader_index.specs.Links.{chain_at}
use Rattle.reader_index.specs.declared.read.Read.{Read}
use Rattle.reader_index.proofs.index.Index.readers_of.Goals as goal

pub returns : goal.returns
returns c =
    let it = c.args.self.now in
    let reads = it.links.reads.items in
    let earlier = it.links.earlier.items in
    let last = it.links.last.items in
    let inside : c.args.task < length last = subst (λ (m : ℕ). c.args.task < m) (sym c.requires.index.linked.last_len) c.requires.inside in
    let first : c.index-first.result.now ≡ get_or last c.args.task 0 = c.index-first.ensures ∙ get_or_default last c.args.task c.index-first.result.now 0 inside in
    let same : chain_at c.as_slice-reads.result.now c.as_slice-earlier.result.now c.index-first.result.now ≡ chain_at reads earlier (get_or last c.args.task 0) =
    ap (λ (l : List Read). chain_at l c.as_slice-earlier.result.now c.index-first.result.now) c.as_slice-reads.ensures.value
    ∙ ap (λ (l : List ℕ). chain_at reads l c.index-first.result.now) c.as_slice-earlier.ensures.value
    ∙ ap (λ (m : ℕ). chain_at reads earlier m) first in
    IfOk-weaker c.collect.result (λ readers. readers.items ≡ chain_at c.as_slice-reads.result.now c.as_slice-earlier.result.now c.index-first.result.now)
    (λ readers. (n : ℕ) → count_by (nat_eq n) readers.items ≡ count_by (is_between n c.args.task) reads)
    (λ readers e n. ap (λ (l : List ℕ). count_by (nat_eq n) l) (e ∙ same) ∙ c.requires.index.linked.chains n c.args.task) c.collect.ensures
