use Rattle.std.proofs.Common.{◌≡◌, ℕ, List, length, take, get_or, sym, ◌∙◌, subst, true}
use Rattle.std.proofs.lemmas.List.{take_all, take_more}
use Rattle.reader_index.specs.Tasks.{is_done}
use Rattle.rerun_set.specs.Found.{Finds}
use Rattle.rerun_set.proofs.Leading.{Led, led_if, led_none}
use Rattle.rerun_set.proofs.Readers.{reader_at, readers_found}
use Rattle.rerun_set.proofs.closing.add_readers.Goals as goal

pub loop-reader-init : goal.loop-reader-init
loop-reader-init c = led_none (λ (n : ℕ). n) (λ n. is_done c.args.tasks.now.done n ≡ true) c.args.again.now

pub is_done-requires : goal.is_done-requires
is_done-requires c =
    let tasks = c.args.tasks.now in
    reader_at tasks c.args.task (length tasks.done) c.in_ok-readers.readers.items c.as_slice-reader-items.result.now c.loop-reader.reader-index c.requires.inside c.in_ok-readers.ensures c.as_slice-reader-items.ensures.value c.loop-reader-test.true

pub loop-reader-preserved : goal.loop-reader-preserved
loop-reader-preserved c =
    let done = c.args.tasks.now.done in
    let items = c.as_slice-reader-items.result.now in
    let k = c.loop-reader.reader-index in
    let old = c.args.again.now in
    let new = c.insert_if.new.self in
    subst (λ (l : List ℕ). Finds old (Led (λ (n : ℕ). n) (λ n. is_done done n ≡ true) l) new) (sym (take_more items k 0 c.loop-reader-test.true))
    (led_if (λ (n : ℕ). n) (λ n. is_done done n ≡ true) old c.loop-reader.again new (take k items) (get_or items k 0) c.is_done.result
    c.loop-reader.invariant (λ e. sym c.is_done.ensures ∙ e) (λ e. c.is_done.ensures ∙ e) c.in_ok-insert_if.ensures.yes c.insert_if.ensures.no)

pub returns : goal.returns
returns c =
    let tasks = c.args.tasks.now in
    let items = c.as_slice-reader-items.result.now in
    let k = c.loop-reader.reader-index in
    let old = c.args.again.now in
    let new = c.loop-reader.again in
    let all : take k items ≡ c.in_ok-readers.readers.items = take_all k items c.loop-reader-test.false ∙ c.as_slice-reader-items.ensures.value in
    readers_found tasks c.args.task c.in_ok-readers.readers.items old new (λ n. is_done tasks.done n ≡ true) c.in_ok-readers.ensures
    (subst (λ (l : List ℕ). Finds old (Led (λ (n : ℕ). n) (λ n. is_done tasks.done n ≡ true) l) new) all c.loop-reader.invariant)
