use Rattle.std.proofs.Common.{◌≡◌, ◌<◌, ℕ, List, length, take, get_or, sym, ◌∙◌, subst}
use Rattle.std.proofs.lemmas.List.{take_all, take_more}
use Rattle.std.proofs.lemmas.List.Elements.{All-same}
use Rattle.rerun_set.specs.Found.{Finds}
use Rattle.rerun_set.specs.Reruns.{HasOpenReader}
use Rattle.rerun_set.proofs.Leading.{Led, led_if, led_none}
use Rattle.rerun_set.proofs.Readers.{listed_found}
use Rattle.rerun_set.proofs.closing.add_wanted.Goals as goal

pub loop-task-init : goal.loop-task-init
loop-task-init c = led_none (λ (n : ℕ). n) (HasOpenReader c.args.tasks.now) c.args.again.now

pub has_open_reader-requires-clause-task : goal.has_open_reader-requires-clause-task
has_open_reader-requires-clause-task c =
    let items = c.as_slice-task-items.result.now in
    All-same (λ n. n < length c.args.tasks.now.done) items c.args.lost.now c.as_slice-task-items.ensures.items c.requires.lost c.loop-task.task-index 0 c.loop-task-test.true

pub loop-task-preserved : goal.loop-task-preserved
loop-task-preserved c =
    let items = c.as_slice-task-items.result.now in
    let k = c.loop-task.task-index in
    let old = c.args.again.now in
    let new = c.insert_if.new.self in
    subst (λ (l : List ℕ). Finds old (Led (λ (n : ℕ). n) (HasOpenReader c.args.tasks.now) l) new) (sym (take_more items k 0 c.loop-task-test.true))
    (led_if (λ (n : ℕ). n) (HasOpenReader c.args.tasks.now) old c.loop-task.again new (take k items) (get_or items k 0) c.in_ok-open.open
    c.loop-task.invariant (λ e. c.in_ok-open.ensures.0 e) (λ p. c.in_ok-open.ensures.1 p) c.in_ok-insert_if.ensures.yes c.insert_if.ensures.no)

pub returns : goal.returns
returns c =
    let items = c.as_slice-task-items.result.now in
    let k = c.loop-task.task-index in
    let all : take k items ≡ c.args.lost.now = take_all k items c.loop-task-test.false ∙ c.as_slice-task-items.ensures.items in
    listed_found c.args.lost.now c.args.again.now c.loop-task.again (HasOpenReader c.args.tasks.now)
    (subst (λ (l : List ℕ). Finds c.args.again.now (Led (λ (n : ℕ). n) (HasOpenReader c.args.tasks.now) l) c.loop-task.again) all c.loop-task.invariant)
