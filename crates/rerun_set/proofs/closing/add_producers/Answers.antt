use Rattle.std.proofs.Common.{◌≡◌, List, take, get_or, sym, ◌∙◌, subst}
use Rattle.std.specs.Prelude.{Contains}
use Rattle.std.proofs.lemmas.List.{take_all, take_more}
use Rattle.reader_index.specs.Links.{no_read}
use Rattle.reader_index.specs.Tasks.{reads_of}
use Rattle.reader_index.specs.declared.read.Read.{Read}
use Rattle.rerun_set.specs.Found.{Finds}
use Rattle.rerun_set.proofs.Leading.{Led, led_if, led_none}
use Rattle.rerun_set.proofs.Readers.{producers_found}
use Rattle.rerun_set.proofs.closing.add_producers.Goals as goal

pub loop-read-init : goal.loop-read-init
loop-read-init c = led_none (λ (read : Read). read.producer) (Contains c.args.lost.now) c.args.again.now

pub loop-read-preserved : goal.loop-read-preserved
loop-read-preserved c =
    let items = c.reads_of-read-items.result.now in
    let k = c.loop-read.read-index in
    let old = c.args.again.now in
    let new = c.insert_if.new.self in
    subst (λ (l : List Read). Finds old (Led (λ (read : Read). read.producer) (Contains c.args.lost.now) l) new) (sym (take_more items k no_read c.loop-read-test.true))
    (led_if (λ (read : Read). read.producer) (Contains c.args.lost.now) old c.loop-read.again new (take k items) (get_or items k no_read) c.contains.result
    c.loop-read.invariant (λ e. c.contains.ensures.0 e) (λ has. c.contains.ensures.1 has) c.in_ok-insert_if.ensures.yes c.insert_if.ensures.no)

pub returns : goal.returns
returns c =
    let tasks = c.args.tasks.now in
    let items = c.reads_of-read-items.result.now in
    let k = c.loop-read.read-index in
    let old = c.args.again.now in
    let new = c.loop-read.again in
    let all : take k items ≡ reads_of tasks c.args.task = take_all k items c.loop-read-test.false ∙ c.reads_of-read-items.ensures in
    producers_found tasks c.args.task old new (Contains c.args.lost.now)
    (subst (λ (l : List Read). Finds old (Led (λ (read : Read). read.producer) (Contains c.args.lost.now) l) new) all c.loop-read.invariant)
