use Rattle.std.proofs.Common.{◌≡◌, ◌≤◌, ℕ, List, length, get_or, refl, sym, subst, arith, true, false, below_more}
use Rattle.std.proofs.lemmas.Bool.{false≢true}
use Rattle.reader_index.specs.Tasks.{is_done}
use Rattle.rerun_set.proofs.Readers.{AreItsReaders, none_open, open_at, reader_at}
use Rattle.rerun_set.proofs.closing.has_open_reader.Goals as goal

pub loop-reader-init : goal.loop-reader-init
loop-reader-init c = λ k lt. absurd (omega (arith, lt))

pub is_done-requires : goal.is_done-requires
is_done-requires c =
    let tasks = c.args.tasks.now in
    reader_at tasks c.args.task (length tasks.done) c.in_ok-readers.readers.items c.as_slice-reader-items.result.now c.loop-reader.reader-index c.requires.inside c.in_ok-readers.ensures c.as_slice-reader-items.ensures.value c.loop-reader-test.true

pub returns-then-not-is_done : goal.returns-then-not-is_done
returns-then-not-is_done c =
    let tasks = c.args.tasks.now in
    let items = c.as_slice-reader-items.result.now in
    let same : AreItsReaders tasks c.args.task items = subst (λ (l : List ℕ). AreItsReaders tasks c.args.task l) (sym c.as_slice-reader-items.ensures.value) c.in_ok-readers.ensures in
    let is : is_done tasks.done (get_or items c.loop-reader.reader-index 0) ≡ false = cc in
    (λ e. open_at tasks c.args.task items c.loop-reader.reader-index same c.loop-reader-test.true is, λ has. refl)

pub loop-reader-preserved : goal.loop-reader-preserved
loop-reader-preserved c =
    let items = c.as_slice-reader-items.result.now in
    let is : is_done c.args.tasks.now.done (get_or items c.loop-reader.reader-index 0) ≡ true = cc in
    below_more (λ (k : ℕ). is_done c.args.tasks.now.done (get_or items k 0) ≡ true) c.loop-reader.reader-index c.loop-reader.invariant is

pub returns : goal.returns
returns c =
    let tasks = c.args.tasks.now in
    let items = c.as_slice-reader-items.result.now in
    let same : AreItsReaders tasks c.args.task items = subst (λ (l : List ℕ). AreItsReaders tasks c.args.task l) (sym c.as_slice-reader-items.ensures.value) c.in_ok-readers.ensures in
    let end : length items ≤ c.loop-reader.reader-index = c.loop-reader-test.false in (
      λ e. absurd (false≢true e),
      λ has. absurd (none_open tasks c.args.task items same (λ k lt. c.loop-reader.invariant k (omega (arith, lt, end))) has),
    )
