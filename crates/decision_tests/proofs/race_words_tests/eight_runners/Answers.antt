use Rattle.std.proofs.Common.{◌∷◌, [], sym, subst}
use Rattle.std.specs.Prelude.{All}
use Rattle.std.proofs.lemmas.List.Elements.{All-nil, All-cons, All-append}
use Rattle.decision_tests.specs.declared.race_words_tests.Runner.{Runner}
use Rattle.race_words.specs.Seats.{IsSeatOf}
use Rattle.decision_tests.proofs.race_words_tests.eight_runners.Goals as goal

pub loop-number-preserved : goal.loop-number-preserved
loop-number-preserved c =
    let P = λ (runner : Runner). IsSeatOf c.args.races.now runner.seat in (
      c.split.ensures.seats.0,
      subst (All P) (sym c.in_ok-push.ensures.items)
          (All-append P c.loop-number.runners.items (_ ∷ []) c.loop-number.invariant.1 (All-cons P _ [] c.split.ensures.seats.1 (All-nil P))),
    )
