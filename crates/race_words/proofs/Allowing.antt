-- What the table asks of each step.
use Rattle.std.proofs.Common.{◌≡◌, ℕ, ◌+◌, ◌<◌, ◌==◌, List, [], ◌∷◌, set, Bool, true, false, refl, sym, ap, ◌∙◌, subst, arith, cond, replicate}
use Rattle.std.specs.Prelude.{slice_index, Option, Some}
use Rattle.std.proofs.lemmas.Bool.Decides.{nat_tests}
use mathlib.Core.Option.{some, none}
use lib.ListN.{get_elem?}
use prog.Atomic.{either}
use Rattle.atomic_table.proofs.Lists.{set_again}
use Rattle.atomic_table.specs.Table.{State, Me, step, Allows, Splits, Joins, keeps, opening}
use Rattle.race_words.specs.declared.view.View.{View}
use Rattle.race_words.specs.Words.{round_of, winner_of, undecided, decided}
use Rattle.race_words.specs.Views.{opening_view, newcomer, observing, began, joined}
use Rattle.race_words.specs.Kept.{IsKept, Kept, Begins, ReadsRound, Observes, Decides, Compares, observed, exchanged}
use Rattle.race_words.proofs.Lists.{set_same}
use Rattle.race_words.proofs.Winners.{round_of-undecided, round_of-decided, winner_of-decided}
use Rattle.race_words.proofs.Keeps.{keeps_observed, wins_round, begins, splits, joins, agrees, opens}

module _ {S : Type 0} (lanes slots id : ℕ) (me : Me S View) (lane : ℕ) where
  pub may_observe : Allows (Kept lanes) slots id me lane (λ n. n) (Observes {S = S} (step slots lane 0 0 none) me)
  may_observe s kept len at low =
      let n = slice_index s.words lane in (
        observed lane n me.0,
        keeps,
        tt,
        (kept.0, kept.1, subst (λ ws. IsKept lanes kept.0 kept.1 ws (set s.views id (observed lane n me.0))) (sym (set_same s.words lane)) (keeps_observed lanes kept.0 kept.1 s.words s.views id me.0 lane kept.2 at)),
        (refl, refl),
      )

  same : (s : State S View) (kept : Kept lanes s) → get_elem? s.views id ≡ some me.0 → IsKept lanes kept.0 kept.1 (set s.words lane (slice_index s.words lane)) (set s.views id me.0)
  same s kept at = subst (λ (x : List ℕ × List View). IsKept lanes kept.0 kept.1 x.0 x.1) (λ i. (sym (set_same s.words lane) i, sym (set_again s.views id me.0 at) i)) kept.2

  pub may_read_round : Allows (Kept lanes) slots id me lane (λ n. n) (ReadsRound {S = S} (step slots lane 0 0 none) me)
  may_read_round s kept len at low = (me.0, keeps, tt, (kept.0, kept.1, same s kept at), (refl, refl, λ e. (kept.2.seats id me.0 at).rounds e lane))

  pub may_compare : Allows (Kept lanes) slots id me lane (λ n. n) (Compares {S = S} (step slots lane 0 0 none) me)
  may_compare s kept len at low = (me.0, keeps, tt, (kept.0, kept.1, same s kept at), (refl, refl, agrees lanes kept.0 kept.1 s.words s.views id me.0 kept.2 at))

  pub may_begin : (new round : ℕ) → lane < lanes → me.0.is_master ≡ true → slice_index me.0.rounds lane + 1 ≡ round → new ≡ undecided round → Allows (Kept lanes) slots id me lane (λ _. new) (Begins {S = S} (step slots lane new 0 none) me)
  may_begin new round inside master is new_is s kept len at low =
      let next : round_of new ≡ round = ap round_of new_is ∙ round_of-undecided round in (
        began lane (round_of new) me.0,
        keeps,
        tt,
        (
          kept.0,
          kept.1,
          subst (λ (x : ℕ × ℕ). IsKept lanes kept.0 kept.1 (set s.words lane x.0) (set s.views id (began lane x.1 me.0))) (λ i. (sym new_is i, sym next i))
              (begins lanes kept.0 kept.1 s.words s.views lane round id me.0 kept.2 at inside master is),
        ),
        (refl, refl),
      )

  pub may_decide : (round runner old new : ℕ) → lane < lanes → runner < 255 → old ≡ undecided round → new ≡ decided round runner → Allows (Kept lanes) slots id me lane (λ n. either (n == old) new n) (Decides {S = S} (step slots lane old new none) me)
  may_decide round runner old new inside small old_is new_is s kept len at low =
      let n = slice_index s.words lane in
      let k = by_found (n == old) refl in
      (exchanged lane old new n me.0, keeps, tt, (kept.0, k.0, k.1), (refl, refl))
    where
      by_found : (b : Bool) → (slice_index s.words lane == old) ≡ b
          → (g : ℕ → ℕ → ℕ)
          × IsKept lanes kept.0 g (set s.words lane (either b new (slice_index s.words lane)))
          (set s.views id
          (cond b (observing me.0 (record { lane = lane; round = round_of new; winner = winner_of new; won = true }))
          (observed lane (slice_index s.words lane) me.0)))
      by_found true e =
          let found : slice_index s.words lane ≡ old = grind (arith, nat_tests) in
          let r : round_of new ≡ round = ap round_of new_is ∙ round_of-decided round runner small in
          let k : winner_of new ≡ Some runner = ap winner_of new_is ∙ winner_of-decided round runner small in
          let w = wins_round lanes kept.0 kept.1 s.words s.views lane round runner kept.2 inside (found ∙ old_is) small id me.0 at in
          let P : ℕ × ℕ × Option ℕ → Type 0 = λ x. (g : ℕ → ℕ → ℕ) × IsKept lanes kept.0 g (set s.words lane x.0) (set s.views id (observing me.0 (record { lane = lane; round = x.1; winner = x.2; won = true }))) in
          subst P (λ i. (sym new_is i, sym r i, sym k i)) (_, w)
      by_found false e =
          (kept.1, subst (λ ws. IsKept lanes kept.0 kept.1 ws (set s.views id (observed lane (slice_index s.words lane) me.0))) (sym (set_same s.words lane)) (keeps_observed lanes kept.0 kept.1 s.words s.views id me.0 lane kept.2 at))

module _ {S : Type 0} (lanes id : ℕ) (v : View) where
  pub may_split : Splits {S = S} (Kept lanes) id v v newcomer
  may_split s kept at = (kept.0, kept.1, splits lanes kept.0 kept.1 s.words s.views id v kept.2 at)

  pub may_join : (other : ℕ) (u : View) → Joins {S = S} (Kept lanes) id v other u (joined v u) newcomer
  may_join other u s kept at apart there = (kept.0, kept.1, joins lanes kept.0 kept.1 s.words s.views id v other u kept.2 at apart there)

pub may_open : (S : Type 0) (lanes : ℕ) (words : List ℕ) → words ≡ replicate lanes 0 → Kept {S = S} lanes (opening words [] (opening_view lanes))
may_open S lanes words is = (0, (λ _ _. 0), subst (λ ws. IsKept lanes 0 (λ _ _. 0) ws (opening_view lanes ∷ [])) (sym is) (opens lanes))
