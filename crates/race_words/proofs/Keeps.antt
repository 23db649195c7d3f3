-- Each step keeps the rule.
use Rattle.std.proofs.Common.{◌≡◌, ◌≢◌, ℕ, zero, suc, ◌+◌, ◌<◌, ◌≤◌, ◌==◌, ◌&&◌, List, [], ◌∷◌, ◌++◌, set, get_or, Bool, true, false, true≢false, refl, sym, ap, ◌∙◌, subst, ⊎_elim, arith, cond, sum_by, replicate}
use Rattle.std.specs.Prelude.{slice_index, All, Option, Some, None}
use Rattle.std.proofs.lemmas.Bool.Decides.{nat_tests}
use Rattle.std.proofs.lemmas.List.Elements.{All-append}
use Rattle.std.proofs.lemmas.List.Sums.{sum_by-append, sum_by-cons}
use Rattle.std.proofs.Math.ListN.{length-set}
use Rattle.std.proofs.lemmas.List.{length-replicate}
use mathlib.Core.Option.{some, some-ne-none, some-injective}
use lib.ListN.{get_elem?}
use Rattle.atomic_table.proofs.Lists.{at_set, at_snoc, set_again}
use Rattle.race_words.specs.declared.view.Observation.{Observation}
use Rattle.race_words.specs.declared.view.View.{View}
use Rattle.race_words.specs.Words.{round_of, winner_of, undecided, decided}
use Rattle.race_words.specs.Views.{opening_view, newcomer, shown, win, observing, began, joined}
use Rattle.race_words.specs.Kept.{Stands, is_win, wins, Fits, IsKept, Agree, observed}
use Rattle.race_words.proofs.Lists.{at_same, at_other, sum_set, sum_none, at_most_sum}
use Rattle.race_words.proofs.Winners.{round_of-undecided, round_of-decided, winner_of-undecided, winner_of-decided, no_winner, if_some, same_or_not}

abbrev as_one : Bool → ℕ
as_one b = cond b 1 0

off : false ≡ true → ⊥
off e = true≢false (sym e)

all_one : {A : Type 0} (P : A → Type 0) (x : A) → P x → All P (x ∷ [])
all_one P x h zero d k = h
all_one P x h (suc n) d k = absurd (omega arith)

wins-push : (lane round : ℕ) (os : List Observation) (o : Observation) → wins lane round (os ++ o ∷ []) ≡ wins lane round os + as_one (is_win lane round o)
wins-push lane round os o = sum_by-append (λ x. cond (is_win lane round x) 1 0) os (o ∷ []) ∙ omega arith

wins-append : (lane round : ℕ) (xs ys : List Observation) → wins lane round (xs ++ ys) ≡ wins lane round xs + wins lane round ys
wins-append lane round xs ys = sum_by-append (λ x. cond (is_win lane round x) 1 0) xs ys

wins_none : (lane round : ℕ) (xs : List Observation) → All (λ o. is_win lane round o ≡ false) xs → wins lane round xs ≡ 0
wins_none lane round [] none = refl
wins_none lane round (x ∷ xs) none =
    let here : as_one (is_win lane round x) ≡ as_one false = ap as_one (none 0 x (omega arith)) in
    omega (arith, sum_by-cons (λ o. cond (is_win lane round o) 1 0) x xs, here, wins_none lane round xs (λ k d h. none (suc k) d (omega (arith, h))))

-- what a seat keeps where the words change and no round does
fits_move : (lanes m : ℕ) (f g : ℕ → ℕ → ℕ) (words now : List ℕ) (seat : ℕ) (v : View) → ((o : Observation) → Stands f words o → Stands g now o) → ((lane : ℕ) → round_of (slice_index now lane) ≡ round_of (slice_index words lane)) → Fits lanes m f words seat v → Fits lanes m g now seat v
fits_move lanes m f g words now seat v moves same fits = record {
  stands = λ k d h. moves (get_or v.observations k d) (fits.stands k d h);
  one = fits.one;
  long = fits.long;
  rounds = λ master lane. fits.rounds master lane ∙ sym (same lane);
}

fits_set : (lanes m : ℕ) (f : ℕ → ℕ → ℕ) (words : List ℕ) (views : List View) (id : ℕ) (w : View) → ((j : ℕ) (u : View) → j ≢ id → get_elem? views j ≡ some u → Fits lanes m f words j u) → Fits lanes m f words id w → (j : ℕ) (u : View) → get_elem? (set views id w) j ≡ some u → Fits lanes m f words j u
fits_set lanes m f words views id w others mine j u e =
    ⊎_elim
    (λ (x : (j ≡ id) × (w ≡ u)). subst (λ (y : ℕ × View). Fits lanes m f words y.0 y.1) (λ i. (sym x.0 i, x.1 i)) mine)
    (λ (x : (j ≢ id) × (get_elem? views j ≡ some u)). others j u x.0 x.1)
    (at_set views id j w u e)

-- a seat observes something that stands
pub observes : (lanes m : ℕ) (f : ℕ → ℕ → ℕ) (words : List ℕ) (views : List View) (id : ℕ) (v : View) (o : Observation) → IsKept lanes m f words views → get_elem? views id ≡ some v → Stands f words o
    → ((lane round : ℕ) → sum_by (λ (u : View). wins lane round u.observations) views + as_one (is_win lane round o) ≤ 1) → IsKept lanes m f words (set views id (observing v o))
observes lanes m f words views id v o kept at stands once =
    let fits = kept.seats id v at in
    record {
      count = kept.count;
      winners = kept.winners;
      seats = fits_set lanes m f words views id (observing v o) (λ j u n e. kept.seats j u e)
          (record { stands = All-append (Stands f words) v.observations (o ∷ []) fits.stands (all_one (Stands f words) o stands); one = fits.one; long = fits.long; rounds = fits.rounds });
      once = λ lane round. omega (arith, sum_set (λ (u : View). wins lane round u.observations) views id v (observing v o) at, wins-push lane round v.observations o, once lane round);
    }

not_won : (lane round a b : ℕ) (c : Option ℕ) → as_one (is_win lane round (shown a b c)) ≡ 0
not_won lane round a b c = refl

-- a load observes what it finds
pub keeps_observed : (lanes m : ℕ) (f : ℕ → ℕ → ℕ) (words : List ℕ) (views : List View) (id : ℕ) (v : View) (lane : ℕ) → IsKept lanes m f words views → get_elem? views id ≡ some v → IsKept lanes m f words (set views id (observed lane (slice_index words lane) v))
keeps_observed lanes m f words views id v lane kept at =
    let word = slice_index words lane in
    observes lanes m f words views id v (shown lane (round_of word) (winner_of word)) kept at
    (record { reached = omega arith; names = λ k e. kept.winners lane k e; stays = λ k e same. e; won = λ e. absurd (off e) })
    (λ l r. omega (arith, kept.once l r, not_won l r lane (round_of word) (winner_of word)))

-- the winners once this round is decided
abbrev pub chosen : (ℕ → ℕ → ℕ) → ℕ → ℕ → ℕ → ℕ → ℕ → ℕ
chosen f lane round runner l r = cond ((l == lane) && (r == round)) runner (f l r)

chosen-here : (f : ℕ → ℕ → ℕ) (lane round runner l r : ℕ) → l ≡ lane → r ≡ round → chosen f lane round runner l r ≡ runner
chosen-here f lane round runner l r e h = let both : ((l == lane) && (r == round)) ≡ true = grind (arith, nat_tests) in ap (λ b. cond b runner (f l r)) both

chosen-lane : (f : ℕ → ℕ → ℕ) (lane round runner l r : ℕ) → l ≢ lane → chosen f lane round runner l r ≡ f l r
chosen-lane f lane round runner l r n = let not_both : ((l == lane) && (r == round)) ≡ false = grind (arith, nat_tests) in ap (λ b. cond b runner (f l r)) not_both

chosen-round : (f : ℕ → ℕ → ℕ) (lane round runner l r : ℕ) → r ≢ round → chosen f lane round runner l r ≡ f l r
chosen-round f lane round runner l r n = let not_both : ((l == lane) && (r == round)) ≡ false = grind (arith, nat_tests) in ap (λ b. cond b runner (f l r)) not_both

-- an undecided round is decided
module _ (lanes m : ℕ) (f : ℕ → ℕ → ℕ) (words : List ℕ) (views : List View) (lane round runner : ℕ) (kept : IsKept lanes m f words views) (in_lanes : lane < lanes) (is : slice_index words lane ≡ undecided round) (small : runner < 255) where
  abbrev now : List ℕ
  now = set words lane (decided round runner)

  abbrev g : ℕ → ℕ → ℕ
  g = chosen f lane round runner

  here : slice_index now lane ≡ decided round runner
  here = at_same words lane (decided round runner) (omega (arith, kept.count, in_lanes))

  was_round : round_of (slice_index words lane) ≡ round
  was_round = ap round_of is ∙ round_of-undecided round

  was_open : winner_of (slice_index words lane) ≡ None
  was_open = ap winner_of is ∙ winner_of-undecided round

  is_round : round_of (slice_index now lane) ≡ round
  is_round = ap round_of here ∙ round_of-decided round runner small

  is_winner : winner_of (slice_index now lane) ≡ Some runner
  is_winner = ap winner_of here ∙ winner_of-decided round runner small

  same_rounds : (l : ℕ) → round_of (slice_index now l) ≡ round_of (slice_index words l)
  same_rounds l =
      ⊎_elim (λ (e : l ≡ lane). ap (λ n. round_of (slice_index now n)) e ∙ is_round ∙ sym was_round ∙ sym (ap (λ n. round_of (slice_index words n)) e))
      (λ (e : l ≢ lane). ap round_of (at_other words lane l (decided round runner) e)) (same_or_not l lane)

  -- nothing that names a runner is observed of this round
  none_yet : (o : Observation) → Stands f words o → (k : ℕ) → o.winner ≡ Some k → o.lane ≡ lane → o.round ≡ round → ⊥
  none_yet o s k named e r =
      let current : o.round ≡ round_of (slice_index words o.lane) = r ∙ sym was_round ∙ sym (ap (λ n. round_of (slice_index words n)) e) in
      no_winner (slice_index words lane) k was_open (ap (λ n. winner_of (slice_index words n)) (sym e) ∙ s.stays k named current)

  names_on : (o : Observation) → Stands f words o → (k : ℕ) → o.winner ≡ Some k → k ≡ g o.lane o.round
  names_on o s k named =
      s.names k named
      ∙ sym (⊎_elim
      (λ (e : o.lane ≡ lane). chosen-round f lane round runner o.lane o.round (λ r. none_yet o s k named e r))
      (λ (e : o.lane ≢ lane). chosen-lane f lane round runner o.lane o.round e)
      (same_or_not o.lane lane))

  stays_on : (o : Observation) → Stands f words o → (k : ℕ) → o.winner ≡ Some k → o.round ≡ round_of (slice_index now o.lane) → winner_of (slice_index now o.lane) ≡ Some k
  stays_on o s k named r =
      ⊎_elim
      (λ (e : o.lane ≡ lane). absurd (none_yet o s k named e (r ∙ ap (λ n. round_of (slice_index now n)) e ∙ is_round)))
      (λ (e : o.lane ≢ lane). ap winner_of (at_other words lane o.lane (decided round runner) e) ∙ s.stays k named (r ∙ same_rounds o.lane))
      (same_or_not o.lane lane)

  moves : (o : Observation) → Stands f words o → Stands g now o
  moves o s = record {
    reached = omega (arith, s.reached, same_rounds o.lane);
    names = names_on o s;
    stays = stays_on o s;
    won = s.won;
  }

  winners_now : (l k : ℕ) → winner_of (slice_index now l) ≡ Some k → k ≡ g l (round_of (slice_index now l))
  winners_now l k h =
      ⊎_elim
      (λ (e : l ≡ lane).
      some-is (sym h ∙ ap (λ n. winner_of (slice_index now n)) e ∙ is_winner)
      ∙ sym (chosen-here f lane round runner l (round_of (slice_index now l)) e (ap (λ n. round_of (slice_index now n)) e ∙ is_round)))
      (λ (e : l ≢ lane).
      kept.winners l k (sym (ap winner_of (at_other words lane l (decided round runner) e)) ∙ h)
      ∙ ap (f l) (sym (same_rounds l))
      ∙ sym (chosen-lane f lane round runner l (round_of (slice_index now l)) e))
      (same_or_not l lane)
    where
      some-is : {a b : ℕ} → Some a ≡ Some b → a ≡ b
      some-is e = cc

  pub decide : IsKept lanes m g now views
  decide = record {
    count = length-set words lane (decided round runner) ∙ kept.count;
    winners = winners_now;
    seats = λ seat v at. fits_move lanes m f g words now seat v moves same_rounds (kept.seats seat v at);
    once = kept.once;
  }

  pub no_win : (l r : ℕ) → l ≡ lane → r ≡ round → sum_by (λ (u : View). wins l r u.observations) views ≡ 0
  no_win l r el er =
      sum_none (λ (u : View). wins l r u.observations) views
      (λ i u at. wins_none l r u.observations (λ k d h. not_here (get_or u.observations k d) ((kept.seats i u at).stands k d h)))
    where
      not_here : (o : Observation) → Stands f words o → is_win l r o ≡ false
      not_here o s =
          elim (is_win l r o) as (λ b. is_win l r o ≡ b → is_win l r o ≡ false)
          [ true ↦ λ e. absurd (bad e) | false ↦ λ e. e ] refl
        where
          bad : is_win l r o ≡ true → ⊥
          bad e =
              let w : o.won ≡ true = grind (arith, nat_tests) in
              let a : o.lane ≡ l = grind (arith, nat_tests) in
              let b : o.round ≡ r = grind (arith, nat_tests) in
              none_yet o s (s.won w).0 (s.won w).1 (a ∙ el) (b ∙ er)

  pub wins_round : (id : ℕ) (v : View) → get_elem? views id ≡ some v → IsKept lanes m g now (set views id (observing v (win lane round runner)))
  wins_round id v at =
      observes lanes m g now views id v (win lane round runner) decide at
      (record {
        reached = omega (arith, is_round);
        names = λ k e. sym (subst (λ o. o ≡ Some k → runner ≡ k) refl (λ h. cc) e) ∙ sym (chosen-here f lane round runner lane round refl refl);
        stays = λ k e same. is_winner ∙ e;
        won = λ e. (runner, refl);
      })
      (λ l r. elim (is_win l r (win lane round runner)) as (λ b. is_win l r (win lane round runner) ≡ b → sum_by (λ (u : View). wins l r u.observations) views + as_one b ≤ 1)
      [ true ↦ λ e. (let a : l ≡ lane = grind (arith, nat_tests) in let b : r ≡ round = grind (arith, nat_tests) in omega (arith, no_win l r a b)) | false ↦ λ e. omega (arith, kept.once l r) ] refl)

-- the master begins the next round
module _ (lanes m : ℕ) (f : ℕ → ℕ → ℕ) (words : List ℕ) (views : List View) (lane round : ℕ) (id : ℕ) (v : View) (kept : IsKept lanes m f words views) (at : get_elem? views id ≡ some v) (in_lanes : lane < lanes) (master : v.is_master ≡ true) (is : slice_index v.rounds lane + 1 ≡ round) where
  abbrev next : List ℕ
  next = set words lane (undecided round)

  abbrev w : View
  w = began lane round v

  fits : Fits lanes m f words id v
  fits = kept.seats id v at

  next_here : slice_index next lane ≡ undecided round
  next_here = at_same words lane (undecided round) (omega (arith, kept.count, in_lanes))

  next_round : round_of (slice_index next lane) ≡ round
  next_round = ap round_of next_here ∙ round_of-undecided round

  next_open : winner_of (slice_index next lane) ≡ None
  next_open = ap winner_of next_here ∙ winner_of-undecided round

  old_round : round_of (slice_index words lane) + 1 ≡ round
  old_round = omega (arith, fits.rounds master lane, is)

  elsewhere : (l : ℕ) → l ≢ lane → slice_index next l ≡ slice_index words l
  elsewhere l e = at_other words lane l (undecided round) e

  passes : (o : Observation) → Stands f words o → Stands f next o
  passes o s =
      ⊎_elim
      (λ (e : o.lane ≡ lane).
      let before : round_of (slice_index words o.lane) + 1 ≡ round = ap (λ n. round_of (slice_index words n) + 1) e ∙ old_round in
      let after : round_of (slice_index next o.lane) ≡ round = ap (λ n. round_of (slice_index next n)) e ∙ next_round in
      record {
        reached = omega (arith, s.reached, before, after);
        names = s.names;
        stays = λ k named r. absurd (omega (arith, s.reached, before, after, r));
        won = s.won;
      })
      (λ (e : o.lane ≢ lane).
      let same = elsewhere o.lane e in
      record {
        reached = omega (arith, s.reached, ap round_of same);
        names = s.names;
        stays = λ k named r. ap winner_of same ∙ s.stays k named (r ∙ ap round_of same);
        won = s.won;
      })
      (same_or_not o.lane lane)

  winners_next : (l k : ℕ) → winner_of (slice_index next l) ≡ Some k → k ≡ f l (round_of (slice_index next l))
  winners_next l k h =
      ⊎_elim
      (λ (e : l ≡ lane). absurd (no_winner (slice_index next lane) k next_open (ap (λ n. winner_of (slice_index next n)) (sym e) ∙ h)))
      (λ (e : l ≢ lane).
      let same = elsewhere l e in
      kept.winners l k (sym (ap winner_of same) ∙ h) ∙ ap (λ n. f l (round_of n)) (sym same))
      (same_or_not l lane)

  mine : Fits lanes m f next id w
  mine = record {
    stands = λ k d h. passes (get_or v.observations k d) (fits.stands k d h);
    one = fits.one;
    long = λ e. length-set v.rounds lane round ∙ fits.long e;
    rounds = λ e l.
        ⊎_elim
        (λ (x : l ≡ lane). ap (slice_index (set v.rounds lane round)) x ∙ at_same v.rounds lane round (omega (arith, fits.long e, in_lanes)) ∙ sym next_round ∙ sym (ap (λ n. round_of (slice_index next n)) x))
        (λ (x : l ≢ lane). at_other v.rounds lane l round x ∙ fits.rounds e l ∙ sym (ap round_of (elsewhere l x)))
        (same_or_not l lane);
  }

  theirs : (j : ℕ) (u : View) → j ≢ id → get_elem? views j ≡ some u → Fits lanes m f next j u
  theirs j u n e =
      let old = kept.seats j u e in
      record {
        stands = λ k d h. passes (get_or u.observations k d) (old.stands k d h);
        one = old.one;
        long = old.long;
        rounds = λ a l. absurd (n (old.one a ∙ sym (fits.one master)));
      }

  pub begins : IsKept lanes m f next (set views id w)
  begins = record {
    count = length-set words lane (undecided round) ∙ kept.count;
    winners = winners_next;
    seats = fits_set lanes m f next views id w theirs mine;
    once = λ l r. omega (arith, kept.once l r, sum_set (λ (u : View). wins l r u.observations) views id v w at);
  }

fits_newcomer : (lanes m : ℕ) (f : ℕ → ℕ → ℕ) (words : List ℕ) (seat : ℕ) → Fits lanes m f words seat newcomer
fits_newcomer lanes m f words seat = record { stands = λ k d h. absurd (omega (arith, h)); one = λ e. absurd (off e); long = λ e. absurd (off e); rounds = λ e. absurd (off e) }

-- a new seat has observed nothing
pub splits : (lanes m : ℕ) (f : ℕ → ℕ → ℕ) (words : List ℕ) (views : List View) (id : ℕ) (v : View) → IsKept lanes m f words views → get_elem? views id ≡ some v → IsKept lanes m f words (set views id v ++ newcomer ∷ [])
splits lanes m f words views id v kept at = subst (λ vs. IsKept lanes m f words (vs ++ newcomer ∷ [])) (sym (set_again views id v at)) (record {
  count = kept.count;
  winners = kept.winners;
  seats = λ j u e. ⊎_elim (λ was. kept.seats j u was) (λ (same : newcomer ≡ u). subst (Fits lanes m f words j) same (fits_newcomer lanes m f words j)) (at_snoc views newcomer u j e);
  once = λ l r. omega (arith, kept.once l r, sum_by-append (λ (u : View). wins l r u.observations) views (newcomer ∷ []), no_wins l r);
})
  where
    no_wins : (l r : ℕ) → sum_by (λ (u : View). wins l r u.observations) (newcomer ∷ []) ≡ 0
    no_wins l r = refl

-- a seat takes in another
pub joins : (lanes m : ℕ) (f : ℕ → ℕ → ℕ) (words : List ℕ) (views : List View) (id : ℕ) (v : View) (other : ℕ) (u : View) → IsKept lanes m f words views → get_elem? views id ≡ some v → other ≢ id → get_elem? (set views id (joined v u)) other ≡ some u
    → IsKept lanes m f words (set (set views id (joined v u)) other newcomer)
joins lanes m f words views id v other u kept at apart there =
    let fits = kept.seats id v at in
    let theirs = ⊎_elim (λ (t : (other ≡ id) × (joined v u ≡ u)). absurd (apart t.0)) (λ (t : (other ≢ id) × (get_elem? views other ≡ some u)). kept.seats other u t.1) (at_set views id other (joined v u) u there) in
    record {
      count = kept.count;
      winners = kept.winners;
      seats = fits_set lanes m f words (set views id (joined v u)) other newcomer
          (λ j x _ e. fits_set lanes m f words views id (joined v u) (λ i y _ e'. kept.seats i y e')
          (record { stands = All-append (Stands f words) v.observations u.observations fits.stands theirs.stands; one = fits.one; long = fits.long; rounds = fits.rounds }) j x e)
          (fits_newcomer lanes m f words other);
      once = λ l r. omega (
        arith,
        kept.once l r,
        sum_set (λ (x : View). wins l r x.observations) views id v (joined v u) at,
        sum_set (λ (x : View). wins l r x.observations) (set views id (joined v u)) other u newcomer there,
        wins-append l r v.observations u.observations,
      );
    }

-- what a seat has observed names one runner for each lane and round, and one win at most
pub agrees : (lanes m : ℕ) (f : ℕ → ℕ → ℕ) (words : List ℕ) (views : List View) (id : ℕ) (v : View) → IsKept lanes m f words views → get_elem? views id ≡ some v → Agree v.observations
agrees lanes m f words views id v kept at = record {
  winner = f;
  names = λ k d h. if_some (get_or v.observations k d).winner ((kept.seats id v at).stands k d h).names;
  once = λ l r. omega (arith, kept.once l r, at_most_sum (λ (u : View). wins l r u.observations) views id v at);
}

slice_index-replicate : (n k : ℕ) → slice_index (replicate n 0) k ≡ 0
slice_index-replicate zero k = refl
slice_index-replicate (suc n) zero = refl
slice_index-replicate (suc n) (suc k) = slice_index-replicate n k

-- at first each lane is in round 0
pub opens : (lanes : ℕ) → IsKept lanes 0 (λ _ _. 0) (replicate lanes 0) (opening_view lanes ∷ [])
opens lanes = record {
  count = length-replicate lanes 0;
  winners = λ l k h. absurd (no_winner (slice_index (replicate lanes 0) l) k (ap winner_of (slice_index-replicate lanes l)) h);
  seats = first;
  once = λ l r. omega (arith, no_wins l r);
}
  where
    no_wins : (l r : ℕ) → sum_by (λ (u : View). wins l r u.observations) (opening_view lanes ∷ []) ≡ 0
    no_wins l r = refl

    fits : Fits lanes 0 (λ _ _. 0) (replicate lanes 0) 0 (opening_view lanes)
    fits = record { stands = λ k d h. absurd (omega (arith, h)); one = λ e. refl; long = λ e. length-replicate lanes 0; rounds = λ e l. slice_index-replicate lanes l ∙ sym (ap round_of (slice_index-replicate lanes l)) }

    first : (j : ℕ) (u : View) → get_elem? (opening_view lanes ∷ []) j ≡ some u → Fits lanes 0 (λ _ _. 0) (replicate lanes 0) j u
    first zero u e = subst (Fits lanes 0 (λ _ _. 0) (replicate lanes 0) 0) (some-injective _ _ e) fits
    first (suc j) u e = absurd (some-ne-none u (sym e))
