-- What is licensed of each run: its resets, and that no attempt is named twice.
use Rattle.std.proofs.Common.{◌≡◌, ◌≢◌, List, [], ◌∷◌, Option, Some, None, refl, sym, ◌∙◌, ap, subst, arith, Contains, All, inl, inr}
use Rattle.std.proofs.lemmas.List.Elements.{All-nil, All-cons, All-weaker, Contains-append_left, Contains-push}
use Rattle.std.proofs.lemmas.List.Kept.{AllPairs-cons}
use Rattle.estate.specs.declared.part_name.PartName.{PartName}
use Rattle.job_soundness.specs.Jobs.{Job}
use Rattle.core_model.specs.declared.arrival.Arrival.{Arrival}
use Rattle.core_model.specs.declared.arrival.Arrival.TheVariants.{Win, Stale, Double, Fault, Lost, NoMemory}
use Rattle.core_model.specs.declared.step.Step.{Step}
use Rattle.core_model.specs.declared.step.Step.TheVariants.{Tick, Arrive, Make, Widen, Decide, Deploy, Reset, Spent, Flush, Commit, End}
use Rattle.core_model.specs.Arrivals.{ArrivesBy}
use Rattle.core_model.specs.Cores.{CoreState, Deployment, MayGiveName, Moment}
use Rattle.core_model.specs.Laws.{OnceLaw}
use Rattle.core_model.specs.Licensed.{ResetsGone, ResetsTheGone, steps_of}
use Rattle.core_model.specs.Moves.{Moves, Rests, Run, Taken}
use Rattle.core_model.specs.Turns.{AreDistinct, deployed_by, deployed_in}

-- ---- resets

resets_gone : (job : Job) (step : Step) (taken : Taken) → Moves job step taken.before taken.after → ResetsGone job step taken
resets_gone job (Tick now) taken moves = tt
resets_gone job (Arrive name kind) taken moves = tt
resets_gone job (Make vertex) taken moves = tt
resets_gone job (Widen node side) taken moves = tt
resets_gone job (Decide vertex) taken moves = tt
resets_gone job (Deploy name worker) taken moves = tt
resets_gone job (Reset gone subs) taken moves = moves.are
resets_gone job (Spent name) taken moves = tt
resets_gone job (Flush count) taken moves = tt
resets_gone job (Commit fresh) taken moves = tt
resets_gone job (End failed) taken moves = tt

all_gone : (job : Job) (start end : Moment) (trace : List Taken) → Run job start trace end → ResetsTheGone job trace
all_gone job start end [] run = All-nil (λ taken. ResetsGone job taken.step taken)
all_gone job start end (taken ∷ trace) (rests, takes, run) =
    All-cons (λ taken. ResetsGone job taken.step taken) taken trace (resets_gone job taken.step taken takes.moves) (all_gone job taken.after end trace run)

-- ---- names that were given

abbrev GivesOn : CoreState → CoreState → Type 0
GivesOn old new = (name : PartName) → Contains old.attempts.given name → Contains new.attempts.given name

same_given : (old new : CoreState) → new.attempts.given ≡ old.attempts.given → GivesOn old new
same_given old new is name has = subst (λ (l : List PartName). Contains l name) (sym is) has

by_arrival : (job : Job) (kind : Arrival) (attempt : Deployment) (old new : CoreState) → ArrivesBy job attempt kind old new → new.attempts.given ≡ old.attempts.given
by_arrival job Win attempt old new by = ap (λ (c : CoreState). c.attempts.given) by.is
by_arrival job (Stale input) attempt old new by = ap (λ (c : CoreState). c.attempts.given) by.1
by_arrival job (Double winner) attempt old new by = ap (λ (c : CoreState). c.attempts.given) by.1
by_arrival job (Fault code) attempt old new (inl fails) = ap (λ (c : CoreState). c.attempts.given) fails.is
by_arrival job (Fault code) attempt old new (inr late) = ap (λ (c : CoreState). c.attempts.given) late.1
by_arrival job (Lost winner) attempt old new by = ap (λ (c : CoreState). c.attempts.given) by.1
by_arrival job NoMemory attempt old new by = ap (λ (c : CoreState). c.attempts.given) by

gives_more : (old new named : CoreState) → MayGiveName old named → new.attempts.given ≡ named.attempts.given → GivesOn old new
gives_more old new named (given, few, is) same name has =
    subst (λ (l : List PartName). Contains l name) (sym (same ∙ ap (λ (c : CoreState). c.attempts.given) is)) (Contains-append_left old.attempts.given given name has)

-- a name that was given stays given
pub given_on : (job : Job) (step : Step) (old new : Moment) → Moves job step old new → (name : PartName) → Contains old.core.attempts.given name → Contains new.core.attempts.given name
given_on job (Tick now) old new moves = same_given old.core new.core (ap (λ (c : CoreState). c.attempts.given) moves.is)
given_on job (Arrive name kind) old new moves = same_given old.core new.core (by_arrival job kind moves.attempt old.core new.core moves.by)
given_on job (Make vertex) old new moves = same_given old.core new.core (ap (λ (c : CoreState). c.attempts.given) (moves.1).1)
given_on job (Widen node side) old new moves = same_given old.core new.core (ap (λ (c : CoreState). c.attempts.given) moves.1)
given_on job (Decide vertex) old new moves = same_given old.core new.core (ap (λ (c : CoreState). c.attempts.given) (moves.1).1)
given_on job (Deploy name worker) old new moves = λ other has.
    subst (λ (l : List PartName). Contains l other) (sym (ap (λ (c : CoreState). c.attempts.given) moves.is)) (Contains-append_left old.core.attempts.given (name ∷ []) other has)
given_on job (Reset gone subs) old new moves = gives_more old.core new.core moves.named moves.gave (ap (λ (c : CoreState). c.attempts.given) moves.is)
given_on job (Spent name) old new moves = gives_more old.core new.core moves.named moves.gave (ap (λ (c : CoreState). c.attempts.given) moves.is)
given_on job (Flush count) old new moves = same_given old.core new.core (ap (λ (c : CoreState). c.attempts.given) moves.is)
given_on job (Commit fresh) old new moves = same_given old.core new.core (ap (λ (c : CoreState). c.attempts.given) moves.is)
given_on job (End failed) old new moves = same_given old.core new.core (ap (λ (c : CoreState). c.attempts.given) moves.is)

-- ---- each name once

abbrev IsUnused : CoreState → PartName → Type 0
IsUnused core name = Contains core.attempts.given name → ⊥

-- a step's own name, if it has one, and the names behind it
abbrev with_first : Option PartName → List PartName → List PartName
with_first None names = names
with_first (Some name) names = name ∷ names

cons_unused : (core : CoreState) (first : Option PartName) (names : List PartName) → ((name : PartName) → first ≡ Some name → IsUnused core name) → All (IsUnused core) names → All (IsUnused core) (with_first first names)
cons_unused core None names own rest = rest
cons_unused core (Some name) names own rest = All-cons (IsUnused core) name names (own name refl) rest

cons_distinct : (core : CoreState) (first : Option PartName) (names : List PartName) → ((name : PartName) → first ≡ Some name → Contains core.attempts.given name) → All (IsUnused core) names → AreDistinct names → AreDistinct (with_first first names)
cons_distinct core None names own unused distinct = distinct
cons_distinct core (Some name) names own unused distinct =
    AllPairs-cons (λ a b. a ≢ b) name names
    (All-weaker (IsUnused core) (λ other. name ≢ other) (λ other free same. free (subst (Contains core.attempts.given) same (own name refl))) names unused) distinct

-- what a step deploys was not given before it, and is given behind it
own_name : (job : Job) (step : Step) (old new : Moment) → Moves job step old new → (name : PartName) → deployed_by step ≡ Some name → IsUnused old.core name × Contains new.core.attempts.given name
own_name job (Deploy other worker) old new moves name is = at (some_name other name is)
  where
    some_name : (a b : PartName) → Some a ≡ Some b → a ≡ b
    some_name a b is = cc is

    at : other ≡ name → IsUnused old.core name × Contains new.core.attempts.given name
    at same = (
      λ has. moves.fresh (subst (Contains old.core.attempts.given) (sym same) has),
      subst (Contains new.core.attempts.given) same (subst (λ (l : List PartName). Contains l other) (sym (ap (λ (c : CoreState). c.attempts.given) moves.is)) (Contains-push old.core.attempts.given other)),
    )
own_name job (Tick now) old new moves name is = absurd (cc is)
own_name job (Arrive other kind) old new moves name is = absurd (cc is)
own_name job (Make vertex) old new moves name is = absurd (cc is)
own_name job (Widen node side) old new moves name is = absurd (cc is)
own_name job (Decide vertex) old new moves name is = absurd (cc is)
own_name job (Reset gone subs) old new moves name is = absurd (cc is)
own_name job (Spent other) old new moves name is = absurd (cc is)
own_name job (Flush count) old new moves name is = absurd (cc is)
own_name job (Commit fresh) old new moves name is = absurd (cc is)
own_name job (End failed) old new moves name is = absurd (cc is)

first_deployed : (step : Step) (steps : List Step) → deployed_in (step ∷ steps) ≡ with_first (deployed_by step) (deployed_in steps)
first_deployed (Tick now) steps = refl
first_deployed (Arrive name kind) steps = refl
first_deployed (Make vertex) steps = refl
first_deployed (Widen node side) steps = refl
first_deployed (Decide vertex) steps = refl
first_deployed (Deploy name worker) steps = refl
first_deployed (Reset gone subs) steps = refl
first_deployed (Spent name) steps = refl
first_deployed (Flush count) steps = refl
first_deployed (Commit fresh) steps = refl
first_deployed (End failed) steps = refl

before_same : (old new : Moment) → Rests old new → (name : PartName) → IsUnused new.core name → IsUnused old.core name
before_same old new rests name unused has = unused (subst (λ (c : CoreState). Contains c.attempts.given name) (sym rests.core) has)

both : (job : Job) (start end : Moment) (trace : List Taken) → Run job start trace end → All (IsUnused start.core) (deployed_in (steps_of trace)) × AreDistinct (deployed_in (steps_of trace))
both job start end [] run = (All-nil (IsUnused start.core), λ i j d lt less. absurd (omega (arith, less)))
both job start end (taken ∷ trace) (rests, takes, run) =
    let rest = both job taken.after end trace run in
    let names = deployed_in (steps_of trace) in
    let own = own_name job taken.step taken.before taken.after takes.moves in
    let is = first_deployed taken.step (steps_of trace) in
    let before : All (IsUnused taken.before.core) names =
    All-weaker (IsUnused taken.after.core) (IsUnused taken.before.core) (λ name unused has. unused (given_on job taken.step taken.before taken.after takes.moves name has)) names rest.0 in
    let unused = cons_unused taken.before.core (deployed_by taken.step) names (λ name same. (own name same).0) before in
    let distinct = cons_distinct taken.after.core (deployed_by taken.step) names (λ name same. (own name same).1) rest.0 rest.1 in (
      subst (All (IsUnused start.core)) (sym is) (All-weaker (IsUnused taken.before.core) (IsUnused start.core) (before_same start taken.before rests) (with_first (deployed_by taken.step) names) unused),
      subst AreDistinct (sym is) distinct,
    )

pub run_once : OnceLaw
run_once job start end trace run = (all_gone job start end trace run, (both job start end trace run).1)
