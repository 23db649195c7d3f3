-- The commit of a run is the job's, and the only one under its id.
use Rattle.std.proofs.Common.{◌≡◌, ℕ, ◌+◌, ◌<◌, Bool, true, false, IsSome, List, [], ◌∷◌, ◌++◌, length, length-append, Some, None, refl, sym, subst, ◌∙◌, ap, arith, if◌then◌else◌}
use Rattle.std.specs.Prelude.{cond}
use Rattle.std.specs.Str.{bytes_eq}
use Rattle.std.proofs.lemmas.Slice.Eq.{bytes_eq-Decides}
use Rattle.std.proofs.lemmas.List.Elements.{filter-append}
use Rattle.estate.specs.Holding.{job_under}
use Rattle.estate.specs.declared.commit.Commit.{Commit}
use Rattle.batch_commands.specs.Commits.{commits_under}

-- no job's text is found under an id that no commit has
none_under : (id : List ℕ) (commits : List Commit) → job_under id commits ≡ None → commits_under id commits ≡ []
none_under id [] none = refl
none_under id (commit ∷ commits) none = by (bytes_eq commit.id id) none (none_under id commits)
  where
    by : (b : Bool) → (if b then Some commit.job else job_under id commits) ≡ None → (job_under id commits ≡ None → commits_under id commits ≡ [])
        → cond b (commit ∷ commits_under id commits) (commits_under id commits) ≡ []
    by true none later = cc
    by false none later = later none

-- a commit that is added under such an id is the only one
pub once_under : (commit : Commit) (old new : List Commit) → job_under commit.id old ≡ None → new ≡ old ++ commit ∷ [] → commits_under commit.id new ≡ commit ∷ []
once_under commit old new none is =
    ap (commits_under commit.id) is
    ∙ filter-append (λ (other : Commit). bytes_eq other.id commit.id) old (commit ∷ [])
    ∙ ap (λ (l : List Commit). l ++ commits_under commit.id (commit ∷ [])) (none_under commit.id old none)
    ∙ ap (λ (b : Bool). cond {A = List Commit} b (commit ∷ []) []) ((bytes_eq-Decides commit.id commit.id).1 refl)

-- where an id has a job's text it has a commit
some_under : (id : List ℕ) (commits : List Commit) → IsSome (job_under id commits) → 0 < length (commits_under id commits)
some_under id [] some = let impossible : false ≡ true = some in cc
some_under id (commit ∷ commits) some = by (bytes_eq commit.id id) some (some_under id commits)
  where
    by : (b : Bool) → IsSome (if b then Some commit.job else job_under id commits) → (IsSome (job_under id commits) → 0 < length (commits_under id commits))
        → 0 < length (cond b (commit ∷ commits_under id commits) (commits_under id commits))
    by true some later = omega arith
    by false some later = later some

-- a commit under an id that has one already is not the only one
pub not_once : (commit : Commit) (id : List ℕ) (old new : List Commit) → id ≡ commit.id → IsSome (job_under id old) → new ≡ old ++ commit ∷ [] → commits_under commit.id new ≡ commit ∷ [] → ⊥
not_once commit id old new same some added once =
    let before : 0 < length (commits_under commit.id old) = some_under commit.id old (subst (λ (i : List ℕ). IsSome (job_under i old)) same some) in
    let under = λ (l : List Commit). commits_under commit.id l in
    let all : commits_under commit.id old ++ commits_under commit.id (commit ∷ []) ≡ commit ∷ [] =
    sym (filter-append (λ (other : Commit). bytes_eq other.id commit.id) old (commit ∷ [])) ∙ sym (ap under added) ∙ once in
    let sizes : length (commits_under commit.id old) + length (commits_under commit.id (commit ∷ [])) ≡ 1 = sym (length-append (commits_under commit.id old) (commits_under commit.id (commit ∷ []))) ∙ ap length all in
    let one : length (commits_under commit.id (commit ∷ [])) ≡ 1 = itself commit in
    omega (arith, before, sizes, one)
  where
    itself : (c : Commit) → length (commits_under c.id (c ∷ [])) ≡ 1
    itself c = ap (λ (b : Bool). length (cond {A = List Commit} b (c ∷ []) [])) ((bytes_eq-Decides c.id c.id).1 refl)
