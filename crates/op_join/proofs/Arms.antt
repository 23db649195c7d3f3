-- Rows that are made for a kind of join, under names for its inputs.
use Rattle.std.proofs.Common.{◌≡◌, ℕ, List, ◌++◌, sym, subst}
use Rattle.std.proofs.lemmas.Result.{IfOk-weaker}
use Rattle.std.specs.Result.{IfOk}
use Rattle.std.specs.declared.result.Result.{Result}
use Rattle.row_core.specs.Bags.{SameBag}
use Rattle.bag_laws.proofs.Laws.{SameBag-append}
use Rattle.bag_laws.specs.Rows.{OneRow as Row}
use Rattle.plan_model.specs.Joins.{joined}
use Rattle.plan_model.specs.declared.join_kind.JoinKind.{JoinKind}

-- what is made at the kind that the match found is made at the kind of the call
pub arm : {E : Type 0} (result : Result (List Row) E) (made : List Row) (kind found : JoinKind) (lw rw : ℕ) (keys keys' : List (ℕ × ℕ)) (left left' right right' : List Row)
    → kind ≡ found → keys' ≡ keys → left' ≡ left → right' ≡ right → SameBag made (joined keys' lw rw left' right' found)
    → IfOk result (λ rows. rows ≡ made) → IfOk result (λ rows. SameBag rows (joined keys lw rw left right kind))
arm result made kind found lw rw keys keys' left left' right right' is keys-is left-is right-is same ok =
    let all : SameBag made (joined keys lw rw left right kind) =
    subst (λ (rows : List Row). SameBag made rows) (λ i. joined (keys-is i) lw rw (left-is i) (right-is i) (sym is i)) same in
    IfOk-weaker result (λ rows. rows ≡ made) (λ rows. SameBag rows (joined keys lw rw left right kind))
    (λ rows is. subst (λ (some : List Row). SameBag some (joined keys lw rw left right kind)) (sym is) all) ok

-- of two parts, each as the join has it
pub both : (made made' more first second : List Row) → made ≡ made' → SameBag made' first → SameBag more second → SameBag (made ++ more) (first ++ second)
both made made' more first second is one two =
    SameBag-append made more first second (subst (λ (rows : List Row). SameBag rows first) (sym is) one) two
