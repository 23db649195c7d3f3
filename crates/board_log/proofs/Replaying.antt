-- One entry more.
use Rattle.std.proofs.Common.{◌≡◌, ℕ, Bool, true, false, List, [], ◌∷◌, ◌++◌, Some, None, refl, sym, ap, ◌∙◌, cond}
use Rattle.board_log.specs.declared.entry.Entry.{Entry}
use Rattle.board_log.specs.Runs.{State, replay, is_legal, after, opened}

first_legal : (b : Bool) (s : State) (e : Entry) (es : List Entry) (t : State) → cond b (replay (after s e) es) None ≡ Some t → b ≡ true
first_legal true s e es t h = refl
first_legal false s e es t h = cc

pub replay-push : (s : State) (es : List Entry) (e : Entry) (t : State) → replay s es ≡ Some t → is_legal t e ≡ true → replay s (es ++ e ∷ []) ≡ Some (after t e)
replay-push s [] e t h legal =
    let same : s ≡ t = cc in
    ap (λ b. cond b (Some (after s e)) None) (ap (λ z. is_legal z e) same ∙ legal) ∙ ap (λ z. Some (after z e)) same
replay-push s (x ∷ es) e t h legal =
    let here = first_legal (is_legal s x) s x es t h in
    let rest : replay (after s x) es ≡ Some t = ap (λ b. cond b (replay (after s x) es) None) (sym here) ∙ h in
    ap (λ b. cond b (replay (after s x) (es ++ e ∷ [])) None) here ∙ replay-push (after s x) es e t rest legal

-- the history with a legal entry more replays to what stands after it
pub stepped : (n : ℕ) (h h' : List Entry) (e : Entry) (s t : State) → replay (opened n) h ≡ Some s → is_legal s e ≡ true → h' ≡ h ++ e ∷ [] → after s e ≡ t → replay (opened n) h' ≡ Some t
stepped n h h' e s t r legal is to = ap (replay (opened n)) is ∙ replay-push (opened n) h e s r legal ∙ ap Some to
