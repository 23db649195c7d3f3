-- What a call leaves in the caller's token.
use Rattle.std.specs.Prelude.{◌≡◌, ◌+◌, ℕ, true, false, None}
use Rattle.race_board.specs.declared.claim.Claim.{Claim}
use Rattle.race_board.specs.declared.desk.Desk.{Desk}
use Rattle.race_board.specs.declared.pass.Pass.{Pass}
use Rattle.race_board.specs.Claims.{took, owed_by, is_stop}

module _ {L M : Type 0} where
  -- the desk counts so many calls more, which took so many things, and is stopped as before
  abbrev pub DeskCounts : Desk L M → Desk L M → ℕ → ℕ → Type 0
  DeskCounts old new calls takings =
      (new.calls.amount ≡ old.calls.amount + calls)
      × (new.takings.amount ≡ old.takings.amount + takings)
      × (new.stopped ≡ old.stopped)

  -- the desk has stopped the board
  abbrev pub DeskStops : Desk L M → Desk L M → Type 0
  DeskStops old new =
      (new.calls.amount ≡ old.calls.amount + 1)
      × (new.takings.amount ≡ old.takings.amount)
      × (new.stopped ≡ true)

  -- the pass is as before
  abbrev pub PassStays : Pass L M → Pass L M → Type 0
  PassStays old new =
      (new.worker ≡ old.worker)
      × (new.calls.amount ≡ old.calls.amount)
      × (new.takings.amount ≡ old.takings.amount)
      × (new.halted ≡ old.halted)
      × (new.owed ≡ old.owed)

  -- the pass counts the claim, and owes a report of its attempt, or is halted
  abbrev pub PassClaims : Pass L M → Pass L M → Claim → Type 0
  PassClaims old new claim =
      (new.worker ≡ old.worker)
      × (new.calls.amount ≡ old.calls.amount + 1)
      × (new.takings.amount ≡ old.takings.amount + took claim)
      × (new.halted ≡ is_stop claim)
      × (new.owed ≡ owed_by claim)

  -- the pass counts the report, and owes none
  abbrev pub PassReports : Pass L M → Pass L M → Type 0
  PassReports old new =
      (new.worker ≡ old.worker)
      × (new.calls.amount ≡ old.calls.amount + 1)
      × (new.takings.amount ≡ old.takings.amount)
      × (new.halted ≡ old.halted)
      × (new.owed ≡ None)

  -- a new desk
  abbrev pub IsNewDesk : Desk L M → Type 0
  IsNewDesk desk =
      (desk.calls.amount ≡ 0) × (desk.takings.amount ≡ 0) × (desk.stopped ≡ false)

  -- a new pass
  abbrev pub IsNewPass : Pass L M → Type 0
  IsNewPass pass =
      (pass.calls.amount ≡ 0) × (pass.takings.amount ≡ 0) × (pass.halted ≡ false)
      × (pass.owed ≡ None)
