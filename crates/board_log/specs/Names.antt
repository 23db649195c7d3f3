-- Which offers are meant.
use Rattle.std.specs.Prelude.{ℕ, Bool, ◌==◌, ◌&&◌}
use Rattle.estate.specs.declared.part_name.PartName.{PartName}
use Rattle.board_log.specs.declared.offer.Offer.{Offer}

-- the offer of this name to this worker
abbrev pub offer_of : ℕ → PartName → Offer
offer_of worker name = record { worker = worker; name = name }

-- whether both are one attempt's name
abbrev pub is_name : PartName → PartName → Bool
is_name a b =
    (a.vertex == b.vertex) && (a.subtask == b.subtask) && (a.epoch == b.epoch)
    && (a.attempt == b.attempt)

-- whether both offer one attempt to one worker
abbrev pub is_offer : Offer → Offer → Bool
is_offer a b = (a.worker == b.worker) && is_name a.name b.name

-- whether it is made to this worker
abbrev pub is_for : ℕ → Offer → Bool
is_for worker o = o.worker == worker

-- whether it offers this attempt
abbrev pub is_of : PartName → Offer → Bool
is_of name o = is_name o.name name
