-- What growing holdings and logs keep.
use Rattle.std.specs.Prelude.{ℕ, ◌≤◌, List}
use Rattle.estate.specs.Holding.{Holding}
use Rattle.graph_model.specs.declared.event.Event.{Event}
use Rattle.job_soundness.specs.Jobs.{Files, Job}
use Rattle.job_soundness.specs.Sound.{IsWithin}
use Rattle.core_crashes.specs.Growth.{Grows, IsFirstPart, SaysWithin}

-- what grows twice grows
abbrev pub GrowsLaw : Type 0
GrowsLaw = (job : Job) (d e h : Holding) → Grows job d e → Grows job e h → Grows job d h

-- a log that says a first part of events says one of more events, and a sound holding does
abbrev pub FirstPartLaw : Type 0
FirstPartLaw = (least fewer : ℕ) (events more : List Event) (log : List ℕ) → fewer ≤ least
    → IsFirstPart events more → SaysWithin least events log → SaysWithin fewer more log

abbrev pub SoundPartLaw : Type 0
SoundPartLaw = (job : Job) (files : Files) (least fewer : ℕ) (events more : List Event)
    (image : Holding) → fewer ≤ least → IsFirstPart events more
    → IsWithin job files least events image → IsWithin job files fewer more image
