-- The line that shows an event.
use Rattle.std.specs.Prelude.{ℕ, Bool, true, false, List, [], ◌∷◌, ◌++◌, length, sum, sum_by, codes}
use Rattle.std.specs.Fmt.{decimal}
use Rattle.std.specs.List.{flat_map}
use Rattle.estate.specs.declared.part_name.PartName.{PartName}
use Rattle.plan_model.specs.declared.side.Side.{Side}
use Rattle.plan_model.specs.declared.side.Side.TheVariants.{Left, Right}
use Rattle.graph_model.specs.declared.cause.Cause.{Cause}
use Rattle.graph_model.specs.declared.cause.Cause.TheVariants.{Gate, Lost}
use Rattle.graph_model.specs.declared.event.Event.{Event}
use Rattle.graph_model.specs.declared.event.Event.TheVariants.{Opened, Started, Made, Widened, Decided, Done, Reset, Trouble, Ended}
use Rattle.graph_model.specs.declared.sub.Sub.{Sub}

-- ---- parts of a line

abbrev pub line_feed : ℕ
line_feed = 10

abbrev pub comma : ℕ
comma = 44

abbrev pub dot : ℕ
dot = 46

-- a subtask, by its vertex and its number there
abbrev pub sub_text : Sub → List ℕ
sub_text sub = decimal sub.vertex ++ dot ∷ decimal sub.subtask

-- the four numbers of a part, with dots between them
abbrev pub name_text : PartName → List ℕ
name_text name =
    decimal name.vertex ++ dot ∷ decimal name.subtask
    ++ dot ∷ decimal name.epoch ++ dot ∷ decimal name.attempt

-- each item behind a comma
abbrev pub behind_commas : {A : Type 0} → (A → List ℕ) → List A → List ℕ
behind_commas text items = flat_map (λ item. comma ∷ text item) items

-- items with commas between them
abbrev pub with_commas : {A : Type 0} → (A → List ℕ) → List A → List ℕ
with_commas text [] = []
with_commas text (first ∷ others) = text first ++ behind_commas text others

abbrev pub side_word : Side → List ℕ
side_word Left = codes "left"
side_word Right = codes "right"

-- how a job ended
abbrev pub end_word : Bool → List ℕ
end_word false = codes "finished"
end_word true = codes "failed"

abbrev pub cause_text : Cause → List ℕ
cause_text (Gate name code) = codes "gate " ++ name_text name ++ codes " code=" ++ decimal code
cause_text (Lost name) = codes "lost " ++ name_text name

-- how many there are in all lists, and what they add up to
abbrev pub number_in_all : List (List ℕ) → ℕ
number_in_all sizes = sum_by length sizes

abbrev pub sum_of_all : List (List ℕ) → ℕ
sum_of_all sizes = sum_by sum sizes

-- ---- lines

abbrev pub event_text : Event → List ℕ
event_text (Opened epoch) = codes "opened " ++ decimal epoch
event_text (Started job files) =
    codes "started files=" ++ decimal (number_in_all files)
    ++ codes " bytes=" ++ decimal (sum_of_all files)
event_text (Made vertex nodes) =
    codes "made " ++ decimal vertex ++ codes " nodes=" ++ with_commas decimal nodes
event_text (Widened node side) = codes "widened " ++ decimal node ++ codes " " ++ side_word side
event_text (Decided vertex assignment) =
    codes "decided " ++ decimal vertex ++ codes " subtasks=" ++ decimal (length assignment)
event_text (Done name inputs sizes) =
    codes "done " ++ name_text name ++ codes " inputs=" ++ decimal (length inputs)
    ++ codes " bytes=" ++ decimal (sum_of_all sizes)
event_text (Reset gone subtasks) =
    codes "reset gone=" ++ decimal (length gone)
    ++ codes " subtasks=" ++ with_commas sub_text subtasks
event_text (Trouble cause) = codes "trouble " ++ cause_text cause
event_text (Ended failed) = codes "ended " ++ end_word failed

abbrev pub event_line : Event → List ℕ
event_line event = event_text event ++ line_feed ∷ []

-- a line for each event
abbrev pub event_lines : List Event → List ℕ
event_lines events = flat_map event_line events
