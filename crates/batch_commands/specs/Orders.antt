-- What the words of a command ask of each call.
use Rattle.std.specs.Prelude.{◌≡◌, ⊤, ℕ, ◌==◌, Bool, false, ◌||◌, List, [], ◌∷◌, codes, Option, Some, None, Result, Ok, Err, if◌then◌else◌}
use Rattle.std.specs.Str.{bytes_eq}
use Rattle.batch_words.specs.Words.{meaning}
use Rattle.batch_words.specs.declared.order.Order.{Order}
use Rattle.batch_words.specs.declared.order.Order.TheVariants.{Run, Generate, Check, Plan, Reference, Events}
use Rattle.batch_words.specs.declared.word_error.WordError.{WordError}
use Rattle.batch_words.specs.declared.word_kind.WordKind.TheVariants.{OtherCall}
use Rattle.batch_commands.specs.Refusals.{word_refusal}
use Rattle.batch_commands.specs.declared.unbuilt.Unbuilt.TheVariants as unbuilt
use Rattle.batch_commands.specs.declared.job_view.JobView.TheVariants as job
use Rattle.batch_commands.specs.declared.view.View.{View}
use Rattle.batch_commands.specs.declared.view.View.TheVariants as view
use Rattle.batch_commands.specs.declared.word_refusal.WordRefusal.{WordRefusal}
use Rattle.batch_commands.specs.declared.word_refusal.WordRefusal.TheVariants.{Usage, NotBuilt}

-- a command of the other call
abbrev pub other_call : WordRefusal
other_call = Usage 0 OtherCall

-- why an order is no run without workers
abbrev pub order_refusal : Result Order WordError → Option WordRefusal
order_refusal (Ok (Run workers)) = if workers == 0 then None else Some (NotBuilt unbuilt.Workers)
order_refusal (Ok (Generate n workers)) = Some (NotBuilt unbuilt.Generate)
order_refusal (Ok Check) = Some other_call
order_refusal (Ok Plan) = Some other_call
order_refusal (Ok Reference) = Some other_call
order_refusal (Ok Events) = Some other_call
order_refusal (Err e) = Some (word_refusal e)

-- why the words ask for no run without workers
abbrev pub run_refusal : List (List ℕ) → Option WordRefusal
run_refusal words = order_refusal (meaning words)

-- what an order asks to see, or why it is refused
abbrev pub order_view : Result Order WordError → Result View WordRefusal
order_view (Ok (Run workers)) = Err other_call
order_view (Ok (Generate n workers)) = Err other_call
order_view (Ok Check) = Ok (view.OfJob job.Check)
order_view (Ok Plan) = Ok (view.OfJob job.Plan)
order_view (Ok Reference) = Ok (view.OfJob job.Reference)
order_view (Ok Events) = Ok view.Events
order_view (Err e) = Err (word_refusal e)

-- what is asked for is something of the job
abbrev pub IsOfJob : Result View WordRefusal → Type 0
IsOfJob (Ok (view.OfJob shown)) = ⊤
IsOfJob asked = ⊥

-- what the words ask to see, or why they are refused
abbrev pub view_of : List (List ℕ) → Result View WordRefusal
view_of words = order_view (meaning words)

-- the words ask to see something of the job
abbrev pub AsksOfJob : List (List ℕ) → Type 0
AsksOfJob words = IsOfJob (view_of words)

-- the words ask to see the events
abbrev pub AsksForEvents : List (List ℕ) → Type 0
AsksForEvents words = view_of words ≡ Ok view.Events

-- the first word is a command that only shows something
abbrev pub is_view : List (List ℕ) → Bool
is_view [] = false
is_view (word ∷ words) =
    bytes_eq word (codes "check") || bytes_eq word (codes "plan")
    || bytes_eq word (codes "reference") || bytes_eq word (codes "events")
