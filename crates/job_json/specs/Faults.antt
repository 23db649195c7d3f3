-- What is read of a JSON value, or the first fault that it has.
use Rattle.std.specs.Prelude.{◌≡◌, ℕ, Bool, List, Option, Some, None, Result, Ok, Err, if◌then◌else◌, ⊤}
use Rattle.job_json.specs.declared.job_fault.JobFault.{JobFault}
use Rattle.job_json.specs.declared.job_fault_kind.JobFaultKind.{JobFaultKind}
use Rattle.job_json.specs.declared.job_fault_kind.JobFaultKind.TheVariants.{NotJson}
use Rattle.job_json.specs.declared.job_error.JobError.{JobError}
use Rattle.job_json.specs.declared.job_error.JobError.TheVariants.{Fault, NoMemory}

-- a value, or the first fault
abbrev pub Reading : Type 0 → Type 0
Reading A = Result A JobFault

-- First the one is read; where it has no fault, then the other.
infixl 10 ◌>>=◌
abbrev pub ◌>>=◌ : {A B : Type 0} → Result A JobFault → (A → Result B JobFault) → Result B JobFault
(Ok x) >>= f = f x
(Err e) >>= f = Err e

-- what is there, or a fault
abbrev pub or_fault : {A : Type 0} → JobFault → Option A → Result A JobFault
or_fault f (Some x) = Ok x
or_fault f None = Err f

-- a fault, where the test fails
abbrev pub check : Bool → JobFault → Result ⊤ JobFault
check test f = if test then Ok tt else Err f

-- a fault of this kind, in this node, at this name
abbrev pub fault : JobFaultKind → Option ℕ → List ℕ → JobFault
fault kind node name = record { kind = kind; node = node; name = Some name }

abbrev pub not_json : JobFault
not_json = record { kind = NotJson; node = None; name = None }

-- the error tells the first fault, unless memory ran out
abbrev pub Tells : {A : Type 0} → JobError → Result A JobFault → Type 0
Tells (Fault f) reading = reading ≡ Err f
Tells NoMemory reading = ⊤

-- the error tells this fault, unless memory ran out
abbrev pub TellsFault : JobError → JobFault → Type 0
TellsFault (Fault f) expected = f ≡ expected
TellsFault NoMemory expected = ⊤

-- what a function returned, seen by `seen`, is the value or the first fault, unless memory ran out
abbrev pub Gives : {A B : Type 0} → (A → B) → Result A JobError → Result B JobFault → Type 0
Gives seen (Ok x) reading = reading ≡ Ok (seen x)
Gives seen (Err e) reading = Tells e reading
