-- The members of objects, by their names.
use Rattle.std.specs.Prelude.{ℕ, ◌^◌, nat_lt, nat_le, ◌==◌, Bool, false, ◌&&◌, ◌||◌, List, [], ◌∷◌, length, codes, Option, Some, None, option_map, option_and_then, is_some, if◌then◌else◌, Result, Ok, Err, ⊤}
use Rattle.std.specs.List.{list_all, list_any}
use Rattle.std.specs.Str.{bytes_eq}
use Rattle.serde_json.specs.Data.{Data, string, Items, no_items, item, Members, no_members, member}
use Rattle.serde_json.specs.Find.{get, as_str, as_number, as_array, as_u64}
use Rattle.job_json.specs.declared.names.TheConstants.{NAME_LIMIT}
use Rattle.job_json.specs.Faults.{◌>>=◌, or_fault, check, fault}
use Rattle.job_json.specs.declared.job_fault.JobFault.{JobFault}
use Rattle.job_json.specs.declared.job_fault_kind.JobFaultKind.TheVariants.{MissingMember, BadMember, BadNumber, UnknownMember}
use Rattle.job_json.specs.declared.object.Object.{Object}
use Rattle.job_json.specs.declared.object.Object.TheVariants.{Top, Node}
use Rattle.job_json.specs.declared.op_kind.OpKind.{OpKind}
use Rattle.job_json.specs.declared.op_kind.OpKind.TheVariants.{Source, Filter, Project, Explode, Union, Aggregate, Distinct, Join, Sink}

-- ---- names

-- a to z, 0 to 9, and _
abbrev pub is_name_byte : ℕ → Bool
is_name_byte b = (nat_le 97 b && nat_le b 122) || (nat_le 48 b && nat_le b 57) || b == 95

-- a name has 1 to 64 of these bytes
abbrev pub is_name : List ℕ → Bool
is_name name =
    nat_le 1 (length name) && nat_le (length name) NAME_LIMIT && list_all is_name_byte name

-- ---- JSON values

-- items as a list
abbrev pub items_list : Items → List Data
items_list no_items = []
items_list (item d ds) = d ∷ items_list ds

-- the items of a list
abbrev pub list_in : Data → Option (List Data)
list_in d = option_map items_list (as_array d)

-- the item, if it is the only one
abbrev pub one_of : List Data → Option Data
one_of (x ∷ []) = Some x
one_of _ = None

-- the items, if they are two
abbrev pub two_of : List Data → Option (Data × Data)
two_of (x ∷ y ∷ []) = Some (x, y)
two_of _ = None

-- the item of a list that has just one
unfoldable pub one_item_in : Data → Option Data
one_item_in d = option_and_then one_of (list_in d)

-- the items of a list that has just two
unfoldable pub two_items_in : Data → Option (Data × Data)
two_items_in d = option_and_then two_of (list_in d)

-- what each of these stands for, if each stands for something
abbrev pub each : {A B : Type 0} → (A → Option B) → List A → Option (List B)
each f [] = Some []
each f (x ∷ xs) = option_and_then (λ y. option_map (λ ys. y ∷ ys) (each f xs)) (f x)

-- a number of whatever kind
abbrev pub is_number : Data → Bool
is_number d = is_some (as_number d)

-- an unsigned integer of 32 bits
abbrev pub u32_in : Data → Option ℕ
u32_in d =
    option_and_then (λ n. if nat_lt n (2 ^ 32) then Some n else None)
    (option_and_then as_u64 (as_number d))

-- whether the value is this text
abbrev pub is_text : List ℕ → Data → Bool
is_text text (string s) = bytes_eq s text
is_text text _ = false

-- ---- members

-- the member of this name
abbrev pub member_of : Option ℕ → List ℕ → Data → Result Data JobFault
member_of node name d = or_fault (fault MissingMember node name) (get name d)

-- the name that a value is
unfoldable pub name_in : Data → Option (List ℕ)
name_in d = option_and_then (λ text. if is_name text then Some text else None) (as_str d)

-- a member that is a name
unfoldable pub name_of : Option ℕ → List ℕ → Data → Result (List ℕ) JobFault
name_of node name d = do
  value ← member_of node name d
  or_fault (fault BadMember node name) (name_in value)

-- a member that is an integer of 32 bits: a node or a column
unfoldable pub number_of : Option ℕ → List ℕ → Data → Result ℕ JobFault
number_of node name d = do
  value ← member_of node name d
  checked ← check (is_number value) (fault BadMember node name)
  or_fault (fault BadNumber node name) (u32_in value)

-- a member that is a list
unfoldable pub list_of : Option ℕ → List ℕ → Data → Result (List Data) JobFault
list_of node name d = do
  value ← member_of node name d
  or_fault (fault BadMember node name) (list_in value)

-- ---- unknown members

-- the members that an object may have
abbrev pub members_of : Object → List (List ℕ)
members_of Top = codes "job" ∷ codes "nodes" ∷ codes "settings" ∷ []
members_of (Node Source) = codes "op" ∷ codes "table" ∷ codes "columns" ∷ []
members_of (Node Filter) = codes "op" ∷ codes "input" ∷ codes "where" ∷ codes "ship" ∷ []
members_of (Node Project) = codes "op" ∷ codes "input" ∷ codes "exprs" ∷ codes "ship" ∷ []
members_of (Node Explode) =
    codes "op" ∷ codes "input" ∷ codes "column" ∷ codes "separator" ∷ codes "ship" ∷ []
members_of (Node Union) = codes "op" ∷ codes "inputs" ∷ []
members_of (Node Aggregate) = codes "op" ∷ codes "input" ∷ codes "keys" ∷ codes "aggs" ∷ []
members_of (Node Distinct) = codes "op" ∷ codes "input" ∷ []
members_of (Node Join) =
    codes "op" ∷ codes "kind" ∷ codes "left" ∷ codes "right" ∷ codes "keys" ∷ []
members_of (Node Sink) = codes "op" ∷ codes "input" ∷ codes "name" ∷ codes "ship" ∷ []

-- whether an object may have this member
abbrev pub is_member_of : Object → List ℕ → Bool
is_member_of whose name = list_any (bytes_eq name) (members_of whose)

-- the first member, in byte order, that has no meaning
abbrev pub unknown_among : Object → Members → Option (List ℕ)
unknown_among whose no_members = None
unknown_among whose (member name d ms) =
    if is_member_of whose name then unknown_among whose ms else Some name

-- no fault, unless a member is unknown
abbrev pub none_unknown : Option ℕ → Option (List ℕ) → Result ⊤ JobFault
none_unknown k None = Ok tt
none_unknown k (Some name) = Err (fault UnknownMember k name)

-- an object has known members alone
abbrev pub known_alone : Option ℕ → Object → Members → Result ⊤ JobFault
known_alone node whose ms = none_unknown node (unknown_among whose ms)

-- ---- operators

-- the operator of this name
unfoldable pub op_kind_named : List ℕ → Option OpKind
op_kind_named word =
    if bytes_eq word (codes "source") then Some Source else
    if bytes_eq word (codes "filter") then Some Filter else
    if bytes_eq word (codes "project") then Some Project else
    if bytes_eq word (codes "explode") then Some Explode else
    if bytes_eq word (codes "union") then Some Union else
    if bytes_eq word (codes "aggregate") then Some Aggregate else
    if bytes_eq word (codes "distinct") then Some Distinct else
    if bytes_eq word (codes "join") then Some Join else
    if bytes_eq word (codes "sink") then Some Sink else None
