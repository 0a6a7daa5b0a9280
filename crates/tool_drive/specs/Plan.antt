-- What a tool reads, and what reading it comes to over files that are told.
use Rattle.std.specs.Prelude.{◌≡◌, ◌⊎◌, ℕ, List, [], ◌∷◌, ◌++◌, Option, None, Some, IfSome, length, nat_le, if◌then◌else◌}
use Rattle.std.specs.FinMap.{get}
use Rattle.vlsi_shelf.specs.Files.{Files}
use Rattle.vlsi_base.specs.declared.limits.TheConstants.{MOST_SOURCE_BYTES, MOST_NETLIST_BYTES}
use Rattle.tool_drive.specs.declared.tool.Wanted.{Wanted}

-- the files that the words name, and those that the contents of these name
pub record Plan : Type 0 where
  pub first : List Wanted
  pub more : List (List ℕ) → List Wanted

-- a file of at most `MOST_SOURCE_BYTES` bytes
abbrev pub limited : List ℕ → Wanted
limited name = record { name = name; most = MOST_SOURCE_BYTES }

-- a file of at most `MOST_NETLIST_BYTES` bytes: a netlist's, or a layout's
abbrev pub large : List ℕ → Wanted
large name = record { name = name; most = MOST_NETLIST_BYTES }

-- what was read
pub record Inputs : Type 0 where
  pub first : List (List ℕ)
  pub more : List (List ℕ)

abbrev pub inputs : List (List ℕ) → List (List ℕ) → Inputs
inputs first more = record { first = first; more = more }

-- what reading comes to: it is had, or this file isn't there, or the first that is too long may have this many bytes
pub data Reading (A : Type 0) : Type 0 where
  got : A → Reading A
  lacking : List ℕ → Reading A
  long : ℕ → Reading A

abbrev pub go_on : {A B : Type 0} → Reading A → (A → Reading B) → Reading B
go_on (got a) f = f a
go_on (lacking name) f = lacking name
go_on (long most) f = long most

-- what a file comes to
abbrev pub held : Option (List ℕ) → Wanted → Reading (List ℕ)
held None w = lacking w.name
held (Some bytes) w = if nat_le (length bytes) w.most then got bytes else long w.most

-- these files, one behind the other
abbrev pub gather : Files → List Wanted → Reading (List (List ℕ))
gather files [] = got []
gather files (w ∷ rest) = go_on (held (get files w.name) w) (λ bytes. go_on (gather files rest) (λ more. got (bytes ∷ more)))

-- all files of a plan
abbrev pub reading : Files → Plan → Reading Inputs
reading files plan = go_on (gather files plan.first) (λ first. go_on (gather files (plan.more first)) (λ more. got (inputs first more)))

-- where files are told, this one comes to this
abbrev pub Comes : Option Files → Wanted → Reading (List ℕ) → Type 0
Comes told w r = IfSome told (λ files. held (get files w.name) w ≡ r)

-- where files are told, reading these comes to this
abbrev pub Gathers : Option Files → List Wanted → Reading (List (List ℕ)) → Type 0
Gathers told wanted r = IfSome told (λ files. gather files wanted ≡ r)

-- one of these files has this name, and where files are told, those before it were had: each is there, and none too long
pub record IsReached (told : Option Files) (wanted : List Wanted) (name : List ℕ) : Type 0 where
  pub before : List Wanted
  pub file : Wanted
  pub behind : List Wanted
  pub read : List (List ℕ)
  pub wanted_is : wanted ≡ before ++ file ∷ behind
  pub name_is : name ≡ file.name
  pub had : Gathers told before (got read)

-- a file of the plan that reading reaches: one that the words name, or, once these are had, one that their contents name
abbrev pub IsAsked : Option Files → Plan → List ℕ → Type 0
IsAsked told plan name =
    IsReached told plan.first name ⊎ ((first : List (List ℕ)) × Gathers told plan.first (got first) × IsReached told (plan.more first) name)

-- all files of a plan were read, and this stood in them
pub record WasRead (told : Option Files) (plan : Plan) (first more : List (List ℕ)) : Type 0 where
  pub first_read : Gathers told plan.first (got first)
  pub more_read : Gathers told (plan.more first) (got more)
  pub first_count : length first ≡ length plan.first
  pub more_count : length more ≡ length (plan.more first)
