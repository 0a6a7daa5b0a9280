-- What `proof` reads and answers.
use Rattle.std.specs.Prelude.{◌≡◌, ℕ, ◌+◌, Bool, List, [], ◌∷◌, ◌++◌, get_or, codes, None, Result, Ok, Err}
use Rattle.machine_core.specs.Machine.{Machine}
use Rattle.vbe_io.specs.Text.{IsVbe, IsVbeRefusal}
use Rattle.proof_joint.specs.Naming.{AgreeByName, IsLeastOneSided}
use Rattle.proof_joint.specs.Clock.{as_compared}
use Rattle.proof_joint.specs.Together.{root_pairs, IsFirstOver}
use Rattle.proof_cmp.specs.Verdict.{AreComparable, AreEqual, IsFirstDifference}
use Rattle.proof_run.specs.declared.words.ProofCommand.{ProofCommand}
use Rattle.tool_drive.specs.declared.status.Status.{Status}
use Rattle.tool_drive.specs.declared.status.Status.TheVariants as status
use Rattle.tool_drive.specs.declared.status.Verdict.TheVariants as verdict
use Rattle.tool_drive.specs.declared.tool.Product.{Product}
use Rattle.tool_drive.specs.declared.tool.Refusal.{Refusal}
use Rattle.tool_drive.specs.Plan.{Plan, Inputs, limited}
use Rattle.tool_drive.specs.Refusals.{OfFile}

-- SOURCE, then the second source
abbrev pub proof_plan : ProofCommand → Plan
proof_plan c = record { first = limited c.source ∷ limited c.other ∷ []; more = λ read. [] }

-- `equal` is printed, and no file is written
pub record IsSaidEqual (c : ProofCommand) (p : Product) : Type 0 where
  pub name : p.name ≡ c.source
  pub file : p.file ≡ None
  pub text : p.text ≡ codes "equal" ++ 10 ∷ []

-- no diagram of two roots is over the budget, and each two roots are one function; a clock that loads nothing is an input like the others
abbrev pub AreSameFunctions : Machine → Machine → ℕ → Type 0
AreSameFunctions a b budget = AreComparable (as_compared a) (as_compared b) budget × AreEqual (as_compared a) (as_compared b)

-- the two sources are machines of the same functions
pub record AreEqualSources (c : ProofCommand) (source other : List ℕ) : Type 0 where
  pub first : Machine
  pub second : Machine
  pub machine : IsVbe source first
  pub other_machine : IsVbe other second
  pub equal : AreSameFunctions first second c.nodes

-- How two machines differ, or why it isn't known: the least name that one of them lacks in a role; the first roots over the budget;
-- the first roots that are different functions.
abbrev pub IsFinding : Machine → Machine → ℕ → Status → Type 0
IsFinding a b budget (status.No (verdict.Names name)) = IsLeastOneSided a b name
IsFinding a b budget (status.Budget name reached) =
    AgreeByName a b × IsFirstOver (as_compared a) (as_compared b) budget name × (reached ≡ budget + 1)
IsFinding a b budget (status.No (verdict.Unequal name)) =
    AreComparable (as_compared a) (as_compared b) budget
    × ((bits : List Bool) × IsFirstDifference (as_compared a) (as_compared b) (root_pairs (as_compared a) (as_compared b)) name bits)
IsFinding a b budget _ = ⊥

-- What is refused, in this order: the source, the second one, and what is found of their machines.
pub data IsProofRefusal (c : ProofCommand) (source other : List ℕ) (s : Status) : Type 0 where
  bad_source : OfFile c.source (IsVbeRefusal source) s → IsProofRefusal c source other s
  bad_other : (a : Machine) → IsVbe source a → OfFile c.other (IsVbeRefusal other) s → IsProofRefusal c source other s
  found : (a b : Machine) → IsVbe source a → IsVbe other b → IsFinding a b c.nodes s → IsProofRefusal c source other s

-- it is printed that the sources are equal; or one of these refusals
abbrev pub Compares : ProofCommand → List ℕ → List ℕ → Result Product Refusal → Type 0
Compares c source other (Ok p) = AreEqualSources c source other × IsSaidEqual c p
Compares c source other (Err r) = (r.part ≡ None) × IsProofRefusal c source other r.status

abbrev pub proof_answers : ProofCommand → Inputs → Result Product Refusal → Type 0
proof_answers c i r = Compares c (get_or i.first 0 []) (get_or i.first 1 []) r
