-- What `boom` reads and answers.
use Rattle.std.specs.Prelude.{◌≡◌, ℕ, ◌+◌, ◌<◌, ◌≤◌, List, [], ◌∷◌, ◌++◌, get_or, codes, None, Some, Result, Ok, Err}
use Rattle.std.specs.List.{All}
use Rattle.vlsi_base.specs.declared.name.Name.{Name}
use Rattle.machine_core.specs.Machine.{Machine}
use Rattle.machine_core.specs.Size.{machine_size}
use Rattle.machine_core.specs.Checked.{IsChecked}
use Rattle.machine_roots.specs.Roots.{roots, IsOverBudget, IsFirstOver}
use Rattle.vbe_io.specs.Text.{IsVbe, IsVbeRefusal}
use Rattle.boom_opt.specs.Optimised.{IsOptimised}
use Rattle.spell_theory.specs.Layout.{text_of}
use Rattle.vbe_print.specs.Written.{layout}
use Rattle.boom_run.specs.declared.words.BoomCommand.{BoomCommand}
use Rattle.tool_drive.specs.declared.status.Status.{Status}
use Rattle.tool_drive.specs.declared.status.Status.TheVariants as status
use Rattle.tool_drive.specs.declared.tool.Product.{Product}
use Rattle.tool_drive.specs.declared.tool.Refusal.{Refusal}
use Rattle.tool_drive.specs.Lines.{count_line}
use Rattle.tool_drive.specs.Plan.{Plan, Inputs, limited}
use Rattle.tool_drive.specs.Refusals.{OfFile}
use Rattle.tool_drive.specs.Size.{size_limit}
use Rattle.tool_drive.specs.declared.size.TheConstants.{MOST_SIZE}

-- SOURCE alone
abbrev pub boom_plan : BoomCommand → Plan
boom_plan c = record { first = limited c.source ∷ []; more = λ read. [] }

abbrev pub text_name : List ℕ → List ℕ
text_name out = out ++ codes ".vbe"

-- how large a machine is
abbrev pub report : Machine → List ℕ
report m = count_line (codes "size") (machine_size m)

-- the text of the machine is that of NAME.vbe, and its size is printed
pub record IsWrittenAs (c : BoomCommand) (o : Machine) (p : Product) : Type 0 where
  pub name : p.name ≡ text_name c.out
  pub file : p.file ≡ Some (text_of (layout o))
  pub text : p.text ≡ report o

-- No diagram of the machine's roots is over the budget, and o is the machine made smaller.
pub record IsWithinBudget (m : Machine) (budget : ℕ) (o : Machine) : Type 0 where
  pub optimised : IsOptimised m o
  pub within : All (λ r. IsOverBudget m budget r → ⊥) (roots m)

-- The source is read, no diagram of its roots is over the budget, and an optimised machine, which passes its checks, is written to
-- NAME.vbe, whose size is printed.
pub record IsMadeSmaller (c : BoomCommand) (source : List ℕ) (p : Product) : Type 0 where
  pub m : Machine
  pub machine : IsVbe source m
  pub small : machine_size m ≤ MOST_SIZE
  pub o : Machine
  pub checked : IsChecked o
  pub made : IsWithinBudget m c.nodes o
  pub written : IsWrittenAs c o p

-- the status of the first root over the budget
pub record IsBudgetStatus (m : Machine) (budget : ℕ) (s : Status) : Type 0 where
  pub name : Name
  pub first : IsFirstOver m budget name
  pub is : s ≡ status.Budget name (budget + 1)

-- What is refused, in this order: the source, its size, the first root over the budget.
pub data IsBoomRefusal (c : BoomCommand) (source : List ℕ) (s : Status) : Type 0 where
  bad_source : OfFile c.source (IsVbeRefusal source) s → IsBoomRefusal c source s
  too_large : (m : Machine) → IsVbe source m → MOST_SIZE < machine_size m → s ≡ size_limit m → IsBoomRefusal c source s
  over_budget : (m : Machine) → IsVbe source m → machine_size m ≤ MOST_SIZE → IsBudgetStatus m c.nodes s → IsBoomRefusal c source s

-- the smaller source is written and its size is printed, or one of these refusals
abbrev pub MakesSmaller : BoomCommand → List ℕ → Result Product Refusal → Type 0
MakesSmaller c source (Ok p) = IsMadeSmaller c source p
MakesSmaller c source (Err r) = (r.part ≡ None) × IsBoomRefusal c source r.status

abbrev pub boom_answers : BoomCommand → Inputs → Result Product Refusal → Type 0
boom_answers c i r = MakesSmaller c (get_or i.first 0 []) r
