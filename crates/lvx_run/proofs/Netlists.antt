-- From the refusals of readers and the verdict to the tool's.
use Rattle.std.proofs.Common.{◌≡◌, ℕ, List, None, Result, Ok, Err, refl, inl, inr}
use Rattle.vlsi_base.specs.declared.fault.ReadError.{ReadError}
use Rattle.cell_model.specs.Library.{Library}
use Rattle.net_core.specs.declared.pins.ModelPins.{ModelPins}
use Rattle.net_core.specs.Netlist.{Netlist}
use Rattle.vst_io.specs.Text.{IsVst, IsVstRefusal}
use Rattle.lvx_run.specs.declared.words.LvxCommand.{LvxCommand}
use Rattle.tool_drive.specs.declared.status.Status.{Status}
use Rattle.tool_drive.specs.declared.status.Status.TheVariants as status
use Rattle.tool_drive.specs.declared.tool.Product.{Product}
use Rattle.tool_drive.specs.declared.tool.Refusal.{Refusal}
use Rattle.tool_drive.specs.Table.{IsFair, IsJudged, refusal}
use Rattle.tool_drive.specs.Refusals.{MemoryOr, OfFile, of_file, memory_then, fair_then, judged}
use Rattle.lvx_run.specs.Lvx.{Texts, AreCells, AreRead, unread, different, IsUnread, Tells, Compares}

-- a refusal of SOURCE, and one of the second file
pub source_unread : (c : LvxCommand) (source other : List ℕ) (table : List ModelPins) (e : ReadError) (s : Status) → IsVstRefusal source table e → MemoryOr s (OfFile c.source (λ x. x ≡ e) s)
    → MemoryOr s (IsUnread c source other table s)
source_unread c source other table e s h k =
    memory_then s (OfFile c.source (IsVstRefusal source table) s) (IsUnread c source other table s) (λ o. inl o) (of_file c.source (IsVstRefusal source table) e h s k)

pub other_unread : (c : LvxCommand) (source other : List ℕ) (table : List ModelPins) (n : Netlist) (e : ReadError) (s : Status) → IsVst source table n → IsVstRefusal other table e
    → MemoryOr s (OfFile c.other (λ x. x ≡ e) s) → MemoryOr s (IsUnread c source other table s)
other_unread c source other table n e s is h k =
    memory_then s (OfFile c.other (IsVstRefusal other table) s) (IsUnread c source other table s) (λ o. inr (n, is, o)) (of_file c.other (IsVstRefusal other table) e h s k)

-- the statuses of files that aren't read
pub by_unread : (c : LvxCommand) (t : Texts) (l : Library) (table : List ModelPins) (s : Status) → AreCells t l table → MemoryOr s (IsUnread c t.source t.other table s)
    → IsJudged (Compares c t) (Err (refusal s None))
by_unread c t l table s cells h = judged (Compares c t) (λ x. IsUnread c t.source t.other table x) told s h where
  none : (s : Status) → IsUnread c t.source t.other table s → (OfFile c.source (IsVstRefusal t.source table) s → ⊥) → (OfFile c.other (IsVstRefusal t.other table) s → ⊥) → ⊥
  none s u f g = elim u [ inl o ↦ f o | inr o ↦ g o.2 ]

  told : (s : Status) → IsUnread c t.source t.other table s → IsFair s None (Compares c t (Err (refusal s None)))
  told status.Memory u = refl
  told status.Accepted u = none status.Accepted u (λ x. x) (λ x. x)
  told status.Usage u = none status.Usage u (λ x. x) (λ x. x)
  told (status.File cause name) u = none (status.File cause name) u (λ x. x) (λ x. x)
  told s u = (refl, unread l table cells u)

-- what is answered to the netlists of both files
pub by_told : (c : LvxCommand) (t : Texts) (l : Library) (table : List ModelPins) (a b : Netlist) (r : Result Product Refusal) → AreCells t l table → IsVst t.source table a → IsVst t.other table b
    → IsJudged (Tells c a b) r → IsJudged (Compares c t) r
by_told c t l table a b r cells first second h = by r h where
  read : AreRead t a b
  read = record { l = l; table = table; cells = cells; first = first; second = second }

  by : (r : Result Product Refusal) → IsJudged (Tells c a b) r → IsJudged (Compares c t) r
  by (Ok p) (name, file, text, same) = (name, file, text, record { a = a; b = b; read = read; same = same })
  by (Err x) h =
      fair_then x.status x.part (Tells c a b (Err x)) (Compares c t (Err x)) (λ d. (d.0, different a b d.1.0 read d.1.1 d.1.2)) h
