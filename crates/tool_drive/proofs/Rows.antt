-- The rows of the table, from what was read, judged and left.
use Rattle.std.proofs.Common.{◌≡◌, ℕ, List, Option, Result, Ok, Err, refl, sym, ◌∙◌, subst, inl, inr, arith}
use Rattle.vlsi_shelf.specs.Files.{Files}
use Rattle.vlsi_shelf.specs.Seen.{ShelfSeen, SinkSeen}
use Rattle.vlsi_shelf.specs.Shelf.{SameBut}
use Rattle.tool_drive.specs.declared.status.Status.{Status}
use Rattle.tool_drive.specs.declared.status.Status.TheVariants as status
use Rattle.tool_drive.specs.declared.status.FileCause.TheVariants.{Missing, ReadFault, WriteFault, OutFault}
use Rattle.tool_drive.specs.declared.tool.Written.{Written}
use Rattle.tool_drive.specs.declared.tool.Product.{Product}
use Rattle.tool_drive.specs.declared.tool.Refusal.{Refusal}
use Rattle.tool_drive.specs.Outside.{Outside, outside, OnlyReads}
use Rattle.tool_drive.specs.Plan.{Plan, Inputs, inputs, WasRead}
use Rattle.tool_drive.specs.Table.{refusal, IsJudged, IsFair, IsStored, IsLeft, IsPart, IsWriting, ComesTo, Left, Caused}

-- ---- judging

fair_any : (s : Status) (part : Option Written) (P : Type 0) → IsFair s part P → IsFair s part (Unit {0})
fair_any status.Memory part P h = h
fair_any status.Accepted part P h = h
fair_any status.Usage part P h = h
fair_any (status.File cause name) part P h = h
fair_any _ part P h = tt

-- a refusal that is judged has a status of judging
pub fair : (A : Result Product Refusal → Type 0) (r : Refusal) → IsJudged A (Err r) → IsFair r.status r.part (Unit {0})
fair A r h = fair_any r.status r.part (A (Err r)) h

-- want of memory leaves no file
fair_part : (s : Status) (part : Option Written) (P : Type 0) (name : List ℕ) → IsFair s part P → IsPart name part → P
fair_part status.Memory part P name h w = absurd (subst (λ (p : Option Written). IsPart name p) h w)
fair_part status.Accepted part P name h w = absurd h
fair_part status.Usage part P name h w = absurd h
fair_part (status.File cause n) part P name h w = absurd h
fair_part _ part P name h w = h

-- what a refusal leaves
pub left_refused : (s : Status) (part : Option Written) (before now : Outside) → IsFair s part (Unit {0}) → IsLeft before.files now.files part → Left (λ r. r ≡ Err (refusal s part)) before now s
left_refused status.Memory part before now fair left = inl (subst (λ (p : Option Written). IsLeft before.files now.files p) fair left)
left_refused status.Accepted part before now fair left = absurd fair
left_refused status.Usage part before now fair left = absurd fair
left_refused (status.File cause name) part before now fair left = absurd fair
left_refused _ part before now fair left = (part, refl, left)

-- what is left after this very answer is what is left after an answer of the tool
pub lifts : (A : Result Product Refusal → Type 0) (r : Result Product Refusal) → IsJudged A r → (before now : Outside) (s : Status) → Left (λ x. x ≡ r) before now s → Left A before now s
lifts A r judged before now s h = by s h where
  at : (x : Result Product Refusal) → x ≡ r → IsJudged A x
  at x e = subst (λ (y : Result Product Refusal). IsJudged A y) (sym e) judged

  writing : (name : List ℕ) (x : Result Product Refusal) → x ≡ r → IsWriting name x → A x
  writing name (Ok p) e w = at (Ok p) e
  writing name (Err x) e w = fair_part x.status x.part (A (Err x)) name (at (Err x) e) w

  by : (s : Status) → Left (λ x. x ≡ r) before now s → Left A before now s
  by status.Accepted h = (h.0, at (Ok h.0) h.1, h.2, h.3)
  by (status.File WriteFault name) h = (h.0, h.1, (h.2.0, writing name h.2.0 h.2.1 h.2.2, h.2.2))
  by (status.File OutFault name) h = (h.0, (h.1.0, at (Ok h.1.0) h.1.1, h.1.2, h.1.3, h.1.4))
  by status.Memory h = elim h [ inl same ↦ inl same | inr w ↦ inr (w.0, at (Ok w.0) w.1, w.2) ]
  by (status.File Missing name) h = absurd h
  by (status.File ReadFault name) h = absurd h
  by status.Usage h = absurd h
  by s h = (h.0, at (Err (refusal s h.0)) h.1, h.2)

-- the same, by the slices that the tool was given
pub lifts_at : (A : Inputs → Result Product Refusal → Type 0) (a b x y : List (List ℕ)) → a ≡ x → b ≡ y → (r : Result Product Refusal) → IsJudged (A (inputs a b)) r
    → (before now : Outside) (s : Status) → Left (λ z. z ≡ r) before now s → Left (A (inputs x y)) before now s
lifts_at A a b x y e f r judged before now s h =
    lifts (A (inputs x y)) r (subst (λ (k : List (List ℕ)). IsJudged (A (inputs x k)) r) f (subst (λ (k : List (List ℕ)). IsJudged (A (inputs k b)) r) e judged)) before now s h

-- ---- the table

-- the rows of a run that reads all
pub caused : (plan : Plan) (A : Inputs → Result Product Refusal → Type 0) (a b : ShelfSeen) (t : SinkSeen) (now : Outside) (first more : List (List ℕ)) → OnlyReads a b
    → WasRead a.files plan first more → (s : Status) → Left (A (inputs first more)) (outside b t) now s → Caused plan A (outside a t) now s
caused plan A a b t now first more reads was s h = by s h where
  comes : (r : Result Product Refusal) → A (inputs first more) r → ComesTo a.files plan A r
  comes r answered = record { first = first; more = more; first_read = was.first_read; more_read = was.more_read; answered = answered }

  stored : (name : List ℕ) (file : Option (List ℕ)) → IsStored b.files now.files name file → IsStored a.files now.files name file
  stored name file h = subst (λ (f : Option Files). IsStored f now.files name file) reads.files h

  left : (part : Option Written) → IsLeft b.files now.files part → IsLeft a.files now.files part
  left part h = subst (λ (f : Option Files). IsLeft f now.files part) reads.files h

  by : (s : Status) → Left (A (inputs first more)) (outside b t) now s → Caused plan A (outside a t) now s
  by status.Accepted h = (h.0, comes (Ok h.0) h.1, stored h.0.name h.0.file h.2, h.3)
  by (status.File WriteFault name) h =
      (omega (arith, h.0, reads.counts.write_faults), subst (λ (f : Option Files). SameBut f now.files name) reads.files h.1, (h.2.0, comes h.2.0 h.2.1, h.2.2))
  by (status.File OutFault name) h = (h.0, (h.1.0, comes (Ok h.1.0) h.1.1, h.1.2, stored h.1.0.name h.1.0.file h.1.3, h.1.4))
  by status.Memory h = elim h [ inl same ↦ inl (same ∙ reads.files) | inr w ↦ inr (w.0, comes (Ok w.0) w.1, stored w.0.name w.0.file w.2) ]
  by (status.File Missing name) h = absurd h
  by (status.File ReadFault name) h = absurd h
  by status.Usage h = absurd h
  by (status.Limit l) h = inr (h.0, comes (Err (refusal (status.Limit l) h.0)) h.1, left h.0 h.2)
  by s h = (h.0, comes (Err (refusal s h.0)) h.1, left h.0 h.2)
