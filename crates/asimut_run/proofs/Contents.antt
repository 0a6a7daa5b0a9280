-- From what reading comes to, to the files' contents, and what is left of them.
use Rattle.std.proofs.Common.{◌≡◌, ℕ, List, [], ◌∷◌, get_or, Option, None, Some, IsSome, Result, Ok, Err, subst, inl, inr}
use Rattle.vlsi_shelf.specs.Files.{Files}
use Rattle.asimut_run.specs.declared.words.AsimutCommand.{AsimutCommand}
use Rattle.tool_drive.specs.declared.status.Status.{Status}
use Rattle.tool_drive.specs.declared.status.Status.TheVariants as status
use Rattle.tool_drive.specs.declared.status.FileCause.TheVariants.{Missing, ReadFault, WriteFault, OutFault}
use Rattle.tool_drive.specs.declared.tool.Written.{Written}
use Rattle.tool_drive.specs.declared.tool.Product.{Product}
use Rattle.tool_drive.specs.declared.tool.Refusal.{Refusal}
use Rattle.tool_drive.specs.Outside.{Outside, IsUntouched}
use Rattle.tool_drive.specs.Held.{Holds, AreHad, are_had, holds}
use Rattle.tool_drive.specs.Table.{refusal, IsStored, IsLeft, IsPart, IsWriting, ComesTo, Caused}
use Rattle.asimut_run.specs.Asimut.{asimut_plan, asimut_answers, Simulates}
use Rattle.asimut_run.specs.Laws.{OfBoth}

both_held : (c : AsimutCommand) (files : Files) (first : List (List ℕ)) → AreHad files (asimut_plan c).first first
    → Holds files c.source (get_or first 0 []) × Holds files c.patterns (get_or first 1 [])
both_held c files [] h = absurd h
both_held c files (source ∷ []) h = absurd h.1
both_held c files (source ∷ patterns ∷ []) h = (holds files c.source source h.0, holds files c.patterns patterns h.1.0)
both_held c files (source ∷ patterns ∷ other ∷ rest) h = absurd h.1.1

pub answers_both : (c : AsimutCommand) (told : Option Files) (r : Result Product Refusal) → ComesTo told (asimut_plan c) (asimut_answers c) r
    → OfBoth told c (λ source patterns. Simulates c source patterns r)
answers_both c None r h = tt
answers_both c (Some files) r h =
    let b = both_held c files h.first (are_had files (asimut_plan c).first h.first h.first_read) in
    (get_or h.first 0 [], get_or h.first 1 [], b.0, b.1, h.answered)

writes_none : (c : AsimutCommand) (source patterns name : List ℕ) (r : Result Product Refusal) → Simulates c source patterns r → IsWriting name r → ⊥
writes_none c source patterns name (Ok p) h w = no_file p.file h.1 w.1 where
  no_file : (file : Option (List ℕ)) → file ≡ None → IsSome file → ⊥
  no_file None e w = absurd (cc w)
  no_file (Some bytes) e w = absurd (cc e)
writes_none c source patterns name (Err r) h w = subst (λ (f : Option Written). IsPart name f) h.0 w

pub changes_no_file : (c : AsimutCommand) (before now : Outside) (s : Status) → Caused (asimut_plan c) (asimut_answers c) before now s → IsUntouched before now
changes_no_file c before now s h = by s h where
  Answer : Result Product Refusal → Type 0
  Answer r = ComesTo before.files (asimut_plan c) (asimut_answers c) r

  stored : (p : Product) → Answer (Ok p) → IsStored before.files now.files p.name p.file → IsUntouched before now
  stored p a w = subst (λ (f : Option (List ℕ)). IsStored before.files now.files p.name f) a.answered.1 w

  left : (s : Status) (part : Option Written) → Answer (Err (refusal s part)) → IsLeft before.files now.files part → IsUntouched before now
  left s part a w = subst (λ (f : Option Written). IsLeft before.files now.files f) a.answered.0 w

  by : (s : Status) → Caused (asimut_plan c) (asimut_answers c) before now s → IsUntouched before now
  by status.Accepted h = stored h.0 h.1 h.2
  by (status.File WriteFault name) h = absurd (writes_none c (get_or h.2.1.first 0 []) (get_or h.2.1.first 1 []) name h.2.0 h.2.1.answered h.2.2)
  by (status.File OutFault name) h = stored h.1.0 h.1.1 h.1.3
  by (status.File Missing name) h = h.0
  by (status.File ReadFault name) h = h.0
  by status.Memory h = elim h [ inl same ↦ same | inr w ↦ stored w.0 w.1 w.2 ]
  by status.Usage h = absurd h
  by (status.Limit l) h = elim h [ inl long ↦ long.0 | inr w ↦ left (status.Limit l) w.0 w.1 w.2 ]
  by s h = left s h.0 h.1 h.2
