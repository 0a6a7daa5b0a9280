-- The rows of `flow`: the headline, and when it has to come.
use Rattle.std.proofs.Common.{◌≡◌, inl, inr, ℕ, Bool, true, false, ◌∙◌, List, [], ◌∷◌, Option, None, Some, IfSome, Result, Ok, Err, get_or, subst}
use Rattle.vlsi_base.specs.declared.name.Terminal.{Terminal}
use Rattle.vlsi_shelf.specs.Files.{Files}
use Rattle.vlsi_shelf.specs.Shelf.{Writes}
use Rattle.flow_words.specs.declared.words.FlowCommand.{FlowCommand}
use Rattle.tool_drive.specs.declared.status.Status.{Status}
use Rattle.tool_drive.specs.declared.status.Status.TheVariants.{Accepted, Memory, NoPath}
use Rattle.tool_drive.specs.declared.tool.Product.{Product}
use Rattle.tool_drive.specs.declared.tool.Refusal.{Refusal}
use Rattle.tool_drive.specs.Outside.{Outside, NothingFailed}
use Rattle.tool_drive.specs.Plan.{Inputs, inputs, Reading, got, reading}
use Rattle.tool_drive.specs.Table.{status_of, ComesTo, IsStored, Caused, Follows, IsComplete}
use Rattle.flow_run.specs.Flow.{flow_plan, flow_answers, IsLaidOut}
use Rattle.flow_run.specs.Causes.{IsDrawn, IsHeadline, IsFree, Ends}
use Rattle.flow_run.specs.Laws.{WhatIsReadIsNeverRefused}
use Rattle.flow_run.proofs.Standing.{stood, reads}

pub if_some : {A : Type 0} {P Q : A → Type 0} (o : Option A) → ((x : A) → P x → Q x) → IfSome o P → IfSome o Q
if_some None f h = tt
if_some (Some x) f h = f x h

-- ---- the headline

drawn : (c : FlowCommand) (told now : Option Files) (p : Product) → ComesTo told (flow_plan c) (flow_answers c) (Ok p) → IsStored told now p.name p.file
    → IfSome told (λ old. IsDrawn old now c p.text)
drawn c None now p h w = tt
drawn c (Some old) now p h w =
    let l : IsLaidOut c (get_or h.first 0 []) (get_or h.first 1 []) h.more p = h.answered in
    let d = l.drawn in
    let stored : IsStored (Some old) now p.name (Some d.bytes) = subst (λ (f : Option (List ℕ)). IsStored (Some old) now p.name f) d.file w in
    record {
      source = get_or h.first 0 [];
      catal = get_or h.first 1 [];
      cells = h.more;
      stood = stood old c h.first h.more h.first_read h.more_read;
      o = l.o;
      m = l.m;
      l = l.l;
      read = l.read;
      bytes = d.bytes;
      written = subst (λ (n : List ℕ). Writes (Some old) now n d.bytes) d.name stored;
      right = d.right;
    }

pub headline_of : (c : FlowCommand) (before now : Outside) (s : Status) → Caused (flow_plan c) (flow_answers c) before now s → s ≡ Accepted → IsHeadline c before now
headline_of c before now s h is =
    let a : Caused (flow_plan c) (flow_answers c) before now Accepted = subst (λ (x : Status). Caused (flow_plan c) (flow_answers c) before now x) is h in
    (a.0.text, a.3, drawn c before.files now.files a.0 a.1 a.2)

-- ---- where nothing stands in the way

pub ends_accepted : (tracks : Bool) (s : Status) → s ≡ Accepted → Ends tracks s
ends_accepted true s h = inl h
ends_accepted false s h = inl h

pub ends_memory : (tracks : Bool) (s : Status) → s ≡ Memory → Ends tracks s
ends_memory true s h = inr h
ends_memory false s h = inr (inl h)

pub ends_stuck : (tracks : Bool) (s : Status) → tracks ≡ false → (net : ℕ) (terminal : Terminal) → s ≡ NoPath net terminal → Ends tracks s
ends_stuck true s never net terminal h = absurd (cc never)
ends_stuck false s never net terminal h = inr (inr (net, terminal, h))

pub laid_free : WhatIsReadIsNeverRefused → (c : FlowCommand) (before now : Outside) (s : Status) → IsComplete (flow_plan c) (flow_answers c) before now s → IsFree c before now
    → Ends c.tracks s
laid_free law c before now s complete free =
    let all : IfSome (Some free.files) (λ files. NothingFailed before now → Follows (flow_answers c) before now (reading files (flow_plan c)) s) =
    subst (λ (t : Option Files). IfSome t (λ files. NothingFailed before now → Follows (flow_answers c) before now (reading files (flow_plan c)) s)) free.told complete in
    let follows : Follows (flow_answers c) before now (got i) s =
    subst (λ (r : Reading Inputs). Follows (flow_answers c) before now r s) (reads free.files c free.source free.catal free.cells free.stood) (all free.read) in
    elim (follows free.printed) [ inl x ↦ by x.0 x.1 x.2 | inr m ↦ ends_memory c.tracks s m ]
  where
    i : Inputs
    i = inputs (free.source ∷ free.catal ∷ []) free.cells

    by : (r : Result Product Refusal) → flow_answers c i r → s ≡ status_of r → Ends c.tracks s
    by (Ok p) h e = ends_accepted c.tracks s e
    by (Err r) (inr h) e = ends_stuck c.tracks s h.no_tracks h.shown.net h.shown.terminal (e ∙ h.shown.status)
    by (Err r) (inl h) e =
        absurd (law c free.source free.catal free.cells free.o free.m free.l r.status free.are_read free.covered free.within h.1)
