-- Refusals of texts, for the definitions of tools.
use Rattle.std.specs.Prelude.{◌≡◌, ℕ, List, Option, None, Result, Err, refl}
use Rattle.std.proofs.Common.{sym, subst}
use Rattle.vlsi_base.specs.declared.fault.FaultKind.{FaultKind}
use Rattle.vlsi_base.specs.declared.fault.ReadError.{ReadError}
use Rattle.vlsi_base.specs.declared.fault.ReadError.TheVariants as errors
use Rattle.vlsi_base.specs.declared.name.Name.{Name}
use Rattle.tool_drive.specs.declared.status.Status.{Status}
use Rattle.tool_drive.specs.declared.status.Status.TheVariants as status
use Rattle.tool_drive.specs.declared.tool.Written.{Written}
use Rattle.tool_drive.specs.declared.tool.Product.{Product}
use Rattle.tool_drive.specs.declared.tool.Refusal.{Refusal}
use Rattle.tool_drive.specs.Table.{IsFair, IsJudged, refusal}

-- out of memory, or this
abbrev pub MemoryOr : Status → Type 0 → Type 0
MemoryOr status.Memory P = Unit {0}
MemoryOr s P = P

-- the text of this file is refused, by a reader whose refusals R are
abbrev pub OfFile : List ℕ → (ReadError → Type 0) → Status → Type 0
OfFile file R (status.Source name fault) = (name ≡ file) × R (errors.Input fault)
OfFile file R (status.Limit l) = R (errors.Limit l)
OfFile file R s = ⊥

-- a fault of the whole file stands on line 1
abbrev pub whole_fault : List ℕ → FaultKind → List Name → Status
whole_fault file k names = status.Source file (record { line = 1; kind = k; names = names })

-- ---- lemmas that tools' proofs cite: none has a case for each status

-- what follows of a status that may be out of memory
pub memory_then : (s : Status) (P Q : Type 0) → (P → Q) → MemoryOr s P → MemoryOr s Q
memory_then status.Memory P Q f h = tt
memory_then _ P Q f h = f h

-- what follows of a status of judging
pub fair_then : (s : Status) (part : Option Written) (P Q : Type 0) → (P → Q) → IsFair s part P → IsFair s part Q
fair_then status.Memory part P Q f h = h
fair_then status.Accepted part P Q f h = h
fair_then status.Usage part P Q f h = h
fair_then (status.File cause name) part P Q f h = h
fair_then _ part P Q f h = f h

-- a status for which P holds, or out of memory, is one that a tool may answer
pub judged : (A : Result Product Refusal → Type 0) (P : Status → Type 0) → ((t : Status) → P t → IsFair t None (A (Err (refusal t None)))) → (s : Status) → MemoryOr s (P s)
    → IsJudged A (Err (refusal s None))
judged A P told status.Memory k = refl
judged A P told s k = told s k

-- from one refusal of a reader to its refusals
pub of_file : (file : List ℕ) (R : ReadError → Type 0) (error : ReadError) → R error → (s : Status)
    → MemoryOr s (OfFile file (λ e. e ≡ error) s) → MemoryOr s (OfFile file R s)
of_file file R error h status.Memory k = tt
of_file file R error h (status.Source name fault) k = (k.0, subst R (sym k.1) h)
of_file file R error h (status.Limit l) k = subst R (sym k) h
of_file file R error h _ k = absurd k

-- a text's refusal that a tool's definition has is one that it may answer
pub judged_file : (A : Result Product Refusal → Type 0) (file : List ℕ) (R : ReadError → Type 0) (s : Status) → MemoryOr s (OfFile file R s)
    → (OfFile file R s → A (Err (refusal s None))) → IsJudged A (Err (refusal s None))
judged_file A file R status.Memory k f = refl
judged_file A file R (status.Source name fault) k f = f k
judged_file A file R (status.Limit l) k f = f k
judged_file A file R _ k f = absurd k

-- what a tool refuses so, is one that it may answer
pub refused_file : (A : Result Product Refusal → Type 0) (file : List ℕ) (R : ReadError → Type 0) (error : ReadError) (s : Status) (r : Refusal) → R error
    → MemoryOr s (OfFile file (λ e. e ≡ error) s) → r ≡ refusal s None → (OfFile file R s → A (Err (refusal s None))) → IsJudged A (Err r)
refused_file A file R error s r h k plain f = subst (λ (x : Refusal). IsJudged A (Err x)) (sym plain) (judged_file A file R s (of_file file R error h s k) f)
