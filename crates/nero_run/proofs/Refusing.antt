-- From the refusals of the netlist, of its placement and of routing to the tool's.
use Rattle.std.proofs.Common.{◌≡◌, ℕ, false, List, [], None, Result, Ok, Err, IfOk, IfErr, refl, sym, subst}
use Rattle.vlsi_base.specs.declared.fault.FaultKind.TheVariants as kind
use Rattle.vlsi_base.specs.declared.fault.ReadError.{ReadError}
use Rattle.ap_io.specs.declared.figure.Figure.{Figure}
use Rattle.ap_io.specs.ApText.{IsApText}
use Rattle.ap_io.specs.Refusal.{IsApRefusal}
use Rattle.cell_model.specs.Library.{Library}
use Rattle.cell_lib.specs.Library.{IsLibraryOf}
use Rattle.cell_pins.specs.Table.{IsTableOf}
use Rattle.net_core.specs.declared.pins.ModelPins.{ModelPins}
use Rattle.net_core.specs.Netlist.{Netlist}
use Rattle.ocp_place.specs.Placed.{InRow}
use Rattle.ocp_figure.specs.Answers.{HasNoPlacement}
use Rattle.tool_drive.specs.declared.status.Status.{Status}
use Rattle.tool_drive.specs.declared.status.Status.TheVariants as status
use Rattle.tool_drive.specs.declared.tool.Product.{Product}
use Rattle.tool_drive.specs.declared.tool.Refusal.{Refusal}
use Rattle.tool_drive.specs.Table.{IsFair, IsJudged, refusal}
use Rattle.tool_drive.specs.Refusals.{MemoryOr, OfFile, of_file, memory_then, fair_then, whole_fault}
use Rattle.ocp_run.specs.Source.{IsNoSource}
use Rattle.ocp_run.proofs.Refusing.{never}
use Rattle.nero_run.specs.Asked.{Asked}
use Rattle.nero_run.specs.Nero.{Texts, NetlistIsRead, IsUnplaced, bad_layout, not_placed, IsOverGrid, IsGiven, IsPlainRefusal, IsRoutable, IsLaidOut, IsLeftStuck, no_source, unplaced, large_grid, plain, stuck, Routes}

-- ---- the placement

module _ (file bytes : List ℕ) (l : Library) (n : Netlist) where
  pub layout_refused : (e : ReadError) (s : Status) → IsApRefusal bytes e → MemoryOr s (OfFile file (λ x. x ≡ e) s) → MemoryOr s (IsUnplaced file bytes l n s)
  layout_refused e s h k =
      memory_then s (OfFile file (IsApRefusal bytes) s) (IsUnplaced file bytes l n s) (λ o. bad_layout o) (of_file file (IsApRefusal bytes) e h s k)

  pub isnt_placed : (f : Figure) (s : Status) → IsApText bytes f → HasNoPlacement l n f → MemoryOr s (s ≡ whole_fault file kind.NotPlaced [])
      → MemoryOr s (IsUnplaced file bytes l n s)
  isnt_placed f s is never k = memory_then s (s ≡ whole_fault file kind.NotPlaced []) (IsUnplaced file bytes l n s) (λ e. not_placed f is never e) k

-- ---- plain refusals

-- a status for which P holds, or out of memory, is a fair one
fair : (P : Status → Type 0) (Q : Status → Type 0) → ((s : Status) → P s → IsFair s None (Q s)) → (s : Status) → MemoryOr s (P s) → IsFair s None (Q s)
fair P Q told status.Memory h = refl
fair P Q told s h = told s h

module _ (c : Asked) (t : Texts) (l : Library) (table : List ModelPins) where
  pub by_source : (s : Status) → IsLibraryOf false t.catal t.cells l → IsTableOf l false table → MemoryOr s (IsNoSource c.source t.source table s)
      → IsFair s None (IsPlainRefusal c t s)
  by_source s library pins h = fair (λ x. IsNoSource c.source t.source table x) (λ x. IsPlainRefusal c t x) told s h where
    told : (s : Status) → IsNoSource c.source t.source table s → IsFair s None (IsPlainRefusal c t s)
    told status.Memory u = refl
    told status.Accepted u = never c.source t.source table status.Accepted u (λ x. x) (λ k names e. cc e)
    told status.Usage u = never c.source t.source table status.Usage u (λ x. x) (λ k names e. cc e)
    told (status.File cause name) u = never c.source t.source table (status.File cause name) u (λ x. x) (λ k names e. cc e)
    told s u = no_source l table library pins u

  module _ (n : Netlist) (read : NetlistIsRead t l table n) where
    none_so : (s : Status) → IsUnplaced c.placed t.placed l n s → (OfFile c.placed (IsApRefusal t.placed) s → ⊥) → (s ≡ whole_fault c.placed kind.NotPlaced [] → ⊥) → ⊥
    none_so s (bad_layout o) f g = f o
    none_so s (not_placed x is nowhere e) f g = g e

    pub by_placed : (s : Status) → MemoryOr s (IsUnplaced c.placed t.placed l n s) → IsFair s None (IsPlainRefusal c t s)
    by_placed s h = fair (λ x. IsUnplaced c.placed t.placed l n x) (λ x. IsPlainRefusal c t x) told s h where
      told : (s : Status) → IsUnplaced c.placed t.placed l n s → IsFair s None (IsPlainRefusal c t s)
      told status.Memory u = refl
      told status.Accepted u = none_so status.Accepted u (λ x. x) (λ e. cc e)
      told status.Usage u = none_so status.Usage u (λ x. x) (λ e. cc e)
      told (status.File cause name) u = none_so (status.File cause name) u (λ x. x) (λ e. cc e)
      told s u = unplaced l table n read u

-- a grid with too many nodes
pub by_grid : (c : Asked) (t : Texts) (l : Library) (n : Netlist) (p : InRow) (g : IsGiven t l n p) (s : Status) → IsOverGrid l n p c.metals s → IsFair s None (IsPlainRefusal c t s)
by_grid c t l n p g s h = told s h.3 h where
  told : (s : Status) {limit : _} → s ≡ status.Limit limit → IsOverGrid l n p c.metals s → IsFair s None (IsPlainRefusal c t s)
  told s {limit} e h =
      subst (λ (x : Status). IsOverGrid l n p c.metals x → IsFair x None (IsPlainRefusal c t x)) (sym e)
      (λ over. large_grid l n p g over) h

-- ---- what is answered

-- what was refused before
pub by_given : (c : Asked) (t : Texts) (s : Status) → IsFair s None (IsPlainRefusal c t s) → IsJudged (Routes c t) (Err (refusal s None))
by_given c t s h = fair_then s None (IsPlainRefusal c t s) (Routes c t (Err (refusal s None))) (λ x. plain refl x) h

-- what routing comes to
pub by_routes : (c : Asked) (t : Texts) (l : Library) (n : Netlist) (p : InRow) → IsRoutable c t l n p → (r : Result Product Refusal) → IfOk r (λ q. IsLaidOut c l n p q)
    → IfErr r (λ e. IsFair e.status e.part (IsLeftStuck c l n p e)) → IsJudged (Routes c t) r
by_routes c t l n p x (Ok q) good bad = record { l = l; n = n; placement = p; routable = x; laid = good }
by_routes c t l n p x (Err e) good bad =
    fair_then e.status e.part (IsLeftStuck c l n p e) (Routes c t (Err e)) (λ s. stuck l n p x s) bad
