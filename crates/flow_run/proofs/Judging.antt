-- What stands in the files of a library refuses it by a status of judging, never for a file.
use Rattle.std.proofs.Common.{◌≡◌, ℕ, Bool, List, None, sym, subst, refl}
use Rattle.vlsi_base.specs.declared.fault.ReadError.{ReadError}
use Rattle.vlsi_base.specs.declared.fault.ReadError.TheVariants as reading
use Rattle.vlsi_base.specs.declared.fault.LimitKind.TheVariants.{Width}
use Rattle.catal.specs.declared.error.CatalError.{CatalError}
use Rattle.catal.specs.declared.error.CatalError.TheVariants as catal
use Rattle.cell_model.specs.Cell.{Cell}
use Rattle.cell_checks.specs.Verdict.{check_number}
use Rattle.cell_lib.specs.declared.error.LibError.{LibError}
use Rattle.cell_lib.specs.declared.error.LibError.TheVariants as errors
use Rattle.cell_lib.specs.Cells.{Source}
use Rattle.cell_lib.specs.Causes.{behaviour_check, layout_check, told_as, unread, placed}
use Rattle.cell_lib.specs.Load.{refused}
use Rattle.cell_lib.specs.Library.{IsUnsaid, behaviour, layout, IsCheckRefusal, fails, wide, IsCellRefusal, unsaid, unfit, IsRefusedLibrary, bad_list, bad_cell, status_of}
use Rattle.tool_drive.specs.Table.{IsFair}

-- a refusal of a library has a status of judging, for which P holds
abbrev pub IsFairLibrary : LibError → Type 0 → Type 0
IsFairLibrary e P = IsFair (status_of e) None P

same : (e d : LibError) (P : Type 0) → e ≡ d → IsFairLibrary d P → IsFairLibrary e P
same e d P is h = subst (λ (x : LibError). IsFairLibrary x P) (sym is) h

told : (cell : List ℕ) (n : ℕ) (fault : ReadError) (P : Type 0) → P → IsFairLibrary (told_as cell n fault) P
told cell n reading.Memory P p = refl
told cell n (reading.Input f) P p = p
told cell n (reading.Limit l) P p = p

fair_unsaid : (source : Source) (e : LibError) (P : Type 0) → IsUnsaid source e → P → IsFairLibrary e P
fair_unsaid source e P (behaviour r) p = same e (told_as source.name behaviour_check r.fault) P r.told (told source.name behaviour_check r.fault P p)
fair_unsaid source e P (layout text t (unread fault r is)) p = same e (told_as source.name layout_check fault) P is (told source.name layout_check fault P p)
fair_unsaid source e P (layout text t (placed figure f some is)) p = same e (errors.BadCell source.name layout_check) P is p

fair_check : (tracks : Bool) (c : Cell) (e : LibError) (P : Type 0) → IsCheckRefusal tracks c e → P → IsFairLibrary e P
fair_check tracks c e P (fails k f is) p = same e (errors.BadCell c.name (check_number k)) P is p
fair_check tracks c e P (wide columns v is) p = same e (errors.Limit (record { which = Width; reached = columns })) P is p

fair_cell : (tracks : Bool) (source : Source) (e : LibError) (P : Type 0) → IsCellRefusal tracks source e → P → IsFairLibrary e P
fair_cell tracks source e P (unsaid r) p = fair_unsaid source e P r p
fair_cell tracks source e P (unfit c s r) p = fair_check tracks c e P r p

pub fair_list : (fault : CatalError) (P : Type 0) → P → IsFairLibrary (refused fault) P
fair_list catal.Memory P p = refl
fair_list (catal.BadLine line) P p = p
fair_list (catal.Limit l) P p = p

pub fair_library : (tracks : Bool) (list : List ℕ) (cells : List (List ℕ)) (e : LibError) (P : Type 0) → IsRefusedLibrary tracks list cells e → P → IsFairLibrary e P
fair_library tracks list cells e P (bad_list fault r is) p = same e (refused fault) P is (fair_list fault P p)
fair_library tracks list cells e P (bad_cell names uses first) p = fair_cell tracks first.source e P first.refused p
