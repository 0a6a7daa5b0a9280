-- What is a cell, or a library, isn't refused.
use Rattle.std.proofs.Common.{◌≡◌, ℕ, Bool, true, false, List, [], ◌∷◌, ◌++◌, sym, ap, ◌∙◌, subst}
use Rattle.std.specs.List.{list_any}
use Rattle.vlsi_base.specs.Member.{In, here, there}
use Rattle.ap_io.specs.declared.figure.Figure.{Figure}
use Rattle.ap_io.proofs.Once.{one_figure, never_both}
use Rattle.vbe_io.proofs.CellLaws.{cell_never_both}
use Rattle.catal.specs.Catal.{IsCatal}
use Rattle.catal.proofs.Once as list
use Rattle.cell_model.specs.Cell.{Cell}
use Rattle.cell_checks.specs.declared.verdict.CellVerdict.TheVariants as verdict
use Rattle.cell_checks.specs.Verdict.{IsVerdict}
use Rattle.cell_lib.specs.declared.error.LibError.{LibError}
use Rattle.cell_lib.specs.Cells.{Source, sources, AreCells, none, next, IsFirstRefused}
use Rattle.cell_lib.specs.Causes.{is_instance, IsLayout, IsLayoutRefusal, unread, placed}
use Rattle.cell_lib.specs.Library.{behaviour, layout, IsCheckRefusal, fails, wide, IsCell, IsCellRefusal, unsaid, unfit, bad_list, bad_cell}
use Rattle.flow_run.specs.Same.{TextsAreSame}
use Rattle.flow_run.specs.OneLibrary.{SaidIsNeverUnsaid, CellIsNeverRefused, LibraryIsNeverRefused}
use Rattle.flow_run.proofs.Checks.{LookAlike, check_moves, wide_moves}
use Rattle.flow_run.proofs.Cells.{look_alike}

layout_refused : (cell ap_bytes : List ℕ) (f : Figure) (e : LibError) → IsLayout ap_bytes f → IsLayoutRefusal cell ap_bytes e → ⊥
layout_refused cell bytes f e is (unread fault r told) = never_both bytes f fault is.text r
layout_refused cell bytes f e is (placed g t some told) =
    let same : g ≡ f = one_figure bytes g f t is.text in
    let never : true ≡ false = sym some ∙ ap (λ (x : Figure). list_any is_instance x.items) same ∙ is.flat in absurd cc

pub said_never_unsaid : SaidIsNeverUnsaid
said_never_unsaid source c e is (behaviour r) = cell_never_both source.vbe is.text r.fault is.text_read r.refused
said_never_unsaid source c e is (layout text t r) = layout_refused source.name source.ap is.figure e is.layout_read r

check_refused : (tracks : Bool) (c d : Cell) (e : LibError) → LookAlike c d → IsVerdict tracks c verdict.Passes → IsCheckRefusal tracks d e → ⊥
check_refused tracks c d e a passes (fails k f told) = f.fails (check_moves tracks c d a k (passes.0 k))
check_refused tracks c d e a passes (wide columns v told) =
    passes.1 columns (wide_moves d c columns (record { pins = sym a.pins; bounds = sym a.bounds; items = sym a.items; there = a.back; back = a.there }) v.1)

pub cell_never_refused : TextsAreSame → CellIsNeverRefused
cell_never_refused texts tracks source c e is (unsaid r) = said_never_unsaid source c e is.said r
cell_never_refused texts tracks source c e is (unfit d said r) =
    check_refused tracks c d e (look_alike texts source c d is.said said) is.passes r

-- ---- libraries

source_in : (before : List Source) (s : Source) (behind : List Source) → In s (before ++ s ∷ behind)
source_in [] s behind = here
source_in (b ∷ before) s behind = there (source_in before s behind)

-- each source has a cell
pub cell_of : (tracks : Bool) (ss : List Source) (cells : List Cell) (s : Source) → AreCells (IsCell tracks) ss cells → In s ss → (c : Cell) × IsCell tracks s c
cell_of tracks _ _ s none i = elim i [ ]
cell_of tracks _ _ s (next {cell = c} h rest) here = (c, h)
cell_of tracks _ _ s (next {rest = ss} {cells = cs} h rest) (there i) = cell_of tracks ss cs s rest i

first_refused : TextsAreSame → (tracks : Bool) (ss : List Source) (cells : List Cell) (e : LibError)
    → AreCells (IsCell tracks) ss cells → IsFirstRefused (IsCell tracks) (IsCellRefusal tracks) ss e → ⊥
first_refused texts tracks ss cells e are r =
    let i : In r.source ss = subst (λ (l : List Source). In r.source l) (sym r.all_are) (source_in r.before r.source r.behind) in
    let q = cell_of tracks ss cells r.source are i in
    cell_never_refused texts tracks r.source q.0 e q.1 r.refused

pub names_once : (bytes : List ℕ) (a b : List (List ℕ)) → IsCatal bytes a → IsCatal bytes b → a ≡ b
names_once bytes a b h k = sym (list.one_list bytes a h) ∙ list.one_list bytes b k

pub library_never_refused : TextsAreSame → LibraryIsNeverRefused
library_never_refused texts tracks catal files l e is (bad_list fault r told) = list.never_both catal is.names fault is.uses r
library_never_refused texts tracks catal files l e is (bad_cell names uses r) =
    first_refused texts tracks (sources is.names files) l.cells e is.cells
    (subst (λ (ns : List (List ℕ)). IsFirstRefused (IsCell tracks) (IsCellRefusal tracks) (sources ns files) e) (names_once catal names is.names uses is.uses) r)
