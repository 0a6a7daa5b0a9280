-- Over a library that was checked for tracks the pins of each cell in use are reached in columns of their own.
use Rattle.std.proofs.Common.{◌≡◌, ℕ, List, true, refl, sym, ◌∙◌, subst, arith}
use Rattle.std.proofs.lemmas.Option.{same_Some}
use Rattle.vlsi_base.specs.declared.name.Name.{Name}
use Rattle.machine_core.specs.Machine.{names_of}
use Rattle.cell_model.specs.Cell.{Cell, pin_ports}
use Rattle.cell_model.specs.Usable.{IsFormed}
use Rattle.cell_model.specs.Library.{Library}
use Rattle.cell_model.proofs.Mapped.{usable_is_mappable}
use Rattle.cell_model.proofs.Members.{All-In}
use Rattle.cell_checks.specs.declared.verdict.Check.TheVariants as check
use Rattle.cell_checks.specs.declared.verdict.CellVerdict.TheVariants as verdict
use Rattle.cell_checks.specs.Checks.{ColumnsDiffer}
use Rattle.cell_checks.specs.Checked.{IsChecked as HasPassed}
use Rattle.cell_checks.specs.Verdict.{IsVerdict}
use Rattle.cell_pins.proofs.Sound.{member_at}
use Rattle.net_core.specs.Netlist.{Netlist as InMemory}
use Rattle.net_right.proofs.Models.{named_cell}
use Rattle.net_drawing.proofs.Cells.{names_distinct}
use Rattle.nero_tracks.specs.declared.error.TrackError.TheVariants as error
use Rattle.nero_tracks.specs.Drawable.{IsDrawableIn, SharesColumn, ColumnsAreFree}

never : (l : Library) (n : InMemory) (cell : List ℕ) (pin : Name) → HasPassed true l → IsDrawableIn l n → SharesColumn l n cell pin → ⊥
never l n cell pin passed given s =
    let r = given.usable s.user s.listed in
    let same : r.0 ≡ s.used = same_Some r.0 s.used (sym r.1 ∙ s.found) in
    let own = (named_cell l.cells s.user.model r.0 r.1).0 in
    let passes = All-In (λ (c : Cell). IsVerdict true c verdict.Passes) l.cells passed.passes r.0 own in
    let free : ColumnsDiffer s.used = subst (λ (c : Cell). ColumnsDiffer c) same (passes.0 check.Columns (usable_is_mappable r.0 r.2) refl) in
    let names = names_of (pin_ports s.used) in
    let k = s.shared.shared in
    let h = k.shares in
    let one : h.one ≡ h.other =
    free.same h.one h.other h.x h.y h.z (member_at names k.earlier h.one h.one_stands) (member_at names s.shared.place h.other h.other_stands) h.one_point h.other_point in
    let formed : IsFormed s.used = All-In IsFormed l.cells passed.formed s.used (named_cell l.cells s.user.model s.used s.found).0 in
    let place = names_distinct names formed.order k.earlier s.shared.place h.one h.other h.one_stands h.other_stands one in
    let before = k.before in
    omega (arith, place, before)

pub columns_are_free : ColumnsAreFree
columns_are_free l n error.Memory passed given h = refl
columns_are_free l n (error.NoColumn cell pin) passed given h = absurd (never l n cell pin passed given h)
