-- Room for the names of a library's cells.
use Rattle.std.proofs.Common.{◌≡◌, ℕ, List, map, Result, Ok, Err, subst, sym}
use Rattle.std.specs.Prelude.{OnOk}
use Rattle.std.specs.declared.alloc.AllocError.{AllocError}
use Rattle.vlsi_base.specs.Member.{In}
use Rattle.cell_model.specs.Cell.{Cell}
use Rattle.cell_model.specs.Library.{Library}
use Rattle.cell_model.proofs.Members.{All-In, In-map}
use Rattle.net_core.specs.Places.{IsThere}
use Rattle.net_core.specs.Netlist.{Netlist, ReservesModels}
use Rattle.loon_buffer.specs.Drives.{HasDrives}
use Rattle.loon_drive.proofs.Lists.{stands_in}

pub has_drives : (r : Result (Unit {0}) AllocError) (l : Library) (old new : Netlist) (names : List (List ℕ)) → names ≡ map (λ (c : Cell). c.name) l.cells
    → OnOk r (ReservesModels old new names) → OnOk r (HasDrives l new)
has_drives (Err e) l old new names is h = h
has_drives (Ok u) l old new names is h = λ c at usable.
    All-In (IsThere new.models) names h.added c.name
    (subst (λ (ns : List (List ℕ)). In c.name ns) (sym is) (In-map (λ (x : Cell). x.name) c l.cells (stands_in l.cells at.0 c at.1)))
