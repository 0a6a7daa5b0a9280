-- Why the two files of a name are no cell, by the numbers of the checks.
use Rattle.std.specs.Prelude.{◌≡◌, ℕ, Bool, true, false, List}
use Rattle.std.specs.List.{list_any}
use Rattle.vlsi_base.specs.declared.fault.ReadError.{ReadError}
use Rattle.vlsi_base.specs.declared.fault.ReadError.TheVariants as reading
use Rattle.sym_geom.specs.declared.item.Item.{Item}
use Rattle.sym_geom.specs.declared.item.Item.TheVariants as item
use Rattle.vbe_io.specs.Cell.{CellRefused}
use Rattle.ap_io.specs.declared.figure.Figure.{Figure}
use Rattle.ap_io.specs.ApText.{IsApText}
use Rattle.ap_io.specs.Refusal.{Refused}
use Rattle.cell_lib.specs.declared.error.LibError.{LibError}
use Rattle.cell_lib.specs.declared.error.LibError.TheVariants as errors

-- the numbers of the checks of a cell's two files
abbrev pub behaviour_check : ℕ
behaviour_check = 1

abbrev pub layout_check : ℕ
layout_check = 2

-- a fault of a cell's file is told by the number of its check, and a limit as it is
abbrev pub told_as : List ℕ → ℕ → ReadError → LibError
told_as cell cause reading.Memory = errors.Memory
told_as cell cause (reading.Input f) = errors.BadCell cell cause
told_as cell cause (reading.Limit l) = errors.Limit l

-- check 1: the vbe is read
pub record IsVbeRefusal (cell vbe : List ℕ) (e : LibError) : Type 0 where
  pub fault : ReadError
  pub refused : CellRefused vbe fault
  pub told : e ≡ told_as cell behaviour_check fault

abbrev pub is_instance : Item → Bool
is_instance (item.Instance i) = true
is_instance _ = false

-- the ap is that of the figure, which has no instance
pub record IsLayout (ap : List ℕ) (figure : Figure) : Type 0 where
  pub text : IsApText ap figure
  pub flat : list_any is_instance figure.items ≡ false

-- check 2: the ap is read, and has no instance
pub data IsLayoutRefusal (cell ap : List ℕ) (e : LibError) : Type 0 where
  unread : (fault : ReadError) → Refused ap fault → e ≡ told_as cell layout_check fault → IsLayoutRefusal cell ap e
  placed : (figure : Figure) → IsApText ap figure → list_any is_instance figure.items ≡ true
      → e ≡ errors.BadCell cell layout_check → IsLayoutRefusal cell ap e
