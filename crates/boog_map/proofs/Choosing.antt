-- The kinds that a cell is needed of.
use Rattle.std.proofs.Common.{Bool, true}
use Rattle.vlsi_base.specs.Member.{In, here, there}
use Rattle.vlsi_base.specs.declared.kind.Kind.TheVariants as kind
use Rattle.cell_model.specs.Covering.{needed}

pub needs_inv : (b : Bool) → In kind.Inv (needed b)
needs_inv b = here

pub needs_nand : (b : Bool) → In kind.Nand2 (needed b)
needs_nand b = there here

pub needs_zero : (b : Bool) → In kind.Zero (needed b)
needs_zero b = there (there here)

pub needs_one : (b : Bool) → In kind.One (needed b)
needs_one b = there (there (there here))

pub needs_dff : In kind.Dff (needed true)
needs_dff = there (there (there (there here)))
