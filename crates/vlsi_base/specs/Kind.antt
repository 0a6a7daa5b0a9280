-- The functions that mapping needs a cell for, as they are printed.
use Rattle.std.specs.Prelude.{ℕ, List, codes}
use Rattle.vlsi_base.specs.declared.kind.Kind.{Kind}
use Rattle.vlsi_base.specs.declared.kind.Kind.TheVariants as kind

abbrev pub kind_text : Kind → List ℕ
kind_text kind.Inv = codes "inv"
kind_text kind.Nand2 = codes "nand2"
kind_text kind.Zero = codes "zero"
kind_text kind.One = codes "one"
kind_text kind.Dff = codes "dff"
