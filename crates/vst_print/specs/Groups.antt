-- Ports of one text, declared together.
use Rattle.std.specs.Prelude.{ℕ, List, [], ◌∷◌, map, Option, None, Some, true, bytes_eq, if◌then◌else◌}
use Rattle.vlsi_base.specs.declared.name.Port.{Port}
use Rattle.vlsi_base.specs.declared.name.Dir.{Dir}
use Rattle.vlsi_base.specs.declared.name.Dir.TheVariants as dir
use Rattle.vlsi_base.specs.declared.entity.Mode.{Mode}
use Rattle.vlsi_base.specs.declared.entity.Mode.TheVariants as mode
use Rattle.vhdl_print.specs.Outline.{Bounds, OnePort, Outline}

-- Ports of one text: their direction, the bit of the first, which is the least, and that of the last.
pub record Group : Type 0 where
  pub text : List ℕ
  pub dir : Dir
  pub low : Option ℕ
  pub high : Option ℕ

-- from the first port of the group to the last
abbrev pub group_of : Port → Port → Group
group_of first last = record { text = first.name.text; dir = first.dir; low = first.name.bit; high = last.name.bit }

-- a port in front of others: the first of the next group, where that has its text
abbrev pub led_by : Port → List Group → List Group
led_by p [] = group_of p p ∷ []
led_by p (g ∷ gs) =
    if bytes_eq p.name.text g.text then record g { dir = p.dir; low = p.name.bit } ∷ gs else group_of p p ∷ g ∷ gs

-- ports in the order of names, in groups of one text
abbrev pub grouped : List Port → List Group
grouped [] = []
grouped (p ∷ ps) = led_by p (grouped ps)

abbrev pub mode_of : Dir → Mode
mode_of dir.In = mode.In
mode_of dir.Out = mode.Out

-- a vector falls from the greatest bit to the least
abbrev pub bounds_of : Option ℕ → Option ℕ → Option Bounds
bounds_of (Some low) (Some high) = Some (record { left = high; falls = true; right = low })
bounds_of (Some low) None = None
bounds_of None high = None

-- a group as it is declared
abbrev pub declared : Group → OnePort
declared g = record { name = g.text; mode = mode_of g.dir; bounds = bounds_of g.low g.high }

-- of no ports, which no netlist that is written has
abbrev pub no_port : OnePort
no_port = record { name = []; mode = mode.In; bounds = None }

-- an entity or a component of these ports
abbrev pub outline_of : List ℕ → List OnePort → Outline
outline_of name [] = record { name = name; first = no_port; others = [] }
outline_of name (p ∷ ps) = record { name = name; first = p; others = ps }

abbrev pub outline : List ℕ → List Port → Outline
outline name ports = outline_of name (map declared (grouped ports))
