-- Port bits by names.
use Rattle.std.specs.Prelude.{List, Option, None, Some, if◌then◌else◌}
use Rattle.vlsi_base.specs.declared.name.Name.{Name}
use Rattle.vlsi_base.specs.declared.name.Port.{Port}
use Rattle.vlsi_base.specs.declared.name.Dir.TheVariants as dir
use Rattle.source_checks.specs.declared.symbol_table.Role.{Role}
use Rattle.source_checks.specs.declared.symbol_table.Role.TheVariants as role
use Rattle.source_checks.specs.declared.symbol_table.Symbol.{Symbol}
use Rattle.vlsi_base.specs.Name.{is_supply}
use Rattle.source_checks.specs.Symbols.{find}
use Rattle.source_checks.specs.Elaboration.{port_of}

abbrev pub port_of_role : Role → Name → Option Port
port_of_role role.Input n = Some (port_of dir.In n)
port_of_role role.Output n = Some (port_of dir.Out n)
port_of_role role.Both n = None
port_of_role role.Inner n = None
port_of_role role.Register n = None

abbrev pub port_of_found : Option Symbol → Name → Option Port
port_of_found None n = None
port_of_found (Some s) n = if is_supply s.text then None else port_of_role s.role n

-- the port bit of a declared bit, if it is one
abbrev pub port_named : List Symbol → Name → Option Port
port_named known n = port_of_found (find known n.text) n
