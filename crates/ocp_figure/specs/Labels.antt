-- Contacts by numbers.
use Rattle.std.specs.Prelude.{ℕ, Option, None, Some}
use Rattle.sym_geom.specs.declared.item.Contact.{Contact}
use Rattle.sym_geom.specs.declared.item.Contact.TheVariants.{Via1, Via2, Via3, Via4, Via5, Other}

-- the metal below a contact between metals
abbrev pub lower_metal : Contact → Option ℕ
lower_metal Via1 = Some 1
lower_metal Via2 = Some 2
lower_metal Via3 = Some 3
lower_metal Via4 = Some 4
lower_metal Via5 = Some 5
lower_metal (Other word) = None
