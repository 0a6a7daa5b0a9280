-- Mappable cells by tests of their pins and lines, and usable ones.
use Rattle.std.proofs.Common.{All, ap, sym, ◌∙◌}
use Rattle.vlsi_base.specs.declared.name.Port.{Port}
use Rattle.cell_model.specs.declared.cell.Pin.{Pin}
use Rattle.cell_model.specs.Function.{Function, gate, flip_flop, other, opaque}
use Rattle.cell_model.specs.Cell.{Cell}
use Rattle.cell_model.specs.Library.{IsPlain, IsUsable}
use Rattle.cell_model.specs.Usable.{IsPlainForm, IsScalarPin, IsMappable, FitsPins, IsFormed, IsLow}
use Rattle.cell_model.specs.Connectors.{PinsAreConnectors}
use Rattle.cell_model.proofs.Members.{All-In, All-from, In-map, In-map_back}
use Rattle.cell_model.proofs.Low.{lines_low, lines_keep, low_lines}

pub mapped : (c : Cell) → IsPlainForm c.function → All IsScalarPin c.pins → All IsLow c.items → IsMappable c
mapped c form scalars low = record {
  form = form;
  scalars = λ p h. let r = In-map_back (λ (q : Pin). q.port) p c.pins h in ap (λ (q : Port). q.name.bit) (sym r.2) ∙ All-In IsScalarPin c.pins scalars r.0 r.1;
  metal = lines_low 0 c.items (All-In IsLow c.items low);
  blockage = lines_keep c.items (All-In IsLow c.items low);
}

pub mapped_scalars : (c : Cell) → IsMappable c → All IsScalarPin c.pins
mapped_scalars c m = All-from IsScalarPin c.pins (λ p h. m.scalars p.port (In-map (λ (q : Pin). q.port) p c.pins h))

pub mapped_low : (c : Cell) → IsMappable c → All IsLow c.items
mapped_low c m = All-from IsLow c.items (low_lines 0 c.items m.metal m.blockage)

plain_fits : (c : Cell) (f : Function) → IsPlainForm f → FitsPins c f → IsPlain c f
plain_fits c (gate e) form fits = fits
plain_fits c (flip_flop a b) form fits = fits
plain_fits c (other m) form fits = absurd form
plain_fits c opaque form fits = absurd form

plain_form : (c : Cell) (f : Function) → IsPlain c f → IsPlainForm f
plain_form c (gate e) plain = tt
plain_form c (flip_flop a b) plain = tt
plain_form c (other m) plain = absurd plain
plain_form c opaque plain = absurd plain

pub mappable_is_usable : (c : Cell) → IsFormed c → PinsAreConnectors c → IsMappable c → IsUsable c
mappable_is_usable c formed connectors m = record {
  function = plain_fits c c.function m.form formed.function;
  order = formed.order;
  connectors = connectors;
  scalars = m.scalars;
  metal = m.metal;
  blockage = m.blockage;
}

pub usable_is_mappable : (c : Cell) → IsUsable c → IsMappable c
usable_is_mappable c u = record {
  form = plain_form c c.function u.function;
  scalars = u.scalars;
  metal = u.metal;
  blockage = u.blockage;
}
