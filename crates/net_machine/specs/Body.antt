-- What a cell does, over bits of its own: those of the pins that it reads, then those that it holds, then its inner ones.
use Rattle.std.specs.Prelude.{ℕ, ◌+◌, true, List, [], ◌∷◌, map, length, Option, None, Some}
use Rattle.vlsi_base.specs.declared.name.Name.{Name}
use Rattle.bool_expr.specs.Expression.{Expression, constant, variable}
use Rattle.bool_expr.specs.View.{view}
use Rattle.machine_core.specs.Machine.{Machine, inputs, outputs}
use Rattle.source_checks.specs.Formula.{place}
use Rattle.cell_model.specs.Cell.{Function, gate, flip_flop, other, opaque, Cell, cell_inputs, cell_outputs}
use Rattle.net_machine.specs.declared.body.Load.{Load as LoadParts}
use Rattle.net_machine.specs.declared.body.Value.{Value}
use Rattle.net_machine.specs.declared.body.Value.TheVariants.{Of, Bit}
use Rattle.net_machine.specs.declared.body.Shown.{Shown as ShownParts}
use Rattle.net_machine.specs.declared.body.Body.{Body as BodyParts}
use Rattle.bool_expr.specs.declared.expr.Expr.{Expr}

-- what a bit that is held takes at the clock's rise, and when
pub record Load : Type 0 where
  pub next : Expression
  pub enable : Expression

-- what an output pin has the value of
pub record Shown : Type 0 where
  pub pin : Name
  pub expr : Expression

pub record Body : Type 0 where
  pub reads : List Name
  pub loads : List Load
  -- each reads only bits before it
  pub inner : List Expression
  pub shows : List Shown

abbrev pub no_body : Body
no_body = record { reads = []; loads = []; inner = []; shows = [] }

-- what gates, plain flip-flops and other machines do

abbrev pub gate_body : Cell → Expression → Body
gate_body c e = record { reads = cell_inputs c; loads = []; inner = []; shows = map (λ o. record { pin = o; expr = e }) (cell_outputs c) }

abbrev pub flip_flop_body : Cell → Name → Body
flip_flop_body c data_pin = record {
  reads = data_pin ∷ [];
  loads = record { next = variable 0; enable = constant true } ∷ [];
  inner = [];
  shows = map (λ o. record { pin = o; expr = variable 1 }) (cell_outputs c);
}

abbrev pub machine_body : Machine → Body
machine_body m = record {
  reads = inputs m;
  loads = map (λ r. record { next = r.next; enable = r.enable }) m.registers;
  inner = map (λ e. e.expr) m.equations;
  shows = map (λ o. record { pin = o; expr = variable (place m.vars o) }) (outputs m);
}

abbrev pub body_of : Cell → Function → Body
body_of c (gate e) = gate_body c e
body_of c (flip_flop data_pin clock_pin) = flip_flop_body c data_pin
body_of c (other m) = machine_body m
body_of c opaque = no_body

abbrev pub body_at : Option Cell → Body
body_at None = no_body
body_at (Some c) = body_of c c.function

-- how many bits of its own it holds or has within
abbrev pub width : Body → ℕ
width b = length b.loads + length b.inner

-- a body in memory

abbrev pub load_view : LoadParts → Load
load_view l = record { next = view l.next; enable = view l.enable }

abbrev pub value_view : Value → Expression
value_view (Of e) = view e
value_view (Bit k) = variable k

abbrev pub shown_view : ShownParts → Shown
shown_view s = record { pin = s.pin; expr = value_view s.value }

abbrev pub inner_view : List Expr → List Expression
inner_view es = map view es

abbrev pub body_view : BodyParts → Body
body_view b = record { reads = b.reads.items; loads = map load_view b.loads.items; inner = inner_view b.inner.items; shows = map shown_view b.shows.items }
