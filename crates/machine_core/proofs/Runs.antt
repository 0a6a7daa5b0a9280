-- Machines that are alike have the same runs.
use Rattle.std.proofs.Common.{◌≡◌, Bool, not, List, [], ◌∷◌, length, map, filter, refl, sym, ap, ◌∙◌, subst, if◌then◌else◌}
use Rattle.std.proofs.lemmas.List.{length-map}
use Rattle.std.proofs.lemmas.List.Elements.{All-head, All-tail}
use Rattle.vlsi_base.specs.declared.name.Name.{Name}
use Rattle.bool_expr.specs.Expression.{val}
use Rattle.machine_core.specs.Named.{value_at}
use Rattle.machine_core.specs.Machine.{Machine, Register, is_input, is_clock, names_of, inputs, outputs, register_names}
use Rattle.machine_core.specs.Runs.{Trace}
use Rattle.machine_core.specs.Cycles.{Settles, outs, next, AreVectors}
use Rattle.machine_core.specs.Order.{IsOrdered}
use Rattle.machine_core.proofs.Known.{known}
use Rattle.machine_core.proofs.Solve.{settles_once_known}
use Rattle.machine_core.specs.Alike.{IsAlike, AlikeRun, AlikeBothWays, AlikeItself}

pub inputs_same : (m o : Machine) → IsAlike m o → inputs o ≡ inputs m
inputs_same m o a = λ j. filter (λ (name : Name). not (is_clock (a.clock j) name)) (names_of (filter (λ p. is_input p.dir) (a.ports j)))

pub outputs_same : (m o : Machine) → IsAlike m o → outputs o ≡ outputs m
outputs_same m o a = λ j. names_of (filter (λ p. not (is_input p.dir)) (a.ports j))

pub registers_same : (m o : Machine) → IsAlike m o → length o.registers ≡ length m.registers
registers_same m o a =
    sym (length-map o.registers (λ (r : Register). r.name)) ∙ ap length a.registers ∙ length-map m.registers (λ (r : Register). r.name)

length-next : (m : Machine) (w : List Bool) → length (next m w) ≡ length m.registers
length-next m w = length-map m.registers (λ (r : Register). if val r.enable w then val r.next w else value_at m.vars w r.name)

module _ (m o : Machine) (oo : IsOrdered o) (a : IsAlike m o) where
  -- a valuation of the one for each of the other, cycle by cycle
  goes : (v : List (List Bool)) (s : List Bool) (ws : List (List Bool)) → length s ≡ length m.registers → AreVectors m v
      → Trace (Settles m) (next m) s v ws → (us : List (List Bool)) × Trace (Settles o) (next o) s v us × (map (outs o) us ≡ map (outs m) ws)
  goes [] s ws ls lv t = ([], refl, ap (map (outs m)) (sym t))
  goes (i ∷ v) s ws ls lv t =
      let w = t.0 in
      let rest = t.2.0 in
      let li : length i ≡ length (inputs o) = All-head (λ (x : List Bool). length x ≡ length (inputs m)) i v lv ∙ ap length (sym (inputs_same m o a)) in
      let found = settles_once_known o s i (known o oo) (ls ∙ sym (registers_same m o a)) li in
      let u = found.0 in
      let shows : outs o u ≡ outs m w = a.shows s i w u t.1 found.1 in
      let loads : next o u ≡ next m w = a.loads s i w u t.1 found.1 in
      let more = goes v (next m w) rest (length-next m w) (All-tail (λ (x : List Bool). length x ≡ length (inputs m)) i v lv) t.2.2 in
      let trace : Trace (Settles o) (next o) (next o u) v more.0 = subst (λ (c : List Bool). Trace (Settles o) (next o) c v more.0) (sym loads) more.1 in
      let both : outs o u ∷ map (outs o) more.0 ≡ outs m w ∷ map (outs m) rest =
      ap (λ (y : List Bool). y ∷ map (outs o) more.0) shows ∙ ap (λ (ys : List (List Bool)). outs m w ∷ ys) more.2 in (
        u ∷ more.0,
        (u, found.1, (more.0, refl, trace)),
        both ∙ ap (map (outs m)) (sym t.2.1),
      )

pub alike_run : AlikeRun
alike_run m o s v y om oo a ls lv run =
    let g = goes m o oo a v s run.0 ls lv run.1 in
    (g.0, g.1, run.2 ∙ sym g.2)

pub both_ways : AlikeBothWays
both_ways m o a = record {
  name = sym a.name;
  ports = sym a.ports;
  clock = sym a.clock;
  registers = sym a.registers;
  shows = λ s i w v p q. sym (a.shows s i v w q p);
  loads = λ s i w v p q. sym (a.loads s i v w q p);
}

-- an ordered machine has one valuation, whose length its registers and inputs fix
pub itself : AlikeItself
itself m om = record {
  name = refl;
  ports = refl;
  clock = refl;
  registers = refl;
  shows = λ s i w v p q. ap (outs m) (same s i w v p q);
  loads = λ s i w v p q. ap (next m) (same s i w v p q);
}
  where
    -- what settles has as many bits of registers and inputs as there are
    counts : (s i w : List Bool) → Settles m s i w → (length s ≡ length m.registers) × (length i ≡ length (inputs m))
    counts s i w p = (
      ap length (sym p.registers) ∙ length-map (register_names m) (value_at m.vars w) ∙ length-map m.registers (λ (r : Register). r.name),
      ap length (sym p.inputs) ∙ length-map (inputs m) (value_at m.vars w),
    )

    same : (s i w v : List Bool) → Settles m s i w → Settles m s i v → v ≡ w
    same s i w v p q =
        let c = counts s i w p in
        let once = settles_once_known m s i (known m om) c.0 c.1 in
        once.2 v q ∙ sym (once.2 w p)
