-- A layout that is right for one machine of a text is right for each other one.
use Rattle.std.proofs.Common.{◌≡◌, ℕ, ◌+◌, ◌-◌, ◌*◌, ◌≤◌, List, [], ◌∷◌, ◌++◌, length, map, Some, codes, refl, ◌∙◌, ap, subst}
use Rattle.std.specs.Prelude.{count_by, min, sum}
use Rattle.std.specs.List.{AllZip}
use Prim.Native.Nat.{suc}
use Rattle.vlsi_base.specs.declared.name.Name.{Name}
use Rattle.vlsi_base.specs.Names.{scalar}
use Rattle.machine_core.specs.Machine.{Machine, Register}
use Rattle.machine_core.specs.Size.{machine_size}
use Rattle.machine_core.specs.Order.{IsOrdered}
use Rattle.machine_core.specs.Alike.{IsAlike, AlikeRun, AlikeBothWays}
use Rattle.machine_roots.specs.Roots.{roots, IsDag, IsGreatestDcount}
use Rattle.boom_opt.specs.Optimised.{inner_size}
use Rattle.ap_io.specs.Spelling.{together, line_end}
use Rattle.cell_model.specs.Library.{Library}
use Rattle.net_meaning.specs.Order.{begins_with_g}
use Rattle.ocp_rows.specs.Placement.{net_count}
use Rattle.ocp_rows.specs.Length.{half_perimeter}
use Rattle.loon_drive.specs.Driven.{most_sinks}
use Rattle.flow_run.specs.Origin.{equations}
use Rattle.tool_drive.specs.Lines.{count_line}
use Rattle.flow_run.specs.Report.{source_line, register_line, register_lines}
use Rattle.flow_run.specs.Route.{Route}
use Rattle.flow_run.specs.RightLayout.{IsRightLayout}
use Rattle.flow_run.proofs.Alike.{well_alike, agrees_alike, route_alike, inputs_alike, driven_alike}

-- the lines of registers go by their names
lines_by : (k : ℕ) (rs qs : List Register) → map (λ (r : Register). r.name) rs ≡ map (λ (r : Register). r.name) qs → register_lines k rs ≡ register_lines k qs
lines_by k [] [] same = refl
lines_by k [] (q ∷ qs) same = absurd cc
lines_by k (r ∷ rs) [] same = absurd cc
lines_by k (r ∷ rs) (q ∷ qs) same =
    let first : r.name ≡ q.name = cc same in
    let rest : map (λ (x : Register). x.name) rs ≡ map (λ (x : Register). x.name) qs = cc same in
    ap (λ (name : Name). register_line k name ++ register_lines (suc k) rs) first
    ∙ ap (λ (text : List ℕ). register_line k q.name ++ text) (lines_by (suc k) rs qs rest)

-- the report, by what differs between machines
abbrev report_with : ℕ → ℕ → ℕ → ℕ → ℕ → List ℕ → List ℕ → ℕ → List ℕ
report_with nodes cells nets delay long name lines size = together (
    source_line name
    ∷ lines
    ∷ count_line (codes "size") size
    ∷ count_line (codes "nodes") nodes
    ∷ count_line (codes "cells") cells
    ∷ count_line (codes "nets") nets
    ∷ count_line (codes "delay") delay
    ∷ count_line (codes "length") long
    ∷ count_line (codes "breaches") 0
    ∷ (codes "accepted" ++ line_end) ∷ [])

module _ (l : Library) (k m : Machine) (a : IsAlike k m) (size : machine_size m ≡ machine_size k) (inner : inner_size m ≡ inner_size k)
    (dags : (each : List ℕ) → AllZip (IsDag m) (roots m) each → AllZip (IsDag k) (roots k) each)
    (counted : (nodes : ℕ) → IsGreatestDcount m nodes → IsGreatestDcount k nodes) where
  -- what is right for one machine is right for another of the same text
  pub right_same : AlikeRun → AlikeBothWays → IsOrdered k → IsOrdered m → (bytes : List ℕ) (fanout : ℕ) (route : Route) (report : List ℕ)
      → IsRightLayout bytes equations m l fanout route report → IsRightLayout bytes equations k l fanout route report
  right_same runs both ordered other bytes fanout route report r =
      let n = r.netlist in
      let lean = r.lean in
      let gates : ℕ = count_by (λ i. begins_with_g i.name) n.instances in
      let by = report_with r.nodes (length n.instances) (net_count n) r.delay (half_perimeter n l r.placement) in
      record {
        figure = r.figure;
        netlist = n;
        placement = r.placement;
        file = r.file;
        named = r.named ∙ ap (λ (name : List ℕ). Some (scalar name)) a.name;
        extracts = r.extracts;
        well = well_alike n l k m a r.well;
        agrees = agrees_alike n l k m a runs both ordered other r.agrees;
        by_states = tt;
        lawful = r.lawful;
        is_placed = r.is_placed;
        many_buffers = r.many_buffers;
        in_order = route_alike n l k m a route r.figure r.placement r.many_buffers r.in_order;
        lean = record {
          dags = lean.dags;
          each = dags lean.dags lean.each;
          gates = subst (λ (s : ℕ). gates ≤ s - inner_size k + min (inner_size k) (4 * sum lean.dags) + 2) size
              (subst (λ (i : ℕ). gates ≤ machine_size m - i + min i (4 * sum lean.dags) + 2) inner lean.gates);
          inputs = inputs_alike n l k m a (most_sinks fanout) lean.inputs;
          buffers = lean.buffers;
        };
        tight = r.tight;
        delay = r.delay;
        driven = driven_alike n l k m a r.delay r.driven;
        nodes = r.nodes;
        counted = counted r.nodes r.counted;
        reported = r.reported
            ∙ ap (λ (name : List ℕ). by name (register_lines 0 m.registers) (machine_size m)) a.name
            ∙ ap (λ (lines : List ℕ). by k.name lines (machine_size m)) (lines_by 0 m.registers k.registers a.registers)
            ∙ ap (λ (s : ℕ). by k.name (register_lines 0 k.registers) s) size;
      }
