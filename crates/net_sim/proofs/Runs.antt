-- Patterns on a netlist and on its machine.
use Rattle.std.proofs.Common.{◌≡◌, ◌⊎◌, inl, inr, ℕ, ◌+◌, Bool, true, false, List, [], ◌∷◌, ◌++◌, refl, sym, ap, subst, ◌∙◌}
use Rattle.vlsi_base.specs.declared.name.Name.{Name}
use Rattle.vlsi_base.specs.declared.name.Port.{Port}
use Rattle.vlsi_base.specs.declared.name.Dir.TheVariants as dir
use Rattle.machine_core.specs.Named.{value_at}
use Rattle.machine_core.specs.Machine.{Machine, inputs, names_of}
use Rattle.machine_core.specs.Cycles.{Settles}
use Rattle.machine_core.specs.Order.{In}
use Rattle.machine_core.proofs.Values.{In-map}
use Rattle.cell_model.specs.Library.{Library}
use Rattle.cell_model.proofs.Members.{All-In}
use Rattle.net_meaning.specs.Netlist.{AbstractNetlist, port}
use Rattle.net_meaning.specs.Behaviour.{Contents, Valuation, bit_of, net_next}
use Rattle.pat_meaning.specs.declared.patterns.Column.{Column}
use Rattle.pat_meaning.specs.declared.patterns.Pattern.{Pattern}
use Rattle.pat_meaning.specs.declared.patterns.Patterns.{Patterns}
use Rattle.pat_meaning.specs.declared.patterns.Value.{Value}
use Rattle.pat_meaning.specs.Columns.{column_names}
use Rattle.pat_meaning.specs.Circuit.{Circuit, of_machine}
use Rattle.pat_meaning.specs.Simulation.{vector, clock_bit, rises, Takes, Observes, IsObserved, Compared, compared_values, compared, first_difference, filled_values, filled}
use Rattle.pat_meaning.specs.Answers.{IsSupplyColumn, IsOfPorts, AreFor, IsFilledBy, DiffersOn, IsFilled, DiffersAt}
use Rattle.net_machine.specs.Step.{FitsContents, no_contents, ShowAlike, KeepsStep}
use Rattle.net_sim.specs.Circuit.{of_netlist, SimulatesAlike}
use Rattle.net_sim.proofs.Alike.{AgreeOnOutputs, same_compared, same_filled}

-- a netlist as a circuit, with the inputs and the clock of a machine
abbrev as_circuit : AbstractNetlist → Library → Machine → Circuit
as_circuit k l m = of_netlist k l (inputs m) m.clock

-- valuations of the netlist and of the machine, one for one with the same bits at the ports
abbrev Together : AbstractNetlist → Machine → List Valuation → List (List Bool) → Type 0
Together k m [] [] = Unit {0}
Together k m [] (x ∷ xs) = ⊥
Together k m (w ∷ ws) [] = ⊥
Together k m (w ∷ ws) (x ∷ xs) = ShowAlike k m w x × Together k m ws xs

-- ---- from the machine to the netlist

record TakenBy (k : AbstractNetlist) (l : Library) (m : Machine) (step : KeepsStep k l m) (r : Bool) (i : List Bool) (t : Contents) (x s : List Bool) : Type 0 where
  w : Valuation
  after : Contents
  takes : Takes r (as_circuit k l m) i t w after
  fits : FitsContents k l after
  holds : step.held after ≡ s
  same : ShowAlike k m w x

takes_back : (k : AbstractNetlist) (l : Library) (m : Machine) (step : KeepsStep k l m) (r : Bool) (i : List Bool) (t : Contents) (x s : List Bool) → FitsContents k l t
    → Takes r (of_machine m) i (step.held t) x s → TakenBy k l m step r i t x s
takes_back k l m step false i t x s fits h =
    let b = step.back t i x fits h.0 in
    record { w = b.0; after = t; takes = (b.1.net, refl); fits = fits; holds = sym h.1; same = b.1.ports }
takes_back k l m step true i t x s fits h =
    let a = step.back t i h.0 fits h.1 in
    let u : Contents = net_next k l a.0 in
    let e : s ≡ step.held u = h.2 ∙ a.1.loads in
    let b = step.back u i x (step.stays a.0) (subst (λ (c : List Bool). Settles m c i x) e h.3) in
    record { w = b.0; after = u; takes = (a.0, a.1.net, refl, b.1.net); fits = step.stays a.0; holds = sym e; same = b.1.ports }

observes_back : (k : AbstractNetlist) (l : Library) (m : Machine) (step : KeepsStep k l m) (columns : List Column) (patterns : List Pattern) (t : Contents) (before : Bool) (xs : List (List Bool)) → FitsContents k l t
    → Observes (of_machine m) columns (step.held t) before patterns xs → (ws : List Valuation) × Observes (as_circuit k l m) columns t before patterns ws × Together k m ws xs
observes_back k l m step columns [] t before xs fits h = ([], refl, subst (λ (ys : List (List Bool)). Together k m [] ys) (sym h) tt)
observes_back k l m step columns (p ∷ rest) t before xs fits h =
    let now : Bool = clock_bit m.clock columns p.values in
    let a = takes_back k l m step (rises before now) (vector (inputs m) columns p.values) t h.0 h.1 fits h.2 in
    let r = observes_back k l m step columns rest a.after now h.3.0 a.fits (subst (λ (c : List Bool). Observes (of_machine m) columns c now rest h.3.0) (sym a.holds) h.3.2) in
    (a.w ∷ r.0, (a.w, a.after, a.takes, (r.0, refl, r.1)), subst (λ (ys : List (List Bool)). Together k m (a.w ∷ r.0) ys) (sym h.3.1) (a.same, r.2))

-- ---- from the netlist to the machine

record TakenOn (k : AbstractNetlist) (l : Library) (m : Machine) (step : KeepsStep k l m) (r : Bool) (i : List Bool) (t : Contents) (w : Valuation) (after : Contents) : Type 0 where
  x : List Bool
  takes : Takes r (of_machine m) i (step.held t) x (step.held after)
  same : ShowAlike k m w x

takes_forth : (k : AbstractNetlist) (l : Library) (m : Machine) (step : KeepsStep k l m) (r : Bool) (i : List Bool) (t : Contents) (w : Valuation) (u : Contents)
    → Takes r (as_circuit k l m) i t w u → TakenOn k l m step r i t w u
takes_forth k l m step false i t w u h =
    let b = step.forth t i w h.0 in
    record { x = b.0; takes = (b.1.machine, ap step.held h.1); same = b.1.ports }
takes_forth k l m step true i t w u h =
    let a = step.forth t i h.0 h.1 in
    let b = step.forth u i w h.3 in
    record { x = b.0; takes = (a.0, a.1.machine, ap step.held h.2 ∙ sym a.1.loads, b.1.machine); same = b.1.ports }

observes_forth : (k : AbstractNetlist) (l : Library) (m : Machine) (step : KeepsStep k l m) (columns : List Column) (patterns : List Pattern) (t : Contents) (before : Bool) (ws : List Valuation)
    → Observes (as_circuit k l m) columns t before patterns ws → (xs : List (List Bool)) × Observes (of_machine m) columns (step.held t) before patterns xs × Together k m ws xs
observes_forth k l m step columns [] t before ws h = ([], refl, subst (λ (vs : List Valuation). Together k m vs []) (sym h) tt)
observes_forth k l m step columns (p ∷ rest) t before ws h =
    let now : Bool = clock_bit m.clock columns p.values in
    let a = takes_forth k l m step (rises before now) (vector (inputs m) columns p.values) t h.0 h.1 h.2 in
    let r = observes_forth k l m step columns rest h.1 now h.3.0 h.3.2 in
    (a.x ∷ r.0, (a.x, step.held h.1, a.takes, (r.0, refl, r.1)), subst (λ (vs : List Valuation). Together k m vs (a.x ∷ r.0)) (sym h.3.1) (a.same, r.2))

-- ---- what is compared and filled in

outputs_agree : (k : AbstractNetlist) (m : Machine) (p : Patterns) → AreFor m.ports p → (w : Valuation) (x : List Bool) → ShowAlike k m w x
    → AgreeOnOutputs (λ name. bit_of k w.classes (port name)) (value_at m.vars x) p.columns
outputs_agree k m p for w x e c i out name j =
    elim (All-In (λ (c : Column). IsSupplyColumn c ⊎ IsOfPorts m.ports c) p.columns for.columns c i) [
      | inl s ↦ absurd (let no : dir.In ≡ dir.Out = sym s.dir ∙ out in cc)
      | inr q ↦
          let there_is = All-In (λ (n : Name). In (record { name = n; dir = c.dir }) m.ports) (column_names c) q name j in
          let n : In name (names_of m.ports) = In-map (λ (r : Port). r.name) (record { name = name; dir = c.dir }) m.ports there_is in
          e name n
    ]

same_compared_all : (k : AbstractNetlist) (l : Library) (m : Machine) (columns : List Column)
    → ((w : Valuation) (x : List Bool) → ShowAlike k m w x → AgreeOnOutputs (λ name. bit_of k w.classes (port name)) (value_at m.vars x) columns)
    → (n : ℕ) (patterns : List Pattern) (ws : List Valuation) (xs : List (List Bool)) → Together k m ws xs
    → compared (as_circuit k l m) columns n patterns ws ≡ compared (of_machine m) columns n patterns xs
same_compared_all k l m columns agree n [] ws xs t = refl
same_compared_all k l m columns agree n (p ∷ rest) [] [] t = refl
same_compared_all k l m columns agree n (p ∷ rest) [] (x ∷ xs) t = absurd t
same_compared_all k l m columns agree n (p ∷ rest) (w ∷ ws) [] t = absurd t
same_compared_all k l m columns agree n (p ∷ rest) (w ∷ ws) (x ∷ xs) t =
    ap (λ (cs : List Compared). cs ++ compared (as_circuit k l m) columns (n + 1) rest ws) (same_compared (λ name. bit_of k w.classes (port name)) (value_at m.vars x) n columns p.values (agree w x t.0))
    ∙ ap (λ (cs : List Compared). compared_values (value_at m.vars x) n columns p.values ++ cs) (same_compared_all k l m columns agree (n + 1) rest ws xs t.1)

same_filled_all : (k : AbstractNetlist) (l : Library) (m : Machine) (columns : List Column)
    → ((w : Valuation) (x : List Bool) → ShowAlike k m w x → AgreeOnOutputs (λ name. bit_of k w.classes (port name)) (value_at m.vars x) columns)
    → (patterns : List Pattern) (ws : List Valuation) (xs : List (List Bool)) → Together k m ws xs
    → filled (as_circuit k l m) columns patterns ws ≡ filled (of_machine m) columns patterns xs
same_filled_all k l m columns agree [] ws xs t = refl
same_filled_all k l m columns agree (p ∷ rest) [] [] t = refl
same_filled_all k l m columns agree (p ∷ rest) [] (x ∷ xs) t = absurd t
same_filled_all k l m columns agree (p ∷ rest) (w ∷ ws) [] t = absurd t
same_filled_all k l m columns agree (p ∷ rest) (w ∷ ws) (x ∷ xs) t =
    let with_values : List Value → Pattern = λ vs. record p { values = vs } in
    ap (λ vs. with_values vs ∷ filled (as_circuit k l m) columns rest ws) (same_filled (λ name. bit_of k w.classes (port name)) (value_at m.vars x) columns p.values (agree w x t.0))
    ∙ ap (λ ps. with_values (filled_values (value_at m.vars x) columns p.values) ∷ ps) (same_filled_all k l m columns agree rest ws xs t.1)

abbrev patterns_of : Patterns → List Pattern → Patterns
patterns_of p ps = record { columns = p.columns; patterns = ps }

pub simulates_alike : SimulatesAlike
simulates_alike n l table m k p is seen for = (λ out. (filled_back out, filled_forth out), λ number bit. (differs_back number bit, differs_forth number bit)) where
  step : KeepsStep k l m
  step = is.step k seen

  agree : (w : Valuation) (x : List Bool) → ShowAlike k m w x → AgreeOnOutputs (λ name. bit_of k w.classes (port name)) (value_at m.vars x) p.columns
  agree = outputs_agree k m p for

  back : (xs : List (List Bool)) → IsObserved (of_machine m) p.columns p.patterns xs → (ws : List Valuation) × IsObserved (as_circuit k l m) p.columns p.patterns ws × Together k m ws xs
  back xs h =
      observes_back k l m (is.step k seen) p.columns p.patterns (no_contents k l) false xs (is.step k seen).starts
      (subst (λ (c : List Bool). Observes (of_machine m) p.columns c false p.patterns xs) (sym (is.step k seen).start) h)

  forth : (ws : List Valuation) → IsObserved (as_circuit k l m) p.columns p.patterns ws → (xs : List (List Bool)) × IsObserved (of_machine m) p.columns p.patterns xs × Together k m ws xs
  forth ws h =
      let r = observes_forth k l m (is.step k seen) p.columns p.patterns (no_contents k l) false ws h in
      (r.0, subst (λ (c : List Bool). Observes (of_machine m) p.columns c false p.patterns r.0) (is.step k seen).start r.1, r.2)

  compared_is : (ws : List Valuation) (xs : List (List Bool)) → Together k m ws xs → compared (as_circuit k l m) p.columns 0 p.patterns ws ≡ compared (of_machine m) p.columns 0 p.patterns xs
  compared_is ws xs t = same_compared_all k l m p.columns agree 0 p.patterns ws xs t

  filled_is : (ws : List Valuation) (xs : List (List Bool)) → Together k m ws xs → filled (as_circuit k l m) p.columns p.patterns ws ≡ filled (of_machine m) p.columns p.patterns xs
  filled_is ws xs t = same_filled_all k l m p.columns agree p.patterns ws xs t

  filled_back : (out : Patterns) → IsFilled m p out → IsFilledBy (as_circuit k l m) p out
  filled_back out h =
      let r = back h.observed h.are_observed in
      record {
        observed = r.0;
        are_observed = r.1;
        none_differs = ap first_difference (compared_is r.0 h.observed r.2) ∙ h.none_differs;
        answer = h.answer ∙ ap (patterns_of p) (sym (filled_is r.0 h.observed r.2));
      }

  filled_forth : (out : Patterns) → IsFilledBy (as_circuit k l m) p out → IsFilled m p out
  filled_forth out h =
      let r = forth h.observed h.are_observed in
      record {
        observed = r.0;
        are_observed = r.1;
        none_differs = ap first_difference (sym (compared_is h.observed r.0 r.2)) ∙ h.none_differs;
        answer = h.answer ∙ ap (patterns_of p) (filled_is h.observed r.0 r.2);
      }

  differs_back : (number : ℕ) (bit : Name) → DiffersAt m p number bit → DiffersOn (as_circuit k l m) p number bit
  differs_back number bit h =
      let r = back h.observed h.are_observed in
      record {
        observed = r.0;
        are_observed = r.1;
        at = h.at;
        first = ap first_difference (compared_is r.0 h.observed r.2) ∙ h.first;
        pattern = h.pattern;
        name = h.name;
      }

  differs_forth : (number : ℕ) (bit : Name) → DiffersOn (as_circuit k l m) p number bit → DiffersAt m p number bit
  differs_forth number bit h =
      let r = forth h.observed h.are_observed in
      record {
        observed = r.0;
        are_observed = r.1;
        at = h.at;
        first = ap first_difference (sym (compared_is h.observed r.0 r.2)) ∙ h.first;
        pattern = h.pattern;
        name = h.name;
      }
