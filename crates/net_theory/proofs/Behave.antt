-- A netlist that shows nodes which mean a machine behaves as the machine does.
use Rattle.std.proofs.Common.{◌≡◌, inr, ℕ, ◌+◌, ◌<◌, Bool, true, false, List, [], ◌∷◌, length, map, Some, refl, sym, ◌∙◌, ap, subst, arith, if◌then◌else◌}
use Rattle.std.proofs.lemmas.List.Elements.{recursion_from_All}
use Rattle.bool_expr.specs.Expression.{bit, val}
use Rattle.machine_core.specs.Named.{is_same_text, value_at}
use Rattle.machine_core.specs.Machine.{Machine, inputs, outputs}
use Rattle.machine_core.specs.Cycles.{Settles, outs, next, AreVectors}
use Rattle.machine_core.specs.Checked.{IsChecked}
use Rattle.machine_core.proofs.Known.{known}
use Rattle.machine_core.proofs.Solve.{settles_once_known}
use Rattle.vlsi_base.specs.Member.{In, here, there}
use Rattle.cell_model.specs.Cell.{Function, gate, flip_flop, other, opaque, Cell}
use Rattle.cell_model.specs.Library.{Library, IsUsable, IsPlain}
use Rattle.net_meaning.specs.Netlist.{Member, port, pin_of, IsTerminal, a_port}
use Rattle.net_meaning.specs.Behaviour.{Contents, Valuation, bit_of, NetSettles, NetTrace, model_of, cell_at, loaded, next_held, net_next, net_outs}
use Rattle.net_meaning.specs.Agreement.{register_instance, IsMatched, Agrees}
use Rattle.net_meaning.specs.Well.{Has}
use Rattle.cell_model.proofs.Texts.{text_same, text_itself}
use Rattle.net_meaning.proofs.Runs.{StepsOnce, run_once, Matches, run_matched}
use Rattle.net_meaning.proofs.Plain.{ArePlain, next_same}
use Rattle.net_theory.specs.Sources.{Values, Seat, Roots, Sourced, Plays, Shows}
use Rattle.net_theory.specs.Meaning.{Means}
use Rattle.net_theory.proofs.Basics.{length-map, number_below, number_in, map_is, is_listed, In-names}
use Rattle.net_theory.proofs.Seats.{sits, seat_has, input_terminal}
use Rattle.net_theory.proofs.Well.{at_place}
use Rattle.net_theory.proofs.Settle.{bit_from, held_bits, valuation, whole, bit_at, settles, alone}

abbrev IsFound : List Seat → Seat → Type 0
IsFound seats p = model_of (map (λ s. s.member) seats) p.member.name ≡ Some p.member.model

found_in : (q p : Seat) (seats : List Seat) → In p (q ∷ seats) → (In p seats → IsFound seats p) → is_same_text q.member.name p.member.name ≡ false → IsFound seats p
found_in q p seats here rest e = absurd (let t : is_same_text q.member.name q.member.name ≡ true = text_itself q.member.name in cc (t, e))
found_in q p seats (there h) rest e = rest h

-- the model of a name is that of its one seat
model_found : (seats : List Seat) (p : Seat) → In p seats → ((q : Seat) → In q seats → q.member.name ≡ p.member.name → q ≡ p)
    → IsFound seats p
model_found [] p listed one = elim listed [ ]
model_found (q ∷ seats) p listed one = by (is_same_text q.member.name p.member.name) refl (found_in q p seats listed (λ g. model_found seats p g (λ x y. one x (there y)))) where
  by : (b : Bool) → is_same_text q.member.name p.member.name ≡ b → (is_same_text q.member.name p.member.name ≡ false → IsFound seats p)
      → (if b then Some q.member.model else model_of (map (λ s. s.member) seats) p.member.name) ≡ Some p.member.model
  by true e later_one = ap (λ (s : Seat). Some s.member.model) (one q here (text_same q.member.name p.member.name e))
  by false e later_one = later_one e

module _ (n : Sourced) (l : Library) (m : Machine) (f : Values) (r : Roots) (checked : IsChecked m) (h : Shows n l m f r) (means : Means m f r) where
  plain : ArePlain l n.netlist.instances
  plain i c listed found = (sits n l m f r h i c listed found).usable.function

  step : (t : Contents) (i : List Bool) → Unit {0} → length i ≡ length (inputs m)
      → StepsOnce (NetSettles n.netlist l (inputs m) m.clock) (λ (w : Valuation). w.classes) (net_next n.netlist l) (λ (s : Contents). Unit {0}) t i
  step t i good counts = record {
    w = whole n l m f r checked h means t i counts;
    settled = settles n l m f r checked h means t i counts;
    alone = λ w settled. alone n l m f r checked h means t i counts w settled;
    follows = λ w settled.
        next_same n.netlist l plain w (whole n l m f r checked h means t i counts) (alone n l m f r checked h means t i counts w settled);
    goes_on = tt;
  }

  once : (t : Contents) (v : List (List Bool)) → AreVectors m v
      → (ws : List (List Bool)) × NetTrace n.netlist l m t v ws × ((others : List (List Bool)) → NetTrace n.netlist l m t v others → others ≡ ws)
  once t v vectors = run_once (NetSettles n.netlist l (inputs m) m.clock) (λ (w : Valuation). w.classes) (net_next n.netlist l) (λ (s : Contents). Unit {0}) (λ i. length i ≡ length (inputs m)) step t v tt
      (recursion_from_All (λ (i : List Bool). length i ≡ length (inputs m)) v vectors)

  abbrev Related : List Bool → Contents → Type 0
  Related s t = (length s ≡ length m.registers) × IsMatched s t

  -- what a register loads
  loads_bit : (t : Contents) (i : List Bool) (counts : length i ≡ length (inputs m)) (w : Valuation) → w.classes ≡ valuation n l m f r checked h means t i counts
      → (p : Seat) (c : Cell) (u : Function) → Has n.netlist l p.member c → IsUsable c → IsPlain c u → Plays n m f r p c u → (k : ℕ) → k < length m.registers → p.node ≡ length (inputs m) + k
      → loaded n.netlist w p.member.name u ≡ f i (held_bits m t) (r.load k) ∷ []
  loads_bit t i counts w is p c (gate e) has usable plain plays k within place = let b = plays.beyond in absurd (omega (arith, b, within, place))
  loads_bit t i counts w is p c (flip_flop d q) has usable plain plays k within place =
      let put = plays.place in
      let same : plays.number ≡ k = omega (arith, put, place) in
      ap (λ (b : Bool). b ∷ []) (ap (λ (x : List Bool). bit_of n.netlist x (pin_of p.member.name d)) is
      ∙ bit_at n l m f r checked h means t i counts (pin_of p.member.name d) (input_terminal n.netlist l p.member c d has usable plain.2)
      ∙ ap (bit_from (f i (held_bits m t))) plays.loads ∙ ap (λ (j : ℕ). f i (held_bits m t) (r.load j)) same)
  loads_bit t i counts w is p c (other machine) has usable plain plays k within place = absurd plays
  loads_bit t i counts w is p c opaque has usable plain plays k within place = absurd plays

  matched_next : (t : Contents) (i : List Bool) (counts : length i ≡ length (inputs m)) (w : Valuation) → w.classes ≡ valuation n l m f r checked h means t i counts
      → (u : List Bool) → Settles m (held_bits m t) i u → (k : ℕ) → k < length m.registers → net_next n.netlist l w (register_instance k) ≡ bit (next m u) k ∷ []
  matched_next t i counts w is u settled k within =
      let p = h.all_registers k within in
      let s = h.seated p.0 p.1 in
      let has = seat_has n l m f r h p.0 p.1 in
      let named : p.0.member.name ≡ register_instance k = (at_place n l m f r checked h p.0 s.cell s.cell.function s.plays k within p.2).1 in
      let model : model_of n.netlist.instances p.0.member.name ≡ Some p.0.member.model =
      subst (λ (all : List Member). model_of all p.0.member.name ≡ Some p.0.member.model) (sym h.instances) (model_found h.seats p.0 p.1 (λ q g same. h.one_name q p.0 g p.1 same)) in
      let found : cell_at l (model_of n.netlist.instances p.0.member.name) ≡ Some s.cell = ap (cell_at l) model ∙ s.found in
      ap (net_next n.netlist l w) (sym named)
      ∙ ap (next_held n.netlist w p.0.member.name) found
      ∙ loads_bit t i counts w is p.0 s.cell s.cell.function has s.usable s.usable.function s.plays k within p.2
      ∙ ap (λ (b : Bool). b ∷ []) (means.loaded i (held_bits m t) u settled k within)

  same_outs : (t : Contents) (i : List Bool) (counts : length i ≡ length (inputs m)) (w : Valuation) → w.classes ≡ valuation n l m f r checked h means t i counts
      → (u : List Bool) → Settles m (held_bits m t) i u → net_outs n.netlist (outputs m) w.classes ≡ outs m u
  same_outs t i counts w is u settled =
      map_is (λ name. bit_of n.netlist w.classes (port name)) (outputs m) (outs m u) (length-map (value_at m.vars u) (outputs m)) (λ k name number.
      let out_port : IsTerminal n.netlist l (port name) = a_port ((h.ports name).1 (inr (inr (In-names _ m.ports name (number_in (outputs m) k name number))))) in
      ap (λ (x : List Bool). bit_of n.netlist x (port name)) is
      ∙ bit_at n l m f r checked h means t i counts (port name) out_port
      ∙ ap (bit_from (f i (held_bits m t))) (h.out_ports k name number)
      ∙ means.shown i (held_bits m t) u settled k (number_below (outputs m) k name number))

  matches : (s : List Bool) (t : Contents) (i : List Bool) (w : Valuation) → Related s t → NetSettles n.netlist l (inputs m) m.clock t i w
      → Matches (λ (x : Valuation). x.classes) (net_outs n.netlist (outputs m)) (net_next n.netlist l) (Settles m) (outs m) (next m) Related s i w
  matches s t i w related settled =
      let counts : length i ≡ length (inputs m) = ap length (sym settled.inputs) ∙ length-map (λ name. bit_of n.netlist w.classes (port name)) (inputs m) in
      let size = related.0 in
      let s_is : s ≡ held_bits m t = is_listed (length m.registers) (λ k. bit (t (register_instance k)) 0) s size
      (λ k within. sym (ap (λ (x : List Bool). bit x 0) (related.1.bits k (omega (arith, within, size))))) in
      let u = settles_once_known m s i (known m checked.ordered) size counts in
      let settled_u : Settles m (held_bits m t) i u.0 = subst (λ (x : List Bool). Settles m x i u.0) s_is u.1 in
      let w_is = alone n l m f r checked h means t i counts w settled in
      let all : length (next m u.0) ≡ length m.registers = length-map (λ q. if val q.enable u.0 then val q.next u.0 else value_at m.vars u.0 q.name) m.registers in
      record {
        u = u.0;
        settled = u.1;
        same = same_outs t i counts w w_is u.0 settled_u;
        goes_on = (all, record { bits = λ k within. matched_next t i counts w w_is u.0 settled_u k (omega (arith, within, all)) });
      }

  pub agrees : Agrees n.netlist l m
  agrees = record {
    once = once;
    same = λ s t v ws size matched vectors trace.
        run_matched (NetSettles n.netlist l (inputs m) m.clock) (λ (w : Valuation). w.classes) (net_outs n.netlist (outputs m)) (net_next n.netlist l) (Settles m) (outs m) (next m) Related matches s t v ws (size, matched) trace;
  }
