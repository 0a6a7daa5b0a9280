-- A netlist with buffers and other drives behaves as before.
use Rattle.std.proofs.Common.{◌≡◌, ◌↔◌, inl, inr, ℕ, ◌<◌, Bool, false, List, [], ◌∷◌, ◌++◌, map, Some, refl, sym, ◌∙◌, ap, subst, arith}
use Rattle.vlsi_base.specs.declared.name.Name.{Name}
use Rattle.vlsi_base.specs.declared.name.Port.{Port}
use Rattle.vlsi_base.specs.declared.name.Terminal.{Terminal}
use Rattle.vlsi_base.specs.Names.{vdd, vss}
use Rattle.vlsi_base.specs.Member.{In}
use Rattle.bool_expr.specs.Expression.{bit, val}
use Rattle.cell_model.specs.Cell.{Function, gate, Cell}
use Rattle.cell_model.specs.Library.{Library, cell_of}
use Rattle.cell_model.proofs.Members.{In-split, In-left, In-right, In-map, In-map_back}
use Rattle.cell_checks.specs.Checked.{IsChecked as HasPassed}
use Rattle.cell_pins.proofs.Sound.{member_at as in_from_place}
use Rattle.net_core.specs.Netlist.{Instance, Netlist as InMemory, IsNetlist, port, pin_of, terminals, terminals_of, HasClass}
use Rattle.net_core.specs.Places.{Stands, IsThere}
use Rattle.net_core.proofs.Finishing.{netlist_terminals_once}
use Rattle.net_core.proofs.Rings.{class_below}
use Rattle.net_meaning.specs.Netlist.{AbstractNetlist, IsTerminal}
use Rattle.net_meaning.specs.Behaviour.{Contents, Valuation, NetSettles, net_next}
use Rattle.net_theory.proofs.Basics.{listed, length-listed, bit-listed}
use Rattle.net_right.specs.View.{netlist_by, IsSeenAs}
use Rattle.net_right.proofs.Lists.{in_place}
use Rattle.net_right.proofs.Places.{has_class}
use Rattle.net_right.proofs.Terminals.{IsCelled, terminal_there}
use Rattle.loon_fanout.specs.Sinks.{Wired, wired_of}
use Rattle.loon_fanout.specs.Limited.{IsOfCells, IsBuffered}
use Rattle.loon_fanout.specs.Laws.{gate_named}
use Rattle.loon_fanout.specs.Nets.{BufferedRemains}
use Rattle.loon_fanout.proofs.Terminals.{class_is}
use Rattle.loon_fanout.proofs.RightPins.{input, output, input_is, output_is}
use Rattle.loon_fanout.proofs.RightStates.{IsGateCell}
use Rattle.loon_fanout.proofs.RightStay.{WasLimited, unchanged, by_gates, how, all_instances, ports_same, new_names}
use Rattle.loon_buffer.specs.Drives.{IsChosenFor}
use Rattle.loon_buffer.proofs.Keeping.{drive_itself}
use Rattle.loon_drive.specs.Driven.{most_sinks}
use Rattle.loon_drive.specs.Laws.{AreExchanged, CellsStay}
use Rattle.loon_laws.specs.Meaning.{ShowsSame, BehavesAs}
use Rattle.loon_laws.specs.MeaningLaws.{DrivenBehavesAsBefore, BufferedBehavesAsBefore}
use Rattle.net_bits.proofs.Lists.{more_in, IsMadeOf}
use Rattle.loon_laws.proofs.Behind.{all_terminals, HaveValues, Behind}
use Rattle.loon_laws.proofs.Limiting.{IsReady, returns, limited_behind}
use Rattle.net_bits.proofs.Bits.{Gives, Cycle, AreBits, AreAmong, bits_of, bits_same, bits_shown, valuation_of, settles_by}
use Rattle.loon_laws.proofs.Exchanging.{AreChosen, chosen, terminals_same, bits_to, bits_from}
use Rattle.net_bits.proofs.Numbers.{IsByClass, renumbered, renumbered_bit}
use Rattle.net_bits.proofs.Held.{loaded_by, HoldNothing, next_is, held_same, held_before}
use Rattle.loon_laws.proofs.Held.{held_exchanged}

-- ---- instances behind those of a netlist

-- each of these instances gives what its cell does
abbrev pub GiveAll : Library → (Terminal → Bool) → Contents → List Instance → Type 0
GiveAll l g t is = (i : Instance) (c : Cell) → In i is → cell_of l i.model ≡ Some c → Gives g t i.name c c.function

-- The second has more instances behind those of the first, which hold nothing. The bits of the first one's classes go on to bits by which
-- they give what their cells do; and by such bits the terminals of the first have the same bits in both.
pub record Carries (l : Library) (w u : Wired) (others : List Instance) : Type 0 where
  pub forth : (f : ℕ → Bool) → (g : ℕ → Bool) × ((k : ℕ) → k < w.count → g k ≡ f k) × ((t : Contents) → GiveAll l (λ s. g (u.class s)) t others)
  pub back : (f : ℕ → Bool) (t : Contents) → GiveAll l (λ s. f (u.class s)) t others → (s : Terminal) → In s (all_terminals w) → f (u.class s) ≡ f (w.class s)
  pub nothing : HoldNothing l others

some_same : (a b : Cell) → Some a ≡ Some b → a ≡ b
some_same a b e = cc e

module _ (l : Library) (c : Cell) (b : IsGateCell l c) (w u : Wired) (names : List (List ℕ)) (h : Behind l c b w u names) where
  -- the cell of a gate
  cell_is : (i : Instance) (d : Cell) → In i (map (gate_named c) names) → cell_of l i.model ≡ Some d
      → (name : List ℕ) × In name names × (gate_named c name ≡ i) × (c ≡ d)
  cell_is i d i_in found =
      let x = In-map_back (gate_named c) i names i_in in
      let mine : cell_of l c.name ≡ Some d = subst (λ (y : Instance). cell_of l y.model ≡ Some d) (sym x.2) found in
      (x.0, x.1, x.2, some_same c d (sym b.found ∙ mine))

  module _ (f : ℕ → Bool) (t : Contents) where
    abbrev at : Terminal → Bool
    at s = f (u.class s)

    gives_to : HaveValues l c b f u names → (name : List ℕ) → In name names → Gives at t name c c.function
    gives_to values name name_in = subst (λ (v : Function). Gives at t name c v) (sym b.is_gate) (
        ap (λ (ps : List Name). map (λ p. at (pin_of name p)) ps) (output_is l c b)
        ∙ ap (λ (x : Bool). x ∷ []) (values name name_in)
        ∙ ap (λ (ps : List Name). val b.expr (map (λ p. at (pin_of name p)) ps) ∷ []) (sym (input_is l c b)))

    gives_from : GiveAll l at t (map (gate_named c) names) → HaveValues l c b f u names
    gives_from all name name_in =
        let own : Gives at t name c (gate b.expr) =
        subst (λ (v : Function). Gives at t name c v) b.is_gate (all (gate_named c name) c (In-map (gate_named c) name names name_in) b.found) in
        let lists : at (pin_of name (output l c b)) ∷ [] ≡ val b.expr (at (pin_of name (input l c b)) ∷ []) ∷ [] =
        sym (ap (λ (ps : List Name). map (λ p. at (pin_of name p)) ps) (output_is l c b)) ∙ own
        ∙ ap (λ (ps : List Name). val b.expr (map (λ p. at (pin_of name p)) ps) ∷ []) (input_is l c b) in
        cc lists

  carried : Carries l w u (map (gate_named c) names)
  carried = record {
    forth = λ f.
        let p = h.forth f in (
          p.0,
          p.1,
          λ t i d i_in found.
              let x = cell_is i d i_in found in
              subst (λ (y : Instance). Gives (λ s. p.0 (u.class s)) t y.name d d.function) x.2
              (subst (λ (y : Cell). Gives (λ s. p.0 (u.class s)) t x.0 y y.function) x.3 (gives_to p.0 t p.2 x.0 x.1)),
        );
    back = λ f t all. h.back f (gives_from f t all);
    nothing = λ i d i_in found g owner.
        let x = cell_is i d i_in found in
        subst (λ (y : Cell). loaded_by g owner y.function ≡ []) x.3 (ap (loaded_by g owner) b.is_gate);
  }

-- a netlist that stays as it is
carries_itself : (l : Library) (w : Wired) → Carries l w w []
carries_itself l w = record {
  forth = λ f. (f, λ k low. refl, λ t i c i_in found. elim i_in [ ]);
  back = λ f t all s s_in. refl;
  nothing = λ i c i_in found. elim i_in [ ];
}

-- ---- the whole

-- What is known of a netlist and one with more instances behind its own, whose cells are exchanged for drives.
pub record AreDriven (l : Library) (n k : InMemory) (p q : Terminal → ℕ) (w u : Wired) (others : List Instance) : Type 0 where
  pub carries : Carries l w u others
  pub first_ports : w.ports ≡ n.ports
  pub first_instances : w.instances ≡ n.instances
  pub count : w.count ≡ n.count
  pub ports : k.ports ≡ n.ports
  pub pairs : AreChosen l (n.instances ++ others) k.instances
  pub cells : (i : Instance) → In i n.instances → IsMadeOf l i
  pub cells_after : (i : Instance) → In i k.instances → IsMadeOf l i
  pub class : (t : Terminal) → In t (terminals n) → w.class t ≡ p t
  pub low : (t : Terminal) → In t (terminals n) → p t < n.count
  pub low_after : (t : Terminal) → In t (terminals k) → q t < k.count
  pub classes : (a b : Terminal) → In a (terminals k) → In b (terminals k) → (q a ≡ q b) ↔ (u.class a ≡ u.class b)

module _ (l : Library) (n k : InMemory) (p q : Terminal → ℕ) (w u : Wired) (others : List Instance) (h : AreDriven l n k p q w u others) where
  abbrev before : AbstractNetlist
  before = netlist_by p n

  abbrev after : AbstractNetlist
  after = netlist_by q k

  terminal_wired : (t : Terminal) → In t (terminals n) → In t (all_terminals w)
  terminal_wired t t_in =
      subst (λ (ps : List Port). In t (terminals_of ps w.instances)) (sym h.first_ports)
      (subst (λ (is : List Instance). In t (terminals_of n.ports is)) (sym h.first_instances) t_in)

  -- the terminals with the instances put in are those of the second
  all_same : terminals k ≡ terminals_of n.ports (n.instances ++ others)
  all_same = ap (λ (ps : List Port). terminals_of ps k.instances) h.ports ∙ terminals_same l n.ports (n.instances ++ others) k.instances h.pairs

  terminal_after : (t : Terminal) → In t (terminals n) → In t (terminals k)
  terminal_after t t_in = subst (λ (ts : List Terminal). In t ts) (sym all_same) (more_in n.ports n.instances others t t_in)

  ports_are : map (λ (x : Port). x.name) k.ports ≡ map (λ (x : Port). x.name) n.ports
  ports_are = ap (map (λ (x : Port). x.name)) h.ports

  -- bits of both netlists' terminals by the classes of the second, by which all instances give what their cells do
  pub record AreBoth (w_bits v_bits : List Bool) : Type 0 where
    pub bits : ℕ → Bool
    pub first : (t : Terminal) → In t (terminals n) → bits_of p w_bits t ≡ bits (u.class t)
    pub second : (t : Terminal) → In t (terminals k) → bits_of q v_bits t ≡ bits (u.class t)

  same_bits : (ws vs : List Bool) → AreBoth ws vs → (t : Terminal) → In t (terminals n) → bits_of p ws t ≡ bits_of q vs t
  same_bits ws vs both t t_in = both.first t t_in ∙ sym (both.second t (terminal_after t t_in))

  same_held : (wv vv : Valuation) → AreBoth wv.classes vv.classes → (owner : List ℕ) → net_next before l wv owner ≡ net_next after l vv owner
  same_held wv vv both owner =
      next_is l n p wv owner n.instances h.cells
      ∙ held_same l n.ports n.instances (bits_of p wv.classes) (λ t. both.bits (u.class t)) both.first owner n.instances (λ i i_in. i_in) h.cells
      ∙ sym (held_before l (λ t. both.bits (u.class t)) owner n.instances others h.carries.nothing)
      ∙ sym (held_exchanged l (λ t. both.bits (u.class t)) owner (n.instances ++ others) k.instances h.pairs)
      ∙ sym (held_same l k.ports k.instances (bits_of q vv.classes) (λ t. both.bits (u.class t)) both.second owner k.instances (λ i i_in. i_in) h.cells_after)
      ∙ sym (next_is l k q vv owner k.instances h.cells_after)

  shows : (wv vv : Valuation) → AreBoth wv.classes vv.classes → ((t : Terminal) → IsTerminal before l t → In t (terminals n)) → ShowsSame l before after wv vv
  shows wv vv both there = record {
    bits = λ t t_is. same_bits wv.classes vv.classes both t (there t t_is);
    held = same_held wv vv both;
  }

  module _ (y : Cycle) (among : AreAmong y n.ports) where
    among_after : AreAmong y k.ports
    among_after = subst (λ (ps : List Port). AreAmong y ps) (sym h.ports) among

    -- ---- from the first to the second

    module _ (ws : List Bool) (given : AreBits l y n.ports n.instances (bits_of p ws)) where
      abbrev grown : (g : ℕ → Bool) × ((j : ℕ) → j < w.count → g j ≡ bit ws j) × ((t : Contents) → GiveAll l (λ s. g (u.class s)) t others)
      grown = h.carries.forth (bit ws)

      abbrev bits : ℕ → Bool
      bits = grown.0

      first_forth : (t : Terminal) → In t (terminals n) → bits_of p ws t ≡ bits (u.class t)
      first_forth t t_in =
          let low = h.low t t_in in
          let class = h.class t t_in in
          let count = h.count in
          ap (bit ws) (sym class)
          ∙ sym (grown.1 (w.class t) (omega (arith, low, class, count)))
          ∙ sym (h.carries.back bits y.contents (grown.2 y.contents) t (terminal_wired t t_in))

      with_others : AreBits l y n.ports (n.instances ++ others) (λ t. bits (u.class t))
      with_others =
          let old = bits_same l y n.ports n.instances h.cells among (bits_of p ws) (λ t. bits (u.class t)) first_forth given in
          record {
            high = old.high;
            low = old.low;
            still = old.still;
            inputs = old.inputs;
            each = λ i c i_in found. elim (In-split i n.instances others i_in) [ inl a ↦ old.each i c a found | inr d ↦ grown.2 y.contents i c d found ];
          }

      by_class : IsByClass (terminals k) q (λ t. bits (u.class t))
      by_class a b a_in b_in same = ap bits ((h.classes a b a_in b_in).0 same)

      abbrev vs : List Bool
      vs = listed k.count (renumbered (terminals k) q (λ t. bits (u.class t)))

      second_forth : (t : Terminal) → In t (terminals k) → bits_of q vs t ≡ bits (u.class t)
      second_forth t t_in =
          bit-listed k.count (renumbered (terminals k) q (λ s. bits (u.class s))) (q t) (h.low_after t t_in)
          ∙ renumbered_bit (terminals k) q (λ s. bits (u.class s)) by_class t t_in

      settled_forth : NetSettles after l y.inputs y.clock y.contents y.vector (valuation_of vs)
      settled_forth =
          let old = bits_to l y n.ports (n.instances ++ others) k.instances h.pairs (λ t. bits (u.class t)) with_others in
          let there = subst (λ (ps : List Port). AreBits l y ps k.instances (λ t. bits (u.class t))) (sym h.ports) old in
          settles_by l y k q vs (length-listed k.count (renumbered (terminals k) q (λ s. bits (u.class s)))) h.cells_after
          (bits_same l y k.ports k.instances h.cells_after among_after (λ t. bits (u.class t)) (bits_of q vs) (λ t t_in. sym (second_forth t t_in)) there)

      both_forth : AreBoth ws vs
      both_forth = record { bits = bits; first = first_forth; second = second_forth }

    -- ---- and back

    module _ (vs : List Bool) (given : AreBits l y k.ports k.instances (bits_of q vs)) where
      abbrev bits_back : ℕ → Bool
      bits_back = renumbered (terminals k) u.class (bits_of q vs)

      second_back : (t : Terminal) → In t (terminals k) → bits_of q vs t ≡ bits_back (u.class t)
      second_back t t_in =
          sym (renumbered_bit (terminals k) u.class (bits_of q vs) (λ a b a_in b_in same. ap (bit vs) ((h.classes a b a_in b_in).1 same)) t t_in)

      exchanged_back : AreBits l y n.ports (n.instances ++ others) (λ t. bits_back (u.class t))
      exchanged_back =
          let there = bits_same l y k.ports k.instances h.cells_after among_after (bits_of q vs) (λ t. bits_back (u.class t)) second_back given in
          bits_from l y n.ports (n.instances ++ others) k.instances h.pairs (λ t. bits_back (u.class t))
          (subst (λ (ps : List Port). AreBits l y ps k.instances (λ t. bits_back (u.class t))) h.ports there)

      without_others : AreBits l y n.ports n.instances (λ t. bits_back (u.class t))
      without_others = let all = exchanged_back in record {
        high = all.high;
        low = all.low;
        still = all.still;
        inputs = all.inputs;
        each = λ i c i_in found. all.each i c (In-left i n.instances others i_in) found;
      }

      abbrev ws_back : List Bool
      ws_back = listed n.count bits_back

      first_back : (t : Terminal) → In t (terminals n) → bits_of p ws_back t ≡ bits_back (u.class t)
      first_back t t_in =
          let all = exchanged_back in
          bit-listed n.count bits_back (p t) (h.low t t_in)
          ∙ ap bits_back (sym (h.class t t_in))
          ∙ sym (h.carries.back bits_back y.contents (λ i c i_in found. all.each i c (In-right i n.instances others i_in) found) t (terminal_wired t t_in))

      settled_back : NetSettles before l y.inputs y.clock y.contents y.vector (valuation_of ws_back)
      settled_back =
          settles_by l y n p ws_back (length-listed n.count bits_back) h.cells
          (bits_same l y n.ports n.instances h.cells among (λ t. bits_back (u.class t)) (bits_of p ws_back) (λ t t_in. sym (first_back t t_in)) without_others)

      both_back : AreBoth ws_back vs
      both_back = record { bits = bits_back; first = first_back; second = second_back }

  pub alike : ((t : Terminal) → IsTerminal before l t → In t (terminals n)) → BehavesAs l before after
  alike there = record {
    ports = ports_are;
    forth = λ inputs clock t i wv among settled.
        let y : Cycle = record { inputs = inputs; clock = clock; contents = t; vector = i } in
        let ports : AreAmong y n.ports = record { inputs = among.inputs; clock = among.clock } in
        let given = bits_shown l y n p wv settled in (
          valuation_of (vs y ports wv.classes given),
          settled_forth y ports wv.classes given,
          shows wv (valuation_of (vs y ports wv.classes given)) (both_forth y ports wv.classes given) there,
        );
    back = λ inputs clock t i vv among settled.
        let y : Cycle = record { inputs = inputs; clock = clock; contents = t; vector = i } in
        let ports : AreAmong y n.ports = record { inputs = among.inputs; clock = among.clock } in
        let given = bits_shown l y k q vv settled in (
          valuation_of (ws_back y ports vv.classes given),
          settled_back y ports vv.classes given,
          shows (valuation_of (ws_back y ports vv.classes given)) vv (both_back y ports vv.classes given) there,
        );
  }

-- ---- what is known of the driven netlist

-- a netlist with buffers, in which cells may be exchanged
pub record IsMadeBy (n : InMemory) (l : Library) (limit : ℕ) (k : InMemory) : Type 0 where
  pub buffered : InMemory
  pub sound : IsNetlist buffered
  pub is_buffered : IsBuffered n l limit buffered
  pub exchanged : AreExchanged l buffered k

-- where no cell is exchanged, each stands for itself
unexchanged : (l : Library) (r : InMemory) → IsOfCells r l → AreExchanged l r r
unexchanged l r of_cells = record {
  now = refl;
  many = refl;
  each = λ k i j p q.
      let c = of_cells.found i (k, p) in
      let same : i ≡ j = cc (p, q) in
      subst (λ (x : Instance). IsChosenFor l i x) same
      (record { same = refl; was = c.0; found = c.1; now = c.0; listed = c.1; usable = c.2; drive = drive_itself c.0 c.2 });
}

module _ (n : InMemory) (l : Library) (limit : ℕ) (k : InMemory) (passed : HasPassed false l) (is_n : IsNetlist n) (is_k : IsNetlist k)
    (of_cells : IsOfCells n l)
    (d : IsMadeBy n l limit k) (remains : BufferedRemains) (stay : CellsStay) where
  abbrev r : InMemory
  r = d.buffered

  abbrev wired : Wired
  wired = d.is_buffered.wired

  abbrev gates : List Instance
  gates = map (gate_named d.is_buffered.repeater.cell) d.is_buffered.names

  cells_of : (m : InMemory) → IsOfCells m l → (i : Instance) → In i m.instances → IsMadeOf l i
  cells_of m of i i_in = of.found i (in_place i m.instances i_in)

  cells_k : IsOfCells k l
  cells_k = stay l r k d.exchanged (remains false n l limit r passed is_n d.sound of_cells d.is_buffered).0

  pairs_k : AreChosen l (n.instances ++ gates) k.instances
  pairs_k =
      subst (λ (is : List Instance). AreChosen l is k.instances) (all_instances false n l limit r passed is_n d.sound of_cells d.is_buffered)
      (chosen l r.instances k.instances d.exchanged.many d.exchanged.each)

  ports_k : k.ports ≡ r.ports
  ports_k = ap (λ (m : InMemory). m.ports) d.exchanged.now

  classes_k : k.classes ≡ r.classes
  classes_k = ap (λ (m : InMemory). m.classes) d.exchanged.now

  terminals_k : terminals k ≡ terminals r
  terminals_k = ap (λ (ps : List Port). terminals_of ps k.instances) ports_k
      ∙ terminals_same l r.ports r.instances k.instances (chosen l r.instances k.instances d.exchanged.many d.exchanged.each)

  -- the class of a terminal, of the given netlist and of the driven one
  has : (m : InMemory) → IsNetlist m → (t : Terminal) → In t (terminals m) → (c : ℕ) × HasClass m t c
  has m is t t_in = has_class m is t (in_place t (terminals m) t_in)

  wired_class : (t : Terminal) (t_in : In t (terminals n)) → (wired_of n).class t ≡ (has n is_n t t_in).0
  wired_class t t_in =
      let c = has n is_n t t_in in
      class_is (terminals n) n.classes t c.1.0 c.0 (netlist_terminals_once n is_n) c.1.1 c.1.2

  ready : IsReady l (wired_of n)
  ready = record {
    numbered = λ t t_in. let c = has n is_n t t_in in let same = wired_class t t_in in let low = class_below n is_n t c.0 c.1 in omega (arith, same, low);
    cells = cells_of n of_cells;
    on_vdd = in_from_place (terminals n) of_cells.on_vdd.0 (port vdd) of_cells.on_vdd.1;
    on_vss = in_from_place (terminals n) of_cells.on_vss.0 (port vss) of_cells.on_vss.1;
  }

  carries_by : WasLimited l d.is_buffered.repeater d.is_buffered.names (wired_of n) wired → Carries l (wired_of n) wired gates
  carries_by (unchanged none same) =
      subst (λ (ns : List (List ℕ)). Carries l (wired_of n) wired (map (gate_named d.is_buffered.repeater.cell) ns)) (sym none)
      (subst (λ (w : Wired). Carries l (wired_of n) w []) (sym same) (carries_itself l (wired_of n)))
  carries_by (by_gates repeats) =
      let c = d.is_buffered.repeater.cell in
      let row = returns l c d.is_buffered.repeater.gates repeats in
      carried l c row.gate (wired_of n) wired d.is_buffered.names
      (limited_behind l limit d.is_buffered.repeater row.gate row.gives
      d.is_buffered.names (wired_of n) wired d.is_buffered.limited ready (new_names false n l limit r passed is_n d.sound of_cells d.is_buffered))

  module _ (y x : AbstractNetlist) (seen_y : IsSeenAs n y) (seen_x : IsSeenAs k x) where
    in_buffered : (t : Terminal) → In t (terminals k) → HasClass r t (x.class t)
    in_buffered t t_in =
        let c = has k is_k t t_in in
        let mine : HasClass k t (x.class t) = subst (λ (j : ℕ). HasClass k t j) (sym (seen_x.classes.each t c.0 c.1)) c.1 in
        (mine.0, subst (λ (ts : List Terminal). Stands ts mine.0 t) terminals_k mine.1, subst (λ (cs : List ℕ). Stands cs mine.0 (x.class t)) classes_k mine.2)

    driven : AreDriven l n k y.class x.class (wired_of n) wired gates
    driven = record {
      carries = carries_by (how false n l limit r passed is_n d.sound of_cells d.is_buffered);
      first_ports = refl;
      first_instances = refl;
      count = refl;
      ports = ports_k ∙ ports_same false n l limit r passed is_n d.sound of_cells d.is_buffered;
      pairs = pairs_k;
      cells = cells_of n of_cells;
      cells_after = cells_of k cells_k;
      class = λ t t_in. let c = has n is_n t t_in in wired_class t t_in ∙ sym (seen_y.classes.each t c.0 c.1);
      low = λ t t_in.
          let c = has n is_n t t_in in
          let same = seen_y.classes.each t c.0 c.1 in
          let low = class_below n is_n t c.0 c.1 in omega (arith, same, low);
      low_after = λ t t_in.
          let c = has k is_k t t_in in
          let same = seen_x.classes.each t c.0 c.1 in
          let low = class_below k is_k t c.0 c.1 in omega (arith, same, low);
      classes = λ a b a_in b_in. d.is_buffered.is.classes a b (x.class a) (x.class b) (in_buffered a a_in) (in_buffered b b_in);
    }

    celled : (i : Instance) → IsThere n.instances i → IsCelled l i
    celled i h = let c = of_cells.found i h in record { cell = c.0; found = c.1; connected = c.2.connectors; pins = c.3 }

    there : (t : Terminal) → IsTerminal (netlist_by y.class n) l t → In t (terminals n)
    there t t_is =
        let h = terminal_there n l (netlist_by y.class n) (record { is = refl; classes = record { each = seen_y.classes.each } }) celled t t_is in
        in_from_place (terminals n) h.0 t h.1

    pub driven_alike : BehavesAs l y x
    driven_alike =
        subst (λ (z : AbstractNetlist). BehavesAs l z x) (sym seen_y.is)
        (subst (λ (z : AbstractNetlist). BehavesAs l (netlist_by y.class n) z) (sym seen_x.is)
        (alike l n k y.class x.class (wired_of n) wired gates driven there))

pub behaves : BufferedRemains → CellsStay → DrivenBehavesAsBefore
behaves remains stay n l fanout k delay y x passed is_n is_k of_cells d seen_y seen_x =
    driven_alike n l (most_sinks fanout) k passed is_n is_k of_cells
    (record { buffered = d.buffered; sound = d.sound; is_buffered = d.is_buffered; exchanged = d.exchanged }) remains stay y x seen_y seen_x

pub buffered_behaves : BufferedRemains → CellsStay → BufferedBehavesAsBefore
buffered_behaves remains stay n l limit r y x passed is_n is_r of_cells b seen_y seen_x =
    driven_alike n l limit r passed is_n is_r of_cells
    (record { buffered = r; sound = is_r; is_buffered = b; exchanged = unexchanged l r (remains false n l limit r passed is_n is_r of_cells b).0 })
    remains stay y x seen_y seen_x
