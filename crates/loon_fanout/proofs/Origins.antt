-- Each class of a limited netlist has a class of the given one as its origin.
use Rattle.std.proofs.Common.{◌≡◌, ◌≢◌, inl, inr, ℕ, suc, ◌-◌, ◌<◌, Bool, true, false, List, [], ◌∷◌, ◌++◌, length, map, Some, refl, sym, ◌∙◌, ap, subst, arith, append_assoc, nat_eq, if◌then◌else◌}
use Rattle.std.proofs.lemmas.List.{map-append}
use Rattle.std.proofs.lemmas.Option.{same_Some}
use Rattle.std.specs.List.{flat_map, list_any}
use Rattle.vlsi_base.specs.declared.name.Name.{Name}
use Rattle.vlsi_base.specs.declared.name.Terminal.{Terminal}
use Rattle.vlsi_base.specs.Names.{vdd, vss}
use Rattle.vlsi_base.specs.Member.{In, here, AllDifferent}
use Rattle.cell_model.specs.Cell.{Cell, cell_inputs, cell_outputs}
use Rattle.cell_model.specs.Library.{Library, cell_of}
use Rattle.cell_model.proofs.Members.{In-split, In-left, In-map_back}
use Rattle.cell_model.proofs.Texts.{text_differs}
use Rattle.net_core.specs.Netlist.{Instance, port}
use Rattle.net_meaning.specs.Netlist.{Member, pin_of}
use Rattle.net_meaning.specs.Well.{Has, buffer_instance}
use Rattle.net_right.specs.View.{member_of}
use Rattle.loon_fanout.specs.Sinks.{Wired, sinks, is_same_owner, is_same_terminal}
use Rattle.loon_fanout.specs.Wired.{pin_class, with_gate, with_row, with_moved, with_group}
use Rattle.loon_wiring.specs.Repeaters.{Repeater}
use Rattle.loon_fanout.specs.Limited.{Row, with_round, IsLimited, within, round}
use Rattle.loon_fanout.specs.Laws.{as_netlist, gate_named}
use Rattle.loon_fanout.proofs.Terminals.{terminal_same}
use Rattle.loon_fanout.proofs.Picking.{any_in, only_one, different_right}
use Rattle.loon_fanout.proofs.Supplies.{eq_itself, eq_not}
use Rattle.loon_fanout.proofs.Sinking.{all_terminals}
use Rattle.loon_fanout.proofs.Following.{pin_below}
use Rattle.loon_fanout.proofs.Splitting.{sink_at}
use Rattle.loon_fanout.proofs.RightStates.{IsGateCell}
use Rattle.loon_fanout.proofs.RightPins.{own_class, input_is, output_is, input_class, output_class}
use Rattle.loon_fanout.proofs.RightMove.{IsSink}
use Rattle.loon_fanout.proofs.RightRounds.{AreNew, Repeats, once, twice, some_of}
use Rattle.loon_fanout.proofs.OneClass.{AreGood, sink_class, gate_follows, row_follows, round_follows, after_row, group_of, rows_sunk, rows_differ}

-- The given terminals in a class are of its origin, and the two classes that an instance named b ties have one origin.
pub record HasOrigins (l : Library) (n w : Wired) : Type 0 where
  pub origin : ℕ → ℕ
  pub below : (t : Terminal) → w.class t < w.count
  pub each : (t : Terminal) → In t (all_terminals n) → origin (w.class t) ≡ n.class t
  pub ties : (i : Member) (c : Cell) (j : ℕ) (input output : Name) → Has (as_netlist w) l i c → i.name ≡ buffer_instance j → In input (cell_inputs c) → In output (cell_outputs c)
      → origin (w.class (pin_of i.name input)) ≡ origin (w.class (pin_of i.name output))
  pub foreign : (t : Terminal) → In t (all_terminals n) → (name : List ℕ) → ((i : Instance) → In i w.instances → i.name ≢ name) → is_same_owner t.instance (Some name) ≡ false

-- ---- a gate: the class that it drives is of the origin of the class that it reads

record GateOrigins (l : Library) (n w : Wired) (h : HasOrigins l n w) (k : ℕ) (u : Wired) : Type 0 where
  origins : HasOrigins l n u
  old : (a : ℕ) → a < w.count → origins.origin a ≡ h.origin a
  new : origins.origin w.count ≡ h.origin k

module _ (l : Library) (n : Wired) (c : Cell) (b : IsGateCell l c) (w : Wired) (h : HasOrigins l n w) (k : ℕ) (low : k < w.count) (name : List ℕ)
    (new_name : (i : Instance) → In i w.instances → i.name ≢ name) where
  abbrev gated : Wired
  gated = with_gate c w k name

  abbrev origin_after : ℕ → ℕ
  origin_after a = if nat_eq a w.count then h.origin k else h.origin a

  old_origin : (a : ℕ) → a < w.count → origin_after a ≡ h.origin a
  old_origin a under = ap (λ (x : Bool). if x then h.origin k else h.origin a) (eq_not a w.count (λ e. absurd (omega (arith, e, under))))

  new_origin : origin_after w.count ≡ h.origin k
  new_origin = ap (λ (x : Bool). if x then h.origin k else h.origin w.count) (eq_itself w.count)

  all_below : (t : Terminal) → gated.class t < gated.count
  all_below t = by (is_same_owner t.instance (Some name)) where
    by : (x : Bool) → (if x then pin_class w c k t.pin else w.class t) < suc w.count
    by true = pin_below w c k t.pin low (h.below (port vdd)) (h.below (port vss))
    by false = let under = h.below t in omega (arith, under)

  pin_old : (owner : List ℕ) (pin : Name) → owner ≢ name → origin_after (gated.class (pin_of owner pin)) ≡ h.origin (w.class (pin_of owner pin))
  pin_old owner pin apart =
      ap (λ (x : Bool). origin_after (if x then pin_class w c k pin else w.class (pin_of owner pin))) (text_differs owner name apart)
      ∙ old_origin (w.class (pin_of owner pin)) (h.below (pin_of owner pin))

  pin_new : (owner : List ℕ) (pin : Name) (d : ℕ) → owner ≡ name → pin_class w c k pin ≡ d → gated.class (pin_of owner pin) ≡ d
  pin_new owner pin d same is = ap (λ (o : List ℕ). gated.class (pin_of o pin)) same ∙ own_class c w name k pin ∙ is

  ties_old : (i : Member) (d : Cell) (j : ℕ) (x y : Name) → In i (map member_of w.instances) → cell_of l i.model ≡ Some d → i.name ≡ buffer_instance j → In x (cell_inputs d)
      → In y (cell_outputs d) → origin_after (gated.class (pin_of i.name x)) ≡ origin_after (gated.class (pin_of i.name y))
  ties_old i d j x y listed found named x_in y_in =
      let m = In-map_back member_of i w.instances listed in
      let apart : i.name ≢ name = λ same. new_name m.0 m.1 (ap (λ (z : Member). z.name) m.2 ∙ same) in
      pin_old i.name x apart ∙ h.ties i d j x y (record { listed = listed; found = found }) named x_in y_in ∙ sym (pin_old i.name y apart)

  ties_new : (i : Member) (d : Cell) (x y : Name) → i ≡ member_of (gate_named c name) → cell_of l i.model ≡ Some d → In x (cell_inputs d) → In y (cell_outputs d)
      → origin_after (gated.class (pin_of i.name x)) ≡ origin_after (gated.class (pin_of i.name y))
  ties_new i d x y is found x_in y_in =
      let known : cell_of l c.name ≡ Some d = subst (λ (m : Member). cell_of l m.model ≡ Some d) is found in
      let cells : c ≡ d = same_Some c d (sym b.found ∙ known) in
      let into = subst (λ (ns : List Name). In x ns) (ap cell_inputs (sym cells) ∙ input_is l c b) x_in in
      let out = subst (λ (ns : List Name). In y ns) (ap cell_outputs (sym cells) ∙ output_is l c b) y_in in
      let named : i.name ≡ name = ap (λ (m : Member). m.name) is in
      let reads = pin_new i.name x k named (ap (pin_class w c k) (only_one x _ into) ∙ input_class l c b w k) in
      let drives = pin_new i.name y w.count named (ap (pin_class w c k) (only_one y _ out) ∙ output_class l c b w k) in
      ap origin_after reads ∙ old_origin k low ∙ sym (ap origin_after drives ∙ new_origin)

  gate_origins : GateOrigins l n w h k gated
  gate_origins = record {
    origins = record {
      origin = origin_after;
      below = all_below;
      each = λ t i.
          ap (λ (x : Bool). origin_after (if x then pin_class w c k t.pin else w.class t)) (h.foreign t i name new_name)
          ∙ old_origin (w.class t) (h.below t) ∙ h.each t i;
      ties = λ i d j x y has named x_in y_in.
          elim (In-split i (map member_of w.instances) (map member_of (gate_named c name ∷ []))
          (subst (λ (all : List Member). In i all) (map-append member_of w.instances (gate_named c name ∷ [])) has.listed)) [
            | inl old ↦ ties_old i d j x y old has.found named x_in y_in
            | inr new ↦ ties_new i d x y (only_one i (member_of (gate_named c name)) new) has.found x_in y_in
          ];
      foreign = λ t i other new_other. h.foreign t i other (λ x g. new_other x (In-left x w.instances (gate_named c name ∷ []) g));
    };
    old = old_origin;
    new = new_origin;
  }

-- ---- a group: it moves to a class of the same origin

module _ (l : Library) (n u : Wired) (h : HasOrigins l n u) (group : List Terminal) (k to : ℕ) (to_is : u.count - 1 ≡ to) (each : (t : Terminal) → In t group → u.class t ≡ k)
    (one : h.origin to ≡ h.origin k) where
  abbrev after : Wired
  after = with_moved group u

  abbrev moved : Terminal → Bool
  moved t = list_any (is_same_terminal t) group

  moved_in : (t : Terminal) → moved t ≡ true → In t group
  moved_in t e = let x = any_in (is_same_terminal t) group e in subst (λ (y : Terminal). In y group) (sym (terminal_same t x.0 x.2)) x.1

  same_origin : (t : Terminal) → h.origin (after.class t) ≡ h.origin (u.class t)
  same_origin t = by (moved t) refl where
    by : (x : Bool) → moved t ≡ x → h.origin (if x then u.count - 1 else u.class t) ≡ h.origin (u.class t)
    by true e = ap h.origin to_is ∙ one ∙ ap h.origin (sym (each t (moved_in t e)))
    by false e = refl

  still_below : (t : Terminal) → after.class t < after.count
  still_below t = by (moved t) where
    by : (x : Bool) → (if x then u.count - 1 else u.class t) < u.count
    by true = let under = h.below t in omega (arith, under)
    by false = h.below t

  moved_origins : HasOrigins l n after
  moved_origins = record {
    origin = h.origin;
    below = still_below;
    each = λ t i. same_origin t ∙ h.each t i;
    ties = λ i c j x y has named x_in y_in.
        same_origin (pin_of i.name x) ∙ h.ties i c j x y (record { listed = has.listed; found = has.found }) named x_in y_in ∙ sym (same_origin (pin_of i.name y));
    foreign = h.foreign;
  }

-- ---- rows

one_less : (x : ℕ) → suc x - 1 ≡ x
one_less x = omega arith

row_low : (c : Cell) (names : List (List ℕ)) (w : Wired) (read k : ℕ) → k < w.count → k < (with_row c w read names).count
row_low c [] w read k low = low
row_low c (name ∷ names) w read k low = row_low c names (with_gate c w read name) w.count k (omega (arith, low))

row_origins : (l : Library) (n : Wired) (c : Cell) (gates : ℕ) → Repeats l c gates → (w : Wired) → HasOrigins l n w → (k : ℕ) → k < w.count → (group : List Terminal)
    → ((t : Terminal) → In t group → IsSink l w t × (w.class t ≡ k)) → (names rest : List (List ℕ)) → length names ≡ gates → AreNew c (names ++ rest) w.instances
    → HasOrigins l n (with_group c w k names group)
row_origins l n c gates (once b gives) w h k low group each [] rest many new = absurd (omega (arith, many))
row_origins l n c gates (once b gives) w h k low group each (x ∷ y ∷ names) rest many new = absurd (omega (arith, many))
row_origins l n c gates (once b gives) w h k low group each (x ∷ []) rest many new =
    let g = gate_origins l n c b w h k low x new.1 in
    let each_u : (t : Terminal) → In t group → (with_gate c w k x).class t ≡ k = λ t i. sink_class l c b w k x new.1 t (each t i).0 ∙ (each t i).1 in
    moved_origins l n (with_gate c w k x) g.origins group k w.count (one_less w.count) each_u (g.new ∙ sym (g.old k low))
row_origins l n c gates (twice b inverts) w h k low group each [] rest many new = absurd (omega (arith, many))
row_origins l n c gates (twice b inverts) w h k low group each (x ∷ []) rest many new = absurd (omega (arith, many))
row_origins l n c gates (twice b inverts) w h k low group each (x ∷ y ∷ z ∷ names) rest many new = absurd (omega (arith, many))
row_origins l n c gates (twice b inverts) w h k low group each (x ∷ y ∷ []) rest many new =
    let u = with_gate c w k x in
    let v = with_gate c u w.count y in
    let g = gate_origins l n c b w h k low x new.1 in
    let low_k : k < u.count = omega (arith, low) in
    let low_new : w.count < u.count = omega arith in
    let f = gate_origins l n c b u g.origins w.count low_new y new.2.1 in
    let first = gate_follows l c b w k x new.1 in
    let each_v : (t : Terminal) → In t group → v.class t ≡ k = λ t i.
    sink_class l c b u w.count y new.2.1 t (first.kept t (each t i).0) ∙ sink_class l c b w k x new.1 t (each t i).0 ∙ (each t i).1 in
    moved_origins l n v f.origins group k u.count (one_less u.count) each_v (f.new ∙ g.new ∙ sym (f.old k low_k ∙ g.old k low))

-- ---- rounds

round_origins : (l : Library) (n : Wired) (c : Cell) (gates : ℕ) → Repeats l c gates → (rows : List Row) (w : Wired) → HasOrigins l n w → (k : ℕ) → k < w.count → AreGood l w.instances
    → ((row : Row) → In row rows → (length row.names ≡ gates) × ((t : Terminal) → In t row.group → IsSink l w t × (w.class t ≡ k)))
    → AllDifferent (flat_map group_of rows) → (later : List (List ℕ)) → AreNew c (flat_map (λ r. r.names) rows ++ later) w.instances
    → HasOrigins l n (with_round c w k rows)
round_origins l n c gates b [] w h k low good each differ later new = h
round_origins l n c gates b (row ∷ rows) w h k low good each differ later new =
    let first = each row here in
    let u = with_group c w k row.names row.group in
    let others = flat_map (λ (x : Row). x.names) rows in
    let r = row_follows l c gates b w k row.group good first.1 row.names others later first.0 new in
    let after = after_row l c gates (others ++ later) row rows w u k r each differ in
    let new_row = subst (λ (ns : List (List ℕ)). AreNew c ns w.instances) (append_assoc row.names others later) new in
    round_origins l n c gates b rows u (row_origins l n c gates b w h k low row.group first.1 row.names (others ++ later) first.0 new_row) k (row_low c row.names w k k low) r.good after
    (different_right row.group (flat_map group_of rows) differ) later r.names

pub limited_origins : (l : Library) (n : Wired) (limit : ℕ) (b : Repeater) → Repeats l b.cell b.gates → (names : List (List ℕ)) (w u : Wired) → IsLimited l limit b names w u
    → AreGood l w.instances → AreNew b.cell names w.instances → HasOrigins l n w → HasOrigins l n u
limited_origins l n limit b repeats names w u (within few) good new h = h
limited_origins l n limit b repeats names w u (round {later = later} class rows large earlier groups many rest) good new h =
    let each = rows_sunk l limit b.gates class w rows groups many in
    let differ = rows_differ l limit class w rows good groups in
    let r = round_follows l b.cell b.gates repeats rows w class good each differ later new in
    let some = some_of limit (sinks l w class) large in
    let low = subst (λ (k : ℕ). k < w.count) (sink_at l w class some.0 some.1).class (h.below some.0) in
    limited_origins l n limit b repeats later (with_round b.cell w class rows) u rest r.good r.names
    (round_origins l n b.cell b.gates repeats rows w h class low good each differ later new)
