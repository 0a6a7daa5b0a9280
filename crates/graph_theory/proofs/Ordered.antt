-- The order of the instances of a netlist that maps a graph, and how many there are.
use Rattle.std.proofs.Common.{◌≡◌, ◌⊎◌, inl, inr, ℕ, zero, suc, ◌+◌, ◌<◌, ◌≤◌, Bool, true, false, List, [], ◌∷◌, ◌++◌, length, map, Some, refl, sym, ◌∙◌, ap, subst, arith, length-append, count_by, filter, append-nil, if◌then◌else◌}
use Rattle.std.proofs.lemmas.List.Sums.{length-filter, count_by-le-length}
use Rattle.std.proofs.lemmas.Bool.{cases_lt}
use Rattle.vlsi_base.specs.declared.name.Name.{Name}
use Rattle.machine_core.specs.Machine.{Machine}
use Rattle.vlsi_base.specs.Member.{In, here, there}
use Rattle.cell_model.specs.Cell.{Cell, cell_inputs, cell_outputs}
use Rattle.cell_model.specs.Library.{Library, cell_of}
use Rattle.net_meaning.specs.Netlist.{Member, pin_of}
use Rattle.net_meaning.specs.Agreement.{register_instance}
use Rattle.net_meaning.specs.Well.{gate_instance, buffer_instance, Has}
use Rattle.net_meaning.specs.Buffers.{AreOne, alike, tied, turned, through}
use Rattle.cell_model.specs.Access.{count_to}
use Rattle.net_meaning.specs.Order.{Reads, begins_with_g, IsLean}
use Rattle.net_theory.specs.Sources.{node, IsNumber, Seat, Sourced, source_of}
use Rattle.net_theory.proofs.Basics.{number_of, at_number, number_below, number_once, In-map_back, length-map}
use Rattle.net_theory.proofs.Seats.{only, In-only, pin_source}
use Rattle.graph_theory.specs.Graph.{Node, fixed, inv, nand, Graph, is_logic, is_fixed, held_count, IsSmall}
use Rattle.graph_theory.specs.Maps.{Maps}
use Rattle.graph_theory.proofs.Names.{gate_apart, not_both, no_register_buffers, no_gate_buffers}
use Rattle.graph_theory.proofs.Shown.{In-split}

-- lists with the same elements at the same numbers are one
same_list : {A : Type 0} (xs ys : List A) → length xs ≡ length ys → ((k : ℕ) (x y : A) → IsNumber xs k x → IsNumber ys k y → x ≡ y) → xs ≡ ys
same_list [] [] size each = refl
same_list [] (y ∷ ys) size each = absurd (omega arith)
same_list (x ∷ xs) [] size each = absurd (omega arith)
same_list {A} (x ∷ xs) (y ∷ ys) size each =
    let first : x ≡ y = each 0 x y refl refl in
    let rest : xs ≡ ys = same_list xs ys (omega arith) (λ k a b p q. each (suc k) a b p q) in
    ap (λ (z : A). z ∷ xs) first ∙ ap (λ (zs : List A). y ∷ zs) rest

number-map : {A B : Type 0} (f : A → B) (xs : List A) (k : ℕ) (y : B) → IsNumber (map f xs) k y → (x : A) × IsNumber xs k x × (y ≡ f x)
number-map f [] k y h = absurd h
number-map f (x ∷ xs) zero y h = (x, refl, h)
number-map f (x ∷ xs) (suc k) y h = number-map f xs k y h

number-append : {A : Type 0} (xs ys : List A) (k : ℕ) (x : A) → IsNumber (xs ++ ys) k x → IsNumber xs k x ⊎ ((j : ℕ) × (k ≡ length xs + j) × IsNumber ys j x)
number-append [] ys k x h = inr (k, (omega arith), h)
number-append (y ∷ xs) ys zero x h = inl h
number-append (y ∷ xs) ys (suc k) x h = elim (number-append xs ys k x h) [
  | inl a ↦ inl a
  | inr b ↦ let e = b.1 in inr (b.0, omega (arith, e), b.2)
]

length-count_to : (n : ℕ) → length (count_to n) ≡ n
length-count_to zero = refl
length-count_to (suc n) = let h = length-count_to n in let all = length-append (count_to n) (n ∷ []) in omega (arith, h, all)

number-count_to : (n k x : ℕ) → IsNumber (count_to n) k x → x ≡ k
number-count_to zero k x h = absurd h
number-count_to (suc n) k x h = elim (number-append (count_to n) (n ∷ []) k x h) [
  | inl a ↦ number-count_to n k x a
  | inr b ↦ last b.0 b.1 b.2
] where
  last : (j : ℕ) → k ≡ length (count_to n) + j → IsNumber (n ∷ []) j x → x ≡ k
  last zero e is = let size = length-count_to n in omega (arith, e, is, size)
  last (suc j) e is = absurd is

-- what is so named at each number
named_list : (f : ℕ → List ℕ) (ps : List Seat) → ((k : ℕ) (p : Seat) → IsNumber ps k p → p.member.name ≡ f k)
    → map (λ (i : Member). i.name) (map (λ (p : Seat). p.member) ps) ≡ map f (count_to (length ps))
named_list f ps each =
    let names = map (λ (i : Member). i.name) (map (λ (p : Seat). p.member) ps) in
    let size : length names ≡ length (map f (count_to (length ps))) =
    length-map (λ (i : Member). i.name) (map (λ (p : Seat). p.member) ps) ∙ length-map (λ (p : Seat). p.member) ps ∙ sym (length-map f (count_to (length ps)) ∙ length-count_to (length ps)) in
    same_list names (map f (count_to (length ps))) size (λ k x y a b.
    let i = number-map (λ (i : Member). i.name) (map (λ (p : Seat). p.member) ps) k x a in
    let p = number-map (λ (p : Seat). p.member) ps k i.0 i.1 in
    let c = number-map f (count_to (length ps)) k y b in
    let is_k : c.0 ≡ k = number-count_to (length ps) k c.0 c.1 in
    i.2 ∙ ap (λ (z : Member). z.name) p.2 ∙ each k p.0 p.1 ∙ ap f (sym is_k) ∙ sym c.2)

map-append : {A B : Type 0} (f : A → B) (xs ys : List A) → map f (xs ++ ys) ≡ map f xs ++ map f ys
map-append f [] ys = refl
map-append {B = B} f (x ∷ xs) ys = ap (λ (zs : List B). f x ∷ zs) (map-append f xs ys)

one_if : Bool → ℕ
one_if true = 1
one_if false = 0

count_by-cons : {A : Type 0} (f : A → Bool) (x : A) (xs : List A) → count_by f (x ∷ xs) ≡ one_if (f x) + count_by f xs
unfolding one_if
count_by-cons {A} f x xs = sym (length-filter f (x ∷ xs)) ∙ by (f x) (length-filter f xs) where
  by : (b : Bool) → length (filter f xs) ≡ count_by f xs → length (if b then x ∷ filter f xs else filter f xs) ≡ one_if b + count_by f xs
  by true h = omega (arith, h)
  by false h = omega (arith, h)

pub count_by-append : {A : Type 0} (f : A → Bool) (xs ys : List A) → count_by f (xs ++ ys) ≡ count_by f xs + count_by f ys
count_by-append f [] ys = let none : count_by f [] ≡ 0 = refl in omega (arith, none)
count_by-append f (x ∷ xs) ys =
    let h = count_by-append f xs ys in
    let a = count_by-cons f x (xs ++ ys) in
    let b = count_by-cons f x xs in
    omega (arith, h, a, b)

count_by-none : {A : Type 0} (f : A → Bool) (xs : List A) → ((x : A) → In x xs → f x ≡ false) → count_by f xs ≡ 0
unfolding one_if
count_by-none f [] each = refl
count_by-none f (x ∷ xs) each =
    let h = count_by-none f xs (λ y g. each y (there g)) in
    let a = count_by-cons f x xs in
    let b : one_if (f x) ≡ 0 = ap one_if (each x here) in
    omega (arith, h, a, b)

-- every node is of logic or a constant
one_kind : (x : Node) → one_if (is_logic x) + one_if (is_fixed false x) + one_if (is_fixed true x) ≡ 1
unfolding one_if
one_kind (fixed false) = refl
one_kind (fixed true) = refl
one_kind (inv a) = refl
one_kind (nand a b) = refl

all_nodes : (nodes : List Node) → length nodes ≡ count_by is_logic nodes + count_by (is_fixed false) nodes + count_by (is_fixed true) nodes
all_nodes [] = refl
all_nodes (x ∷ rest) =
    let h = all_nodes rest in
    let a = count_by-cons is_logic x rest in
    let b = count_by-cons (is_fixed false) x rest in
    let c = count_by-cons (is_fixed true) x rest in
    let one = one_kind x in
    omega (arith, h, a, b, c, one)

module _ (n : Sourced) (l : Library) (m : Machine) (g : Graph) (h : Maps n l m g) where
  -- gate number k shows no node before number k
  no_lower : (k : ℕ) (p : Seat) → IsNumber h.gates k p → held_count m + k ≤ p.node
  no_lower zero p is = let place = (h.gate_at 0 p is).beyond in omega (arith, place)
  no_lower (suc k) p is =
      let low = number_below h.gates (suc k) p is in
      let one = at_number h.gates k (omega (arith, low)) in
      let before = no_lower k one.0 one.1 in
      let lower = h.rising k (suc k) one.0 p one.1 is (omega arith) in
      omega (arith, before, lower)

  as_many : length h.gates ≤ length g.nodes
  as_many = by (length h.gates) refl where
    by : (c : ℕ) → length h.gates ≡ c → length h.gates ≤ length g.nodes
    by zero e = omega (arith, e)
    by (suc c) e =
        let one = at_number h.gates c (omega (arith, e)) in
        let low = no_lower c one.0 one.1 in
        let below = (h.gate_at c one.0 one.1).within in
        omega (arith, e, low, below)

  -- no register begins with g
  no_register : (i : Member) → In i (map (λ (p : Seat). p.member) h.registers) → begins_with_g i.name ≡ false
  no_register i listed =
      let p = In-map_back (λ (p : Seat). p.member) i h.registers listed in
      let k = number_of p.0 h.registers p.1 in
      let named : i.name ≡ register_instance k.0 = ap (λ (z : Member). z.name) (sym p.2) ∙ (h.register_at k.0 p.0 k.1).named in
      ap begins_with_g named

  pub mapped_is_lean : IsSmall m g → IsLean n.netlist m
  mapped_is_lean small = record {
    gates =
        let registers = map (λ (p : Seat). p.member) h.registers in
        let gates = map (λ (p : Seat). p.member) h.gates in
        let f : Member → Bool = λ i. begins_with_g i.name in
        let split : count_by f n.netlist.instances ≡ count_by f registers + count_by f gates =
        ap (count_by f) (h.instances ∙ map-append (λ (p : Seat). p.member) h.registers h.gates) ∙ count_by-append f registers gates in
        let none : count_by f registers ≡ 0 = count_by-none f registers no_register in
        let most : count_by f gates ≤ length gates = count_by-le-length f gates in
        let size : length gates ≡ length h.gates = length-map (λ (p : Seat). p.member) h.gates in
        let many = as_many in
        let nodes = all_nodes g.nodes in
        let a = small.logic in
        let b = small.zero in
        let c = small.one in
        omega (arith, split, none, most, size, many, nodes, a, b, c);
  }

  pub names : map (λ (i : Member). i.name) n.netlist.instances
      ≡ map register_instance (count_to (length m.registers)) ++ (map gate_instance (count_to (length h.gates)) ++ map buffer_instance (count_to 0))
  names =
      let text : Member → List ℕ = λ i. i.name in
      let part : Seat → Member = λ p. p.member in
      let first : map text (map part h.registers) ≡ map register_instance (count_to (length m.registers)) =
      named_list register_instance h.registers (λ k p is. (h.register_at k p is).named) ∙ ap (λ (c : ℕ). map register_instance (count_to c)) h.each_register in
      let second : map text (map part h.gates) ≡ map gate_instance (count_to (length h.gates)) = named_list gate_instance h.gates (λ k p is. (h.gate_at k p is).named) in
      ap (map text) (h.instances ∙ map-append part h.registers h.gates) ∙ map-append text (map part h.registers) (map part h.gates)
      ∙ ap (λ (xs : List (List ℕ)). xs ++ map text (map part h.gates)) first
      ∙ ap (λ (ys : List (List ℕ)). map register_instance (count_to (length m.registers)) ++ ys) (second ∙ sym (append-nil (map gate_instance (count_to (length h.gates)))))

  -- the gate of this name
  record GateOf (k : ℕ) (i : Member) (c : Cell) : Type 0 where
    seat : Seat
    is_at : IsNumber h.gates k seat
    member : seat.member ≡ i
    same_cell : (h.gate_at k seat is_at).cell ≡ c

  gate_of : (k : ℕ) (i : Member) (c : Cell) → Has n.netlist l i c → i.name ≡ gate_instance k → GateOf k i c
  gate_of k i c has named =
      let p = In-map_back (λ (p : Seat). p.member) i (h.registers ++ h.gates) (subst (λ (all : List Member). In i all) h.instances has.listed) in
      elim (In-split p.0 h.registers h.gates p.1) [
        | inl x ↦ let q = number_of p.0 h.registers x in absurd (not_both q.0 k (sym (h.register_at q.0 p.0 q.1).named ∙ ap (λ (z : Member). z.name) p.2 ∙ named))
        | inr y ↦ by p.0 p.2 (number_of p.0 h.gates y)
      ] where
        by : (p : Seat) → p.member ≡ i → (q : (j : ℕ) × IsNumber h.gates j p) → GateOf k i c
        by p is q =
            let few = h.few_gates in
            let low = number_below h.gates q.0 p q.1 in
            let same : q.0 ≡ k = gate_apart q.0 k (omega (arith, few, low)) (sym (h.gate_at q.0 p q.1).named ∙ ap (λ (z : Member). z.name) is ∙ named) in
            subst (λ (j : ℕ). GateOf j i c) same (
            let s = h.gate_at q.0 p q.1 in
            let found : cell_of l i.model ≡ Some s.cell = subst (λ (z : Member). cell_of l z.model ≡ Some s.cell) is s.placed.found in
            let named : cell_of l i.model ≡ Some c = has.found in
            let one : s.cell ≡ c = cc (found, named) in
            record { seat = p; is_at = q.1; member = is; same_cell = one })

  not_lower : (j k : ℕ) (p q : Seat) → IsNumber h.gates j p → IsNumber h.gates k q → p.node < q.node → k ≤ j → ⊥
  not_lower j k p q a b lower more = elim (cases_lt k j) [
    | inl x ↦ let up = h.rising k j q p b a x in absurd (omega (arith, lower, up))
    | inr y ↦
        let same : j ≡ k = omega (arith, more, y) in
        let one : p ≡ q = number_once h.gates k p q (subst (λ (c : ℕ). IsNumber h.gates c p) same a) b in
        let nodes = ap (λ (z : Seat). z.node) one in absurd (omega (arith, lower, nodes))
  ]

  -- there are no buffers to take out
  no_buffers : (i : Member) (k : ℕ) → In i n.netlist.instances → i.name ≡ buffer_instance k → ⊥
  no_buffers i k listed named =
      let p = In-map_back (λ (p : Seat). p.member) i (h.registers ++ h.gates) (subst (λ (all : List Member). In i all) h.instances listed) in
      let is : p.0.member.name ≡ buffer_instance k = ap (λ (z : Member). z.name) p.2 ∙ named in
      elim (In-split p.0 h.registers h.gates p.1) [
        | inl x ↦ let q = number_of p.0 h.registers x in no_register_buffers q.0 k (sym (h.register_at q.0 p.0 q.1).named ∙ is)
        | inr y ↦ let q = number_of p.0 h.gates y in no_gate_buffers q.0 k (sym (h.gate_at q.0 p.0 q.1).named ∙ is)
      ]

  are_one : (a b : ℕ) → AreOne n.netlist l a b → a ≡ b
  are_one a b alike = refl
  are_one a b (tied i c j x y has named reads drives) = absurd (no_buffers i j has.listed named)
  are_one a b (turned one) = sym (are_one b a one)
  are_one a b (through {b = d} one two) = are_one a d one ∙ are_one d b two

  pub mapped_after : (k j : ℕ) → Reads n.netlist l k j → j < k
  mapped_after k j reads =
      let reader = gate_of k reads.reader reads.reader_cell reads.has_reader reads.reader_name in
      let read = gate_of j reads.read reads.read_cell reads.has_read reads.read_name in
      let s = h.gate_at k reader.seat reader.is_at in
      let t = h.gate_at j read.seat read.is_at in
      let in_pin : In reads.input (cell_inputs s.cell) = subst (λ (c : Cell). In reads.input (cell_inputs c)) (sym reader.same_cell) reads.is_input in
      let out_pin : In reads.output (cell_outputs t.cell) = subst (λ (c : Cell). In reads.output (cell_outputs c)) (sym read.same_cell) reads.is_output in
      let leaf = pin_source n reader.seat.member.name (cell_inputs s.cell) s.leaves reads.input s.reads in_pin in
      let one = only (λ (q : Name). source_of n (pin_of read.seat.member.name q)) (cell_outputs t.cell) (node read.seat.node) t.placed.shows in
      let is_one : reads.output ≡ one.0 = In-only one.0 reads.output (cell_outputs t.cell) one.1 out_pin in
      let shown : source_of n (pin_of read.seat.member.name reads.output) ≡ node read.seat.node =
      subst (λ (x : Name). source_of n (pin_of read.seat.member.name x) ≡ node read.seat.node) (sym is_one) one.2 in
      let joined : n.netlist.class (pin_of reader.seat.member.name reads.input) ≡ n.netlist.class (pin_of read.seat.member.name reads.output) =
      ap (λ (z : Member). n.netlist.class (pin_of z.name reads.input)) reader.member
      ∙ are_one (n.netlist.class (pin_of reads.reader.name reads.input)) (n.netlist.class (pin_of reads.read.name reads.output)) reads.joined ∙ sym (ap (λ (z : Member). n.netlist.class (pin_of z.name reads.output)) read.member) in
      let same_source : node leaf.0 ≡ node read.seat.node = sym leaf.2 ∙ ap n.source joined ∙ shown in
      let same : leaf.0 ≡ read.seat.node = cc same_source in
      let below = s.cut.earlier leaf.0 leaf.1 in
      let lower : read.seat.node < reader.seat.node = omega (arith, same, below) in
      elim (cases_lt j k) [
        | inl fine ↦ fine
        | inr more ↦ absurd (not_lower j k read.seat reader.seat read.is_at reader.is_at lower more)
      ]
