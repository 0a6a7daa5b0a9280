-- A machine with new inner signals before the equations of a given one passes its checks.
use Rattle.std.proofs.Common.{◌≡◌, ◌⊎◌, inl, inr, ℕ, zero, suc, ◌+◌, ◌<◌, ◌≤◌, Bool, true, false, List, [], ◌∷◌, ◌++◌, length, map, Option, None, Some, refl, sym, ap, subst, ◌∙◌, arith, length-append, if◌then◌else◌}
use Rattle.std.specs.Prelude.{codes, filter}
use Rattle.std.specs.List.{All}
use Rattle.std.specs.Fmt.{decimal}
use Rattle.std.proofs.lemmas.List.{length-map}
use Rattle.vlsi_base.specs.declared.name.Name.{Name}
use Rattle.vlsi_base.specs.declared.name.Port.{Port}
use Rattle.vlsi_base.specs.Range.{rising}
use Rattle.vlsi_base.specs.Member.{In, here, there, AllDifferent}
use Rattle.machine_core.specs.Machine.{Machine, Equation, Register, names_of, input_ports, inputs, outputs, register_names, is_input}
use Rattle.machine_core.specs.Order.{held_names, equation_names, EachReadsBelow, IsOrdered}
use Rattle.machine_core.specs.Checked.{IsNoSupply, IsClockOf, IsChecked, AreInOrder}
use Rattle.machine_core.proofs.Values.{In-split, In-left, In-right}
use Rattle.machine_walk.specs.Expansion.{held_count}
use Rattle.boom_muxes.specs.Names.{new_names}
use Rattle.boom_muxes.specs.Anew.{IsAnew}
use Rattle.boom_muxes.proofs.Numbered.{length-rising}

-- ---- the names

abbrev new_name : List ℕ → ℕ → Name
new_name text k = record { text = text; bit = Some k }

pub length-new_names : (text : List ℕ) (n : ℕ) → length (new_names text n) ≡ n
length-new_names text n = length-map (rising 0 n) (λ (k : ℕ). record { text = text; bit = Some k }) ∙ length-rising 0 n

-- what stands in a mapped list is that of one of the elements
map_from : (f : ℕ → Name) (ks : List ℕ) (name : Name) → In name (map f ks) → (k : ℕ) × In k ks × (name ≡ f k)
map_from f [] name i = elim i [ ]
map_from f (k ∷ ks) name here = (k, here, refl)
map_from f (k ∷ ks) name (there h) = let r = map_from f ks name h in (r.0, there r.1, r.2)

rising_from : (k n j : ℕ) → In j (rising k n) → k ≤ j
rising_from k zero j i = elim i [ ]
rising_from k (suc n) j here = omega arith
rising_from k (suc n) j (there h) = let a = rising_from (k + 1) n j h in omega (arith, a)

-- a new name has the new text
pub has_text : (text : List ℕ) (n : ℕ) (name : Name) → In name (new_names text n) → name.text ≡ text
has_text text n name i = ap (λ (x : Name). x.text) (map_from (λ (j : ℕ). record { text = text; bit = Some j }) (rising 0 n) name i).2

new_different : (text : List ℕ) (k n : ℕ) → AllDifferent {A = Name} (map (λ (j : ℕ). record { text = text; bit = Some j }) (rising k n))
new_different text k zero = tt
new_different text k (suc n) = (
  λ i. apart (map_from (new_name text) (rising (k + 1) n) (new_name text k) i),
  new_different text (k + 1) n,
) where
  bit_of : Name → Option ℕ
  bit_of x = x.bit

  apart : ((j : ℕ) × In j (rising (k + 1) n) × (new_name text k ≡ new_name text j)) → ⊥
  apart r =
      let more = rising_from (k + 1) n r.0 r.1 in
      let bits : Some k ≡ Some r.0 = ap bit_of r.2 in
      let same : k ≡ r.0 = cc bits in
      omega (arith, more, same)

pub different_append : (xs ys : List Name) → AllDifferent xs → AllDifferent ys → ((x : Name) → In x xs → In x ys → ⊥) → AllDifferent (xs ++ ys)
different_append [] ys a b apart = b
different_append (x ∷ xs) ys a b apart = (
  λ i. either (In-split x xs ys i),
  different_append xs ys a.1 b (λ z p q. apart z (there p) q),
) where
  either : In x xs ⊎ In x ys → ⊥
  either (inl p) = a.0 p
  either (inr q) = apart x here q

pub different_left : (xs ys : List Name) → AllDifferent (xs ++ ys) → AllDifferent xs
different_left [] ys d = tt
different_left (x ∷ xs) ys d = (λ i. d.0 (In-left x xs ys i), different_left xs ys d.1)

pub different_right : (xs ys : List Name) → AllDifferent (xs ++ ys) → AllDifferent ys
different_right [] ys d = d
different_right (x ∷ xs) ys d = different_right xs ys d.1

pub different_apart : (xs ys : List Name) → AllDifferent (xs ++ ys) → (x : Name) → In x xs → In x ys → ⊥
different_apart (z ∷ xs) ys d x here q = d.0 (In-right x xs ys q)
different_apart (z ∷ xs) ys d x (there p) q = different_apart xs ys d.1 x p q
different_apart [] ys d x p q = elim p [ ]

-- new names among others
pub different_between : (front back : List Name) (text : List ℕ) (n : ℕ) → AllDifferent (front ++ back) → ((name : Name) → In name (front ++ back) → name.text ≡ text → ⊥)
    → AllDifferent (front ++ (new_names text n ++ back))
different_between front back text n d fresh =
    different_append front (new_names text n ++ back) (different_left front back d)
    (different_append (new_names text n) back (new_different text 0 n) (different_right front back d)
    (λ x p q. fresh x (In-right x front back q) (has_text text n x p)))
    (λ x p q. either x p (In-split x (new_names text n) back q))
  where
    either : (x : Name) → In x front → In x (new_names text n) ⊎ In x back → ⊥
    either x p (inl q) = fresh x (In-left x front back p) (has_text text n x q)
    either x p (inr q) = different_apart front back d x p q

-- ---- the machine

no_supply : (text : List ℕ) (k : ℕ) (word : List ℕ) → text ≡ codes "n" ++ decimal k → (codes "n" ++ decimal k ≡ word → ⊥) → text ≡ word → ⊥
no_supply text k word is apart e = apart (sym is ∙ e)

abbrev first_letter : List ℕ → ℕ
first_letter [] = 0
first_letter (c ∷ cs) = c

not_vdd : (ds : List ℕ) → codes "n" ++ ds ≡ codes "vdd" → ⊥
not_vdd ds e = let first : 110 ≡ 118 = ap first_letter e in omega (arith, first)

not_vss : (ds : List ℕ) → codes "n" ++ ds ≡ codes "vss" → ⊥
not_vss ds e = let first : 110 ≡ 118 = ap first_letter e in omega (arith, first)

names_each : (P : Name → Type 0) (xs : List Name) → All P xs → (x : Name) → In x xs → P x
names_each P (y ∷ xs) all x here = all 0 y (omega arith)
names_each P (y ∷ xs) all x (there h) = names_each P xs (λ k d q. all (suc k) d (omega arith)) x h
names_each P [] all x h = elim h [ ]

names_all : (P : Name → Type 0) (xs : List Name) → ((x : Name) → In x xs → P x) → All P xs
names_all P [] each k d h = absurd (omega arith)
names_all P (x ∷ xs) each zero d h = each x here
names_all P (x ∷ xs) each (suc k) d h = names_all P xs (λ y i. each y (there i)) k d (omega arith)

-- an input port is a port
port_in : (ps : List Port) (name : Name) → In name (names_of (filter (λ (p : Port). is_input p.dir) ps)) → In name (names_of ps)
port_in [] name i = i
port_in (p ∷ ps) name i = by (is_input p.dir) i (λ h. port_in ps name h) where
  by : (t : Bool) → In name (names_of (if t then p ∷ filter (λ (q : Port). is_input q.dir) ps else filter (λ (q : Port). is_input q.dir) ps))
      → (In name (names_of (filter (λ (q : Port). is_input q.dir) ps)) → In name (names_of ps)) → In name (p.name ∷ names_of ps)
  by true h rest = either (In-split name (p.name ∷ []) (names_of (filter (λ (q : Port). is_input q.dir) ps)) h) where
    either : In name (p.name ∷ []) ⊎ In name (names_of (filter (λ (q : Port). is_input q.dir) ps)) → In name (p.name ∷ names_of ps)
    either (inl h) = In-left name (p.name ∷ []) (names_of ps) h
    either (inr h) = there (rest h)
  by false h rest = there (rest h)

-- registers without names are none
none_named : (rs : List Register) → map (λ (r : Register). r.name) rs ≡ [] → rs ≡ []
none_named [] e = refl
none_named (r ∷ rs) e = absurd (cc e)

module _ (m : Machine) (checked : IsChecked m) (o : Machine) (a : IsAnew m o) where
  ports_in : (name : Name) → In name (names_of m.ports) → In name (names_of m.ports ++ m.vars)
  ports_in name i = In-left name (names_of m.ports) m.vars i

  vars_in : (name : Name) → In name (held_names m ++ equation_names m) → In name (names_of m.ports ++ m.vars)
  vars_in name i = In-right name (names_of m.ports) m.vars (subst (λ (l : List Name). In name l) (sym checked.ordered.vars) i)

  same_names : names_of o.ports ≡ names_of m.ports
  same_names = ap names_of a.ports

  pub same_inputs : inputs o ≡ inputs m
  same_inputs = λ j. inputs (record { name = m.name; ports = a.ports j; clock = a.clock j; vars = m.vars; equations = m.equations; registers = m.registers })

  pub same_outputs : outputs o ≡ outputs m
  same_outputs = λ j. outputs (record { name = m.name; ports = a.ports j; clock = m.clock; vars = m.vars; equations = m.equations; registers = m.registers })

  pub same_input_ports : input_ports o ≡ input_ports m
  same_input_ports = λ j. input_ports (record { name = m.name; ports = a.ports j; clock = m.clock; vars = m.vars; equations = m.equations; registers = m.registers })

  same_held : held_names o ≡ held_names m
  same_held = λ j. same_inputs j ++ a.registers j

  -- the names are those of inputs and registers, of new signals, and of equations
  pub anew_long : length o.vars ≡ length m.vars + a.count
  anew_long =
      let n = ap length a.vars in
      let x = length-append (held_names m) (new_names a.text a.count ++ equation_names m) in
      let y = length-append (new_names a.text a.count) (equation_names m) in
      let z = length-new_names a.text a.count in
      let t = ap length checked.ordered.vars ∙ length-append (held_names m) (equation_names m) in
      omega (arith, n, x, y, z, t)

  -- each name of the machine is one of the given one, or a new one
  cases : (P : Name → Type 0) → ((name : Name) → In name (held_names m ++ equation_names m) → P name) → ((name : Name) → In name (new_names a.text a.count) → P name)
      → (name : Name) → In name o.vars → P name
  cases P old new name i = first (In-split name (held_names m) (new_names a.text a.count ++ equation_names m) (subst (λ (l : List Name). In name l) a.vars i)) where
    second : In name (new_names a.text a.count) ⊎ In name (equation_names m) → P name
    second (inl p) = new name p
    second (inr q) = old name (In-right name (held_names m) (equation_names m) q)

    first : In name (held_names m) ⊎ In name (new_names a.text a.count ++ equation_names m) → P name
    first (inl p) = old name (In-left name (held_names m) (equation_names m) p)
    first (inr q) = second (In-split name (new_names a.text a.count) (equation_names m) q)

  new_supply : (name : Name) → In name (new_names a.text a.count) → IsNoSupply name
  new_supply name i =
      let t : name.text ≡ codes "n" ++ decimal a.fresh.number = has_text a.text a.count name i ∙ a.fresh.is in (
        no_supply name.text a.fresh.number (codes "vdd") t (not_vdd (decimal a.fresh.number)),
        no_supply name.text a.fresh.number (codes "vss") t (not_vss (decimal a.fresh.number)),
      )

  supplied : (name : Name) → In name (names_of o.ports ++ o.vars) → IsNoSupply name
  supplied name i = either (In-split name (names_of o.ports) o.vars i) where
    given : (n : Name) → In n (names_of m.ports ++ m.vars) → IsNoSupply n
    given = names_each IsNoSupply (names_of m.ports ++ m.vars) checked.supplies

    either : In name (names_of o.ports) ⊎ In name o.vars → IsNoSupply name
    either (inl p) = given name (ports_in name (subst (λ (l : List Name). In name l) same_names p))
    either (inr q) = cases IsNoSupply (λ n h. given n (vars_in n h)) new_supply name q

  clock_of : (name : Name) → o.clock ≡ Some name → IsClockOf o name
  clock_of name is =
      let c = checked.clock name (sym a.clock ∙ is) in
      record {
        port = subst (λ (l : List Name). In name l) (sym same_input_ports) c.port;
        apart = λ i. cases (λ n. n ≡ name → ⊥)
            (λ n h e. c.apart (subst (λ (l : List Name). In name l) (sym checked.ordered.vars) (subst (λ (x : Name). In x (held_names m ++ equation_names m)) e h)))
            (λ n h e. a.fresh.fresh n (subst (λ (x : Name). In x (names_of m.ports ++ m.vars)) (sym e) (ports_in name (port_in m.ports name c.port))) (has_text a.text a.count n h))
            name i refl;
      }

  pub anew_ordered : IsOrdered o
  anew_ordered = record {
    vars = a.vars ∙ (λ j. sym same_held j ++ sym a.equations j);
    different = subst AllDifferent (sym a.vars)
        (different_between (held_names m) (equation_names m) a.text a.count (subst AllDifferent checked.ordered.vars checked.ordered.different)
        (λ name i. a.fresh.fresh name (vars_in name i)));
    below = subst (λ (names : List Name). EachReadsBelow (length names) o.equations) (sym same_held) a.reads;
  }

  pub anew_checked : IsChecked o
  anew_checked = record {
    ports = subst AreInOrder (sym same_names) checked.ports;
    registers = subst AreInOrder (sym a.registers) checked.registers;
    supplies = names_all IsNoSupply (names_of o.ports ++ o.vars) supplied;
    driven = λ name i. subst (λ (l : List Name). In name l) (sym a.equations)
        (In-right name (new_names a.text a.count) (equation_names m) (checked.driven name (subst (λ (l : List Name). In name l) same_outputs i)));
    clock = clock_of;
    clocked = λ none. none_named o.registers (a.registers ∙ ap (map (λ (r : Register). r.name)) (checked.clocked (sym a.clock ∙ none)));
    ordered = anew_ordered;
    loads = a.loads;
  }
