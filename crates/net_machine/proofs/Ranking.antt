-- The classes of a netlist without rings have ranks.
use Rattle.std.proofs.Common.{◌≡◌, inl, inr, ℕ, zero, suc, ◌+◌, ◌-◌, ◌<◌, Bool, true, false, cond, not, ◌&&◌, List, [], ◌∷◌, length, nat_eq, Option, None, Some, refl, sym, ap, ◌∙◌, subst, arith}
use Rattle.std.specs.Prelude.{slice_get}
use Rattle.std.specs.List.{flat_map}
use Rattle.std.proofs.lemmas.Bool.{eqb-true, eq-eqb}
use Rattle.vlsi_base.specs.declared.name.Dir.{Dir}
use Rattle.vlsi_base.specs.declared.name.Dir.TheVariants as dir
use Rattle.vlsi_base.specs.declared.name.Terminal.{Terminal}
use Rattle.vlsi_base.specs.Member.{In, here, AllDifferent}
use Rattle.machine_core.specs.Machine.{is_input}
use Rattle.vlsi_model.proofs.Members.{In-cases}
use Rattle.net_core.specs.declared.pins.ModelPin.{ModelPin}
use Rattle.net_core.specs.Places.{Stands}
use Rattle.net_core.specs.Netlist.{Instance, port, pin_of, HasClass}
use Rattle.net_core.specs.Checks.{pins_named, port_role, pin_role, IsPinOf, DependsOn}
use Rattle.net_core.proofs.Finishing.{class_once}
use Rattle.net_core.proofs.Rings.{class_below}
use Rattle.net_machine.proofs.Drivers.{there_In, In_there, In-flat, In-flat_back, a_port, a_pin}
use Rattle.net_machine.proofs.Scenes.{Scene, has_class, class_low, once, input_driver, output_driver}
use Rattle.net_machine.proofs.Depths.{depth, depth_low, depth_falls, Leads, last, Loop}
use Rattle.net_machine.proofs.Falling.{is_fed, fed, ClassRanks}

-- ---- on which classes a class depends

abbrev pin_class : Scene → Instance → Option ModelPin → List ℕ
pin_class s i None = []
pin_class s i (Some q) =
    cond (is_input q.dir && not (is_fed s.class s.n.ports (s.class (pin_of i.name q.name)))) (s.class (pin_of i.name q.name) ∷ []) []

abbrev output_deps : Scene → ℕ → Instance → ModelPin → List ℕ
output_deps s c i q =
    cond (not (is_input q.dir) && nat_eq (s.class (pin_of i.name q.name)) c) (flat_map (λ k. pin_class s i (slice_get (pins_named s.table i.model) k)) q.depends_on) []

abbrev instance_deps : Scene → ℕ → Instance → List ℕ
instance_deps s c i = flat_map (output_deps s c i) (pins_named s.table i.model)

abbrev deps : Scene → ℕ → List ℕ
deps s c = flat_map (instance_deps s c) s.n.instances

-- an output pin in one class depends at once on an input pin in the other, which has no input port
record Edge (s : Scene) (c d : ℕ) : Type 0 where
  owner : Instance
  listed : In owner s.n.instances
  output : ModelPin
  known : In output (pins_named s.table owner.model)
  gives : output.dir ≡ dir.Out
  at : s.class (pin_of owner.name output.name) ≡ c
  place : ℕ
  depends : In place output.depends_on
  input : ModelPin
  stands : Stands (pins_named s.table owner.model) place input
  takes : input.dir ≡ dir.In
  reads : s.class (pin_of owner.name input.name) ≡ d
  free : is_fed s.class s.n.ports d ≡ false

both : (a b : Bool) → (a && b) ≡ true → (a ≡ true) × (b ≡ true)
both true true e = (refl, refl)
both true false e = absurd cc
both false b e = absurd cc

not_true : (b : Bool) → not b ≡ true → b ≡ false
not_true true e = absurd cc
not_true false e = refl

in_dir : (d : Dir) → is_input d ≡ true → d ≡ dir.In
in_dir dir.In e = refl
in_dir dir.Out e = absurd cc

out_dir : (d : Dir) → is_input d ≡ false → d ≡ dir.Out
out_dir dir.In e = absurd cc
out_dir dir.Out e = refl

if_in : (b : Bool) (xs : List ℕ) (d : ℕ) → In d (cond b xs []) → (b ≡ true) × In d xs
if_in true xs d i = (refl, i)
if_in false xs d i = absurd (elim i [ ])

one_in : (x d : ℕ) → In d (x ∷ []) → x ≡ d
one_in x d i = elim (In-cases d x [] i) [ inl e ↦ e | inr j ↦ absurd (elim j [ ]) ]

-- the input pin of such a class
record InputPin (s : Scene) (i : Instance) (o : Option ModelPin) (d : ℕ) : Type 0 where
  pin : ModelPin
  is : o ≡ Some pin
  takes : pin.dir ≡ dir.In
  reads : s.class (pin_of i.name pin.name) ≡ d
  free : is_fed s.class s.n.ports d ≡ false

input_of : (s : Scene) (i : Instance) (o : Option ModelPin) (d : ℕ) → In d (pin_class s i o) → InputPin s i o d
input_of s i None d j = absurd (elim j [ ])
input_of s i (Some q) d j =
    let t = if_in (is_input q.dir && not (is_fed s.class s.n.ports (s.class (pin_of i.name q.name)))) (s.class (pin_of i.name q.name) ∷ []) d j in
    let b = both (is_input q.dir) (not (is_fed s.class s.n.ports (s.class (pin_of i.name q.name)))) t.0 in
    let e = one_in (s.class (pin_of i.name q.name)) d t.1 in
    record {
      pin = q;
      is = refl;
      takes = in_dir q.dir b.0;
      reads = e;
      free = subst (λ x. is_fed s.class s.n.ports x ≡ false) e (not_true (is_fed s.class s.n.ports (s.class (pin_of i.name q.name))) b.1);
    }

edge_of : (s : Scene) (c d : ℕ) → In d (deps s c) → Edge s c d
edge_of s c d j =
    let i = In-flat_back (instance_deps s c) s.n.instances d j in
    let q = In-flat_back (output_deps s c i.0) (pins_named s.table i.0.model) d i.2 in
    let t = if_in (not (is_input q.0.dir) && nat_eq (s.class (pin_of i.0.name q.0.name)) c) (flat_map (λ k. pin_class s i.0 (slice_get (pins_named s.table i.0.model) k)) q.0.depends_on) d q.2 in
    let b = both (not (is_input q.0.dir)) (nat_eq (s.class (pin_of i.0.name q.0.name)) c) t.0 in
    let k = In-flat_back (λ k. pin_class s i.0 (slice_get (pins_named s.table i.0.model) k)) q.0.depends_on d t.1 in
    let p = input_of s i.0 (slice_get (pins_named s.table i.0.model) k.0) d k.2 in
    record {
      owner = i.0;
      listed = i.1;
      output = q.0;
      known = q.1;
      gives = out_dir q.0.dir (not_true (is_input q.0.dir) b.0);
      at = eqb-true (s.class (pin_of i.0.name q.0.name)) c b.1;
      place = k.0;
      depends = k.1;
      input = p.pin;
      stands = p.is;
      takes = p.takes;
      reads = p.reads;
      free = p.free;
    }

edge_in : (s : Scene) (c d : ℕ) (e : Edge s c d) → In d (deps s c)
edge_in s c d e =
    In-flat (instance_deps s c) s.n.instances e.owner d e.listed
    (In-flat (output_deps s c e.owner) (pins_named s.table e.owner.model) e.output d e.known
    (subst (λ t. In d (cond t (flat_map (λ k. pin_class s e.owner (slice_get (pins_named s.table e.owner.model) k)) e.output.depends_on) [])) (sym outputs)
    (In-flat (λ k. pin_class s e.owner (slice_get (pins_named s.table e.owner.model) k)) e.output.depends_on e.place d e.depends
    (subst (λ (o : Option ModelPin). In d (pin_class s e.owner o)) (sym e.stands)
    (subst (λ t. In d (cond t (s.class (pin_of e.owner.name e.input.name) ∷ []) [])) (sym inputs) (subst (λ x. In d (x ∷ [])) (sym e.reads) here)))))) where
      out_test : is_input e.output.dir ≡ false
      out_test = ap is_input e.gives

      in_test : is_input e.input.dir ≡ true
      in_test = ap is_input e.takes

      outputs : (not (is_input e.output.dir) && nat_eq (s.class (pin_of e.owner.name e.output.name)) c) ≡ true
      outputs = ap (λ b. not b && nat_eq (s.class (pin_of e.owner.name e.output.name)) c) out_test ∙ eq-eqb (s.class (pin_of e.owner.name e.output.name)) c e.at

      free : is_fed s.class s.n.ports (s.class (pin_of e.owner.name e.input.name)) ≡ false
      free = subst (λ x. is_fed s.class s.n.ports x ≡ false) (sym e.reads) e.free

      inputs : (is_input e.input.dir && not (is_fed s.class s.n.ports (s.class (pin_of e.owner.name e.input.name)))) ≡ true
      inputs = ap (λ b. b && not (is_fed s.class s.n.ports (s.class (pin_of e.owner.name e.input.name)))) in_test ∙ ap not free

-- an output pin in a class
record OutOf (s : Scene) (t : Terminal) (c : ℕ) : Type 0 where
  owner : Instance
  pin : ModelPin
  is_pin : IsPinOf s.table s.n owner pin t
  gives : pin.dir ≡ dir.Out
  joined : HasClass s.n t c

out_class : (s : Scene) (c d : ℕ) (e : Edge s c d) → OutOf s (pin_of e.owner.name e.output.name) c
out_class s c d e = record {
  owner = e.owner;
  pin = e.output;
  is_pin = record { listed = In_there s.n.instances e.owner e.listed; known = In_there (pins_named s.table e.owner.model) e.output e.known; is = refl };
  gives = e.gives;
  joined = subst (HasClass s.n (pin_of e.owner.name e.output.name)) e.at (has_class s (pin_of e.owner.name e.output.name) (pin_role e.output) (a_pin e.owner e.output e.listed e.known));
}

edge_depends : (s : Scene) (c d : ℕ) (e : Edge s c d) (t : Terminal) → OutOf s t d → DependsOn s.table s.n (pin_of e.owner.name e.output.name) t
unfolding out_class
edge_depends s c d e t o = record {
  owner = e.owner;
  output = e.output;
  is_pin = (out_class s c d e).is_pin;
  gives = e.gives;
  place = e.place;
  input = e.input;
  depends = In_there e.output.depends_on e.place e.depends;
  there = e.stands;
  takes = e.takes;
  class = d;
  reads = subst (HasClass s.n (pin_of e.owner.name e.input.name)) e.reads
      (has_class s (pin_of e.owner.name e.input.name) (pin_role e.input) (a_pin e.owner e.input e.listed (there_In (pins_named s.table e.owner.model) e.place e.input e.stands)));
  other = o.owner;
  driver = o.pin;
  is_driver = o.is_pin;
  drives = o.gives;
  joined = o.joined;
}

depends_edge : (s : Scene) (a b : Terminal) (c d : ℕ) → DependsOn s.table s.n a b → HasClass s.n a c → HasClass s.n b d → Edge s c d
depends_edge s a b c d h ha hb = record {
  owner = h.owner;
  listed = there_In s.n.instances h.is_pin.listed.0 h.owner h.is_pin.listed.1;
  output = h.output;
  known = there_In (pins_named s.table h.owner.model) h.is_pin.known.0 h.output h.is_pin.known.1;
  gives = h.gives;
  at = s.classes.each (pin_of h.owner.name h.output.name) c (subst (λ (t : Terminal). HasClass s.n t c) h.is_pin.is ha);
  place = h.place;
  depends = there_In h.output.depends_on h.depends.0 h.place h.depends.1;
  input = h.input;
  stands = h.there;
  takes = h.takes;
  reads = s.classes.each (pin_of h.owner.name h.input.name) h.class h.reads ∙ class_once s.n s.ground.netlist b h.class d h.joined hb;
  free = by (is_fed s.class s.n.ports d) refl;
} where
  by : (t : Bool) → is_fed s.class s.n.ports d ≡ t → t ≡ false
  by false e = refl
  by true e =
      let f = fed s.class s.n.ports d e in
      let t = pin_of h.other.name h.driver.name in
      let at = a_pin h.other h.driver (there_In s.n.instances h.is_driver.listed.0 h.other h.is_driver.listed.1) (there_In (pins_named s.table h.other.model) h.is_driver.known.0 h.driver h.is_driver.known.1) in
      let is_d : s.class (pin_of h.other.name h.driver.name) ≡ d = s.classes.each (pin_of h.other.name h.driver.name) d (subst (λ (t : Terminal). HasClass s.n t d) h.is_driver.is hb) in
      let same : port f.0.name ≡ pin_of h.other.name h.driver.name =
      once s (port f.0.name) (pin_of h.other.name h.driver.name) (port_role f.0) (pin_role h.driver) (a_port f.0 f.1) at (input_driver f.0 f.2) (output_driver h.driver h.drives) (f.3 ∙ sym is_d) in
      let clash : None ≡ Some h.other.name = ap (λ (t : Terminal). t.instance) same in absurd cc

-- ---- a loop of classes is a ring of output pins

shift : {A : Type 0} (x : A) (xs : List A) (k : ℕ) (b : A) → Stands (x ∷ xs) (k + 1) b → Stands xs k b
shift {A} x xs k b s = let e : k + 1 ≡ suc k = omega arith in subst (λ j. Stands (x ∷ xs) j b) e s

first_is : {A : Type 0} (x : A) (xs : List A) (b : A) → Stands (x ∷ xs) 0 b → x ≡ b
first_is x xs b s = let e : Some x ≡ Some b = s in cc

-- output pins in these classes
abbrev Outs : Scene → List Terminal → List ℕ → Type 0
Outs s [] [] = Unit {0}
Outs s [] (d ∷ ds) = ⊥
Outs s (t ∷ ts) [] = ⊥
Outs s (t ∷ ts) (d ∷ ds) = OutOf s t d × Outs s ts ds

out_at : (s : Scene) (ts : List Terminal) (ds : List ℕ) → Outs s ts ds → (k : ℕ) (t : Terminal) → Stands ts k t → (d : ℕ) × Stands ds k d × OutOf s t d
out_at s [] ds h k t p = absurd cc
out_at s (u ∷ ts) [] h k t p = absurd h
out_at s (u ∷ ts) (d ∷ ds) h zero t p = let same : u ≡ t = first_is u ts t p in (d, refl, subst (λ (x : Terminal). OutOf s x d) same h.0)
out_at s (u ∷ ts) (d ∷ ds) h (suc k) t p = out_at s ts ds h.1 k t p

-- an output pin in each class of a way, of which each depends on the next, and the last on those in one more class
record Way (s : Scene) (c : ℕ) (ds : List ℕ) (z : ℕ) : Type 0 where
  head : Terminal
  tail : List Terminal
  out : OutOf s head c
  outs : Outs s tail ds
  next : (k : ℕ) (a b : Terminal) → Stands (head ∷ tail) k a → Stands (head ∷ tail) (k + 1) b → DependsOn s.table s.n a b
  close : (a b : Terminal) → Stands (head ∷ tail) (length tail) a → OutOf s b z → DependsOn s.table s.n a b

next_more : (s : Scene) (t u : Terminal) (us : List Terminal) → DependsOn s.table s.n t u → ((k : ℕ) (a b : Terminal) → Stands (u ∷ us) k a → Stands (u ∷ us) (k + 1) b → DependsOn s.table s.n a b)
    → (k : ℕ) (a b : Terminal) → Stands (t ∷ u ∷ us) k a → Stands (t ∷ u ∷ us) (k + 1) b → DependsOn s.table s.n a b
next_more s t u us first rest zero a b p q =
    let x : t ≡ a = first_is t (u ∷ us) a p in
    let y : u ≡ b = first_is u us b (shift t (u ∷ us) 0 b q) in
    subst (λ (v : Terminal). DependsOn s.table s.n v b) x (subst (λ (v : Terminal). DependsOn s.table s.n t v) y first)
next_more s t u us first rest (suc k) a b p q =
    let e : suc k ≡ k + 1 = omega arith in
    rest k a b p (subst (λ j. Stands (u ∷ us) j b) e (shift t (u ∷ us) (suc k) b q))

way_of : (s : Scene) (c : ℕ) (ds : List ℕ) (z : ℕ) → Leads (deps s) c ds → In z (deps s (last c ds)) → Way s c ds z
way_of s c [] z h back =
    let e = edge_of s c z back in
    record {
      head = pin_of e.owner.name e.output.name;
      tail = [];
      out = out_class s c z e;
      outs = tt;
      next = λ k a b p q. absurd (nothing k b (shift (pin_of e.owner.name e.output.name) [] k b q));
      close = λ a b p o. subst (λ (v : Terminal). DependsOn s.table s.n v b) (first_is (pin_of e.owner.name e.output.name) [] a p) (edge_depends s c z e b o);
    } where
      nothing : (k : ℕ) (b : Terminal) → Stands [] k b → ⊥
      nothing k b s = absurd cc
way_of s c (d ∷ ds) z h back =
    let e = edge_of s c d h.0 in
    let r = way_of s d ds z h.1 back in
    record {
      head = pin_of e.owner.name e.output.name;
      tail = r.head ∷ r.tail;
      out = out_class s c d e;
      outs = (r.out, r.outs);
      next = next_more s (pin_of e.owner.name e.output.name) r.head r.tail (edge_depends s c d e r.head r.out) r.next;
      close = λ a b p o. r.close a b p o;
    }

stands_once : (xs : List ℕ) → AllDifferent xs → (i j x : ℕ) → Stands xs i x → Stands xs j x → i ≡ j
stands_once [] h i j x p q = absurd cc
stands_once (y ∷ xs) h zero zero x p q = refl
stands_once (y ∷ xs) h zero (suc j) x p q = absurd (h.0 (subst (λ z. In z xs) (sym (first_is y xs x p)) (there_In xs j x q)))
stands_once (y ∷ xs) h (suc i) zero x p q = absurd (h.0 (subst (λ z. In z xs) (sym (first_is y xs x q)) (there_In xs i x p)))
stands_once (y ∷ xs) h (suc i) (suc j) x p q = ap suc (stands_once xs h.1 i j x p q)

no_loop : (s : Scene) → Loop (deps s) → ⊥
no_loop s l = s.ground.condition.passes.rings (w.head ∷ w.tail) (record {
  some = omega arith;
  once = λ i j t p q.
      let x = out_at s (w.head ∷ w.tail) (l.start ∷ l.rest) (w.out, w.outs) i t p in
      let y = out_at s (w.head ∷ w.tail) (l.start ∷ l.rest) (w.out, w.outs) j t q in
      let same : y.0 ≡ x.0 = class_once s.n s.ground.netlist t y.0 x.0 y.2.joined x.2.joined in
      stands_once (l.start ∷ l.rest) l.different i j x.0 x.1 (subst (Stands (l.start ∷ l.rest) j) same y.1);
  next = w.next;
  close = λ a b p q.
      let e : length (w.head ∷ w.tail) - 1 ≡ length w.tail = omega arith in
      w.close a b (subst (λ k. Stands (w.head ∷ w.tail) k a) e p) (subst (λ (v : Terminal). OutOf s v l.start) (first_is w.head w.tail b q) w.out);
}) where
  w : Way s l.start l.rest l.start
  w = way_of s l.start l.rest l.start l.leads l.back

deps_inside : (s : Scene) (c d : ℕ) → c < s.n.count → In d (deps s c) → d < s.n.count
deps_inside s c d l j =
    let e = edge_of s c d j in
    let low = class_low s (pin_of e.owner.name e.input.name) (pin_role e.input) (a_pin e.owner e.input e.listed (there_In (pins_named s.table e.owner.model) e.place e.input e.stands)) in
    subst (λ x. x < s.n.count) e.reads low

pub class_ranks : (s : Scene) → ClassRanks s
class_ranks s = record {
  rank = depth (deps s) s.n.count;
  top = suc s.n.count;
  low = λ c l. let d = depth_low (deps s) s.n.count c in omega (arith, d);
  falls = λ a b c d h ha hb.
      depth_falls (deps s) s.n.count (deps_inside s) (no_loop s) c d (class_below s.n s.ground.netlist a c ha) (edge_in s c d (depends_edge s a b c d h ha hb));
}
