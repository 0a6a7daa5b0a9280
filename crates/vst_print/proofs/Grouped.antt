-- Ports in the order of names, in groups: which ports these are, how many bits they have, and that their texts differ.
use Rattle.std.proofs.Common.{◌≡◌, ℕ, zero, suc, ◌+◌, ◌-◌, ◌<◌, ◌≤◌, Bool, true, false, cond, nat_eq, nat_le, List, [], ◌∷◌, ◌++◌, map, length, Option, None, Some, bytes_eq, refl, sym, ap, subst, ◌∙◌, append-nil, append_assoc, length-append, arith, IsTrue, AllPairs}
use Rattle.std.specs.List.{All, flat_map}
use Rattle.std.specs.Ordering.{nat_cmp, is_lt, ordering_then}
use Rattle.std.specs.declared.cmp.Ordering.{Ordering}
use Rattle.std.specs.declared.cmp.Ordering.TheVariants.{Less, Equal, Greater}
use Rattle.std.specs.Cmp.Lexicographic.{slice_cmp}
use Rattle.std.specs.FinMap.{nat_cmp-IsAntisymmetric, slice_cmp-IsAntisymmetric}
use Rattle.std.proofs.lemmas.Cmp.{nat_cmp_total, lists_total, tied_itself}
use Rattle.std.proofs.lemmas.Bool.{eqb-true, leb-true, leb-false}
use Rattle.std.proofs.lemmas.List.{length-map}
use Rattle.std.proofs.lemmas.List.Elements.{All-head, All-tail, All-cons, All-nil}
use Rattle.vlsi_base.specs.declared.name.Name.{Name}
use Rattle.vlsi_base.specs.declared.name.Port.{Port}
use Rattle.vlsi_base.specs.declared.name.Dir.{Dir}
use Rattle.vlsi_base.specs.Name.{name_cmp, bit_cmp}
use Rattle.vlsi_base.specs.Names.{comes_before}
use Rattle.vlsi_base.specs.Range.{rising}
use Rattle.vlsi_base.proofs.Ranges.{length_of_rising}
use Rattle.vhdl_print.specs.Outline.{Bounds, OnePort, port_bits}
use Rattle.vhdl_print.specs.EntityAgain.{IsName, AreSmall, CanBeAPort, IsApart, AreApart, all_bits}
use Rattle.net_core.specs.Places.{Stands}
use Rattle.net_core.specs.Netlist.{AreInOrder}
use Rattle.net_core.proofs.Lookups.{same_of, itself}
use Rattle.net_right.specs.Writable.{is_next_bit, GoesOn}
use Rattle.vst_print.specs.Groups.{Group, group_of, led_by, grouped, bounds_of, declared}
use Rattle.vst_print.specs.Says.{IsSmall}
use Rattle.vst_print.proofs.Entries.{Entry, Differs, AreDifferent, port_entry}

-- ---- neighbours

abbrev pub Next : Port → List Port → Type 0
Next p [] = Unit {0}
Next p (q ∷ ps) = (p.name.text ≡ q.name.text → GoesOn p q) × (name_cmp p.name q.name ≡ Less)

-- each port goes on to the next one or comes before its text
abbrev pub Chained : List Port → Type 0
Chained [] = Unit {0}
Chained (p ∷ ps) = Next p ps × Chained ps

less_of : (o : Ordering) → is_lt o ≡ true → o ≡ Less
less_of Less h = refl
less_of Equal h = absurd cc
less_of Greater h = absurd cc

pub chained : (ports : List Port) → AreInOrder (map (λ p. p.name) ports) → ((k : ℕ) (p q : Port) → Stands ports k p → Stands ports (k + 1) q → p.name.text ≡ q.name.text → GoesOn p q) → Chained ports
chained [] order runs = tt
chained (p ∷ ps) order runs = (first ps order runs, chained ps (λ i j d l m. order (suc i) (suc j) d (omega (arith, l)) (omega (arith, m))) (λ k a b s t e. runs (suc k) a b s (later k b t) e)) where
  later : (k : ℕ) (b : Port) → Stands ps (k + 1) b → Stands (p ∷ ps) (suc k + 1) b
  later k b t = let n : suc (k + 1) ≡ suc k + 1 = omega arith in subst (λ i. Stands (p ∷ ps) i b) n t

  first : (qs : List Port) → AreInOrder (map (λ x. x.name) (p ∷ qs)) → ((k : ℕ) (a b : Port) → Stands (p ∷ qs) k a → Stands (p ∷ qs) (k + 1) b → a.name.text ≡ b.name.text → GoesOn a b) → Next p qs
  first [] o r = tt
  first (q ∷ qs) o r = (λ e. r 0 p q refl refl e, less_of (name_cmp p.name q.name) (o 0 1 p.name (omega arith) (omega arith)))

-- ---- the ports of a group

abbrev pub one_port : List ℕ → Dir → Option ℕ → Port
one_port text d bit = record { name = record { text = text; bit = bit }; dir = d }

-- the bits of a vector from the least to the greatest
abbrev pub bound_ports : List ℕ → Dir → Option Bounds → List Port
bound_ports text d None = one_port text d None ∷ []
bound_ports text d (Some b) = map (λ k. one_port text d (Some k)) (rising b.right (b.left + 1 - b.right))

abbrev pub group_ports : Group → List Port
group_ports g = bound_ports g.text g.dir (bounds_of g.low g.high)

-- no bits, or a least and a greatest one
abbrev pub Good : Option ℕ → Option ℕ → Type 0
Good None high = Unit {0}
Good (Some low) None = ⊥
Good (Some low) (Some high) = low ≤ high

abbrev pub GoodBits : Group → Type 0
GoodBits g = Good g.low g.high

good_alone : (b : Option ℕ) → Good b b
good_alone None = tt
good_alone (Some k) = omega arith

alone_is : (text : List ℕ) (d : Dir) (b : Option ℕ) → bound_ports text d (bounds_of b b) ≡ one_port text d b ∷ []
alone_is text d None = refl
alone_is text d (Some k) = let e : k + 1 - k ≡ suc 0 = omega arith in ap (λ n. map (λ j. one_port text d (Some j)) (rising k n)) e

-- a bit in front of the next ones
good_more : (x y z : Option ℕ) → is_next_bit x y ≡ true → Good y z → Good x z
good_more (Some a) (Some b) (Some h) e good = let s : b ≡ a + 1 = eqb-true b (a + 1) e in omega (arith, s, good)
good_more (Some a) (Some b) None e good = absurd good
good_more (Some a) None z e good = absurd cc
good_more None y z e good = absurd cc

bits_more : (text : List ℕ) (d : Dir) (x y z : Option ℕ) → is_next_bit x y ≡ true → Good y z → bound_ports text d (bounds_of x z) ≡ one_port text d x ∷ bound_ports text d (bounds_of y z)
bits_more text d (Some a) (Some b) (Some h) e good =
    let s : b ≡ a + 1 = eqb-true b (a + 1) e in
    let n : h + 1 - a ≡ suc (h + 1 - b) = omega (arith, s, good) in
    ap (λ m. map (λ j. one_port text d (Some j)) (rising a m)) n
    ∙ ap (λ c. one_port text d (Some a) ∷ map (λ j. one_port text d (Some j)) (rising c (h + 1 - b))) (sym s)
bits_more text d (Some a) (Some b) None e good = absurd good
bits_more text d (Some a) None z e good = absurd cc
bits_more text d None y z e good = absurd cc

-- ---- groups whose texts rise

abbrev pub text_cmp : List ℕ → List ℕ → Ordering
text_cmp x y = slice_cmp nat_cmp x y

abbrev pub Ascends : List Group → Type 0
Ascends [] = Unit {0}
Ascends (g ∷ []) = Unit {0}
Ascends (g ∷ h ∷ gs) = (text_cmp g.text h.text ≡ Less) × Ascends (h ∷ gs)

ascends_as : (g h : Group) (gs : List Group) → h.text ≡ g.text → Ascends (g ∷ gs) → Ascends (h ∷ gs)
ascends_as g h [] same a = tt
ascends_as g h (x ∷ xs) same a = (ap (λ (t : List ℕ). text_cmp t x.text) same ∙ a.0, a.1)

before_text : (p q : Name) → name_cmp p q ≡ Less → (p.text ≡ q.text → ⊥) → text_cmp p.text q.text ≡ Less
before_text p q less other = by (text_cmp p.text q.text) refl less where
  by : (o : Ordering) → text_cmp p.text q.text ≡ o → ordering_then o (bit_cmp p.bit q.bit) ≡ Less → o ≡ Less
  by Less is e = refl
  by Equal is e = absurd (other (slice_cmp-IsAntisymmetric nat_cmp-IsAntisymmetric p.text q.text is))
  by Greater is e = absurd cc

absurd_of : (t : List ℕ) → bytes_eq t t ≡ false → ⊥
absurd_of t e = let yes = itself t in let no : true ≡ false = sym yes ∙ e in absurd cc

-- the groups of ports that begin with this one
pub record Led (p : Port) (ps : List Port) (gs : List Group) : Type 0 where
  pub group : Group
  pub rest : List Group
  pub are : gs ≡ group ∷ rest
  pub text : group.text ≡ p.name.text
  pub dir : group.dir ≡ p.dir
  pub low : group.low ≡ p.name.bit
  pub good : Good group.low group.high
  pub all : All (λ g. Good g.low g.high) (group ∷ rest)
  pub ports : group_ports group ++ flat_map group_ports rest ≡ p ∷ ps
  pub rise : Ascends (group ∷ rest)

pub led : (p : Port) (ps : List Port) → Chained (p ∷ ps) → Led p ps (grouped (p ∷ ps))
led p [] c = record {
  group = group_of p p;
  rest = [];
  are = refl;
  text = refl;
  dir = refl;
  low = refl;
  good = good_alone p.name.bit;
  all = All-cons GoodBits (group_of p p) [] (good_alone p.name.bit) (All-nil GoodBits);
  ports = append-nil (bound_ports p.name.text p.dir (bounds_of p.name.bit p.name.bit)) ∙ alone_is p.name.text p.dir p.name.bit;
  rise = tt;
}
led p (q ∷ qs) c = by (led q qs c.1) where
  by : Led q qs (grouped (q ∷ qs)) → Led p (q ∷ qs) (led_by p (grouped (q ∷ qs)))
  by i = subst (λ (gs : List Group). Led p (q ∷ qs) (led_by p gs)) (sym i.are) (choose (bytes_eq p.name.text i.group.text) refl) where
    choose : (b : Bool) → bytes_eq p.name.text i.group.text ≡ b → Led p (q ∷ qs) (cond b (record i.group { dir = p.dir; low = p.name.bit } ∷ i.rest) (group_of p p ∷ i.group ∷ i.rest))
    choose true e =
        let same : p.name.text ≡ i.group.text = same_of p.name.text i.group.text e in
        let on : GoesOn p q = c.0.0 (same ∙ i.text) in
        let bit : is_next_bit p.name.bit i.group.low ≡ true = ap (is_next_bit p.name.bit) i.low ∙ on.bit in
        let turned : p.dir ≡ i.group.dir = sym (i.dir ∙ on.dir) in
        record {
          group = record i.group { dir = p.dir; low = p.name.bit };
          rest = i.rest;
          are = refl;
          text = sym same;
          dir = refl;
          low = refl;
          good = good_more p.name.bit i.group.low i.group.high bit i.good;
          all =
              All-cons GoodBits (record i.group { dir = p.dir; low = p.name.bit }) i.rest (good_more p.name.bit i.group.low i.group.high bit i.good)
              (All-tail GoodBits i.group i.rest i.all);
          ports =
              ap (λ (xs : List Port). xs ++ flat_map group_ports i.rest) (bits_more i.group.text p.dir p.name.bit i.group.low i.group.high bit i.good)
              ∙ ap (λ (t : List ℕ). one_port t p.dir p.name.bit ∷ bound_ports i.group.text p.dir (bounds_of i.group.low i.group.high) ++ flat_map group_ports i.rest) (sym same)
              ∙ ap (λ (d : Dir). p ∷ bound_ports i.group.text d (bounds_of i.group.low i.group.high) ++ flat_map group_ports i.rest) turned
              ∙ ap (λ (xs : List Port). p ∷ xs) i.ports;
          rise = ascends_as i.group (record i.group { dir = p.dir; low = p.name.bit }) i.rest refl i.rise;
        }
    choose false e =
        let other : p.name.text ≡ q.name.text → ⊥ = λ f. differ (f ∙ sym i.text) e in
        record {
          group = group_of p p;
          rest = i.group ∷ i.rest;
          are = refl;
          text = refl;
          dir = refl;
          low = refl;
          good = good_alone p.name.bit;
          all = All-cons GoodBits (group_of p p) (i.group ∷ i.rest) (good_alone p.name.bit) i.all;
          ports = ap (λ (xs : List Port). xs ++ (group_ports i.group ++ flat_map group_ports i.rest)) (alone_is p.name.text p.dir p.name.bit) ∙ ap (λ (xs : List Port). p ∷ xs) i.ports;
          rise = (ap (text_cmp p.name.text) i.text ∙ before_text p.name q.name c.0.1 other, i.rise);
        } where
          differ : p.name.text ≡ i.group.text → bytes_eq p.name.text i.group.text ≡ false → ⊥
          differ f g = let no : bytes_eq p.name.text p.name.text ≡ false = subst (λ (t : List ℕ). bytes_eq p.name.text t ≡ false) (sym f) g in absurd_of p.name.text no

-- ---- what follows

pub ports_again : (ports : List Port) → Chained ports → flat_map group_ports (grouped ports) ≡ ports
ports_again [] c = refl
ports_again (p ∷ ps) c = let i = led p ps c in ap (flat_map group_ports) i.are ∙ i.ports

pub bits_good : (ports : List Port) → Chained ports → All GoodBits (grouped ports)
bits_good [] c = All-nil GoodBits
bits_good (p ∷ ps) c = let i = led p ps c in subst (All GoodBits) (sym i.are) i.all

bits_of : (text : List ℕ) (d : Dir) (low high : Option ℕ) → port_bits (bounds_of low high) ≡ length (bound_ports text d (bounds_of low high))
bits_of text d None high = refl
bits_of text d (Some low) None = refl
bits_of text d (Some low) (Some high) =
    let n : length (map (λ k. one_port text d (Some k)) (rising low (high + 1 - low))) ≡ length (rising low (high + 1 - low)) = length-map (rising low (high + 1 - low)) (λ k. one_port text d (Some k)) in
    by (nat_le low high) refl ∙ sym (n ∙ length_of_rising low (high + 1 - low)) where
      by : (b : Bool) → nat_le low high ≡ b → cond b (high - low + 1) 0 ≡ high + 1 - low
      by true e = let l = leb-true low high e in omega (arith, l)
      by false e = let l = leb-false low high e in omega (arith, l)

bits_all : (gs : List Group) → all_bits (map declared gs) ≡ length (flat_map group_ports gs)
bits_all [] = refl
bits_all (g ∷ gs) =
    let a = bits_of g.text g.dir g.low g.high in
    let b = length-append (group_ports g) (flat_map group_ports gs) in
    omega (arith, a, b, bits_all gs)

pub bits_again : (ports : List Port) → Chained ports → all_bits (map declared (grouped ports)) ≡ length ports
bits_again ports c = bits_all (grouped ports) ∙ ap length (ports_again ports c)

-- ---- texts differ

abbrev Above : List ℕ → Group → Type 0
Above t h = text_cmp t h.text ≡ Less

below_all : (t : List ℕ) (g : Group) (gs : List Group) → text_cmp t g.text ≡ Less → Ascends (g ∷ gs) → All (λ h. text_cmp t h.text ≡ Less) (g ∷ gs)
below_all t g [] less a = All-cons (Above t) g [] less (All-nil (Above t))
below_all t g (h ∷ gs) less a = All-cons (Above t) g (h ∷ gs) less (below_all t h gs ((lists_total nat_cmp_total).trans t g.text h.text less a.0) a.1)

above_rest : (g : Group) (gs : List Group) → Ascends (g ∷ gs) → All (λ h. text_cmp g.text h.text ≡ Less) gs
above_rest g [] a = All-nil (Above g.text)
above_rest g (h ∷ gs) a = below_all g.text h gs a.0 a.1

rest_ascends : (g : Group) (gs : List Group) → Ascends (g ∷ gs) → Ascends gs
rest_ascends g [] a = tt
rest_ascends g (h ∷ gs) a = a.1

not_itself : (t u : List ℕ) → text_cmp t u ≡ Less → t ≡ u → ⊥
not_itself t u less same =
    let e : text_cmp t u ≡ Equal = ap (text_cmp t) (sym same) ∙ tied_itself (lists_total nat_cmp_total) t in
    let no : Less ≡ Equal = sym less ∙ e in absurd cc

differ_all : (t : List ℕ) (gs : List Group) → All (λ h. text_cmp t h.text ≡ Less) gs → Differs t (map port_entry (map declared gs))
differ_all t [] above = All-nil (λ (f : Entry). t ≡ f.key → ⊥)
differ_all t (g ∷ gs) above =
    All-cons (λ (f : Entry). t ≡ f.key → ⊥) (port_entry (declared g)) (map port_entry (map declared gs)) (not_itself t g.text (All-head (Above t) g gs above)) (differ_all t gs (All-tail (Above t) g gs above))

apart_all : (t : List ℕ) (gs : List Group) → All (λ h. text_cmp t h.text ≡ Less) gs → IsApart t (map declared gs)
apart_all t [] above = All-nil (λ (q : OnePort). t ≡ q.name → ⊥)
apart_all t (g ∷ gs) above =
    All-cons (λ (q : OnePort). t ≡ q.name → ⊥) (declared g) (map declared gs) (not_itself t g.text (All-head (Above t) g gs above)) (apart_all t gs (All-tail (Above t) g gs above))

ascending_differ : (gs : List Group) → Ascends gs → AreDifferent (map port_entry (map declared gs))
ascending_differ [] a = tt
ascending_differ (g ∷ gs) a = (differ_all g.text gs (above_rest g gs a), ascending_differ gs (rest_ascends g gs a))

ascending_apart : (gs : List Group) → Ascends gs → AreApart (map declared gs)
ascending_apart [] a = tt
ascending_apart (g ∷ gs) a = (apart_all g.text gs (above_rest g gs a), ascending_apart gs (rest_ascends g gs a))

ascends : (ports : List Port) → Chained ports → Ascends (grouped ports)
ascends [] c = tt
ascends (p ∷ ps) c = let i = led p ps c in subst Ascends (sym i.are) i.rise

pub groups_differ : (ports : List Port) → Chained ports → AreDifferent (map port_entry (map declared (grouped ports)))
groups_differ ports c = ascending_differ (grouped ports) (ascends ports c)

pub groups_apart : (ports : List Port) → Chained ports → AreApart (map declared (grouped ports))
groups_apart ports c = ascending_apart (grouped ports) (ascends ports c)

-- ---- each group can be declared

abbrev pub GoodPort : Port → Type 0
GoodPort p = IsName p.name.text × IsSmall p.name.bit

abbrev GoodGroup : Group → Type 0
GoodGroup g = IsName g.text × IsSmall g.low × IsSmall g.high

small_bounds : (low high : Option ℕ) → IsSmall low → IsSmall high → AreSmall (bounds_of low high)
small_bounds None high a b = tt
small_bounds (Some l) None a b = tt
small_bounds (Some l) (Some h) a b = (b, a)

leads_good : (p : Port) (gs : List Group) → GoodPort p → All (λ g. IsName g.text × IsSmall g.low × IsSmall g.high) gs → All (λ g. IsName g.text × IsSmall g.low × IsSmall g.high) (led_by p gs)
leads_good p [] good all = All-cons GoodGroup (group_of p p) [] (good.0, good.1, good.1) (All-nil GoodGroup)
leads_good p (g ∷ gs) good all = by (bytes_eq p.name.text g.text) where
  head : GoodGroup g
  head = All-head GoodGroup g gs all

  by : (b : Bool) → All GoodGroup (cond b (record g { dir = p.dir; low = p.name.bit } ∷ gs) (group_of p p ∷ g ∷ gs))
  by true = All-cons GoodGroup (record g { dir = p.dir; low = p.name.bit }) gs (head.0, good.1, head.2) (All-tail GoodGroup g gs all)
  by false = All-cons GoodGroup (group_of p p) (g ∷ gs) (good.0, good.1, good.1) all

all_good : (ports : List Port) → All GoodPort ports → All (λ g. IsName g.text × IsSmall g.low × IsSmall g.high) (grouped ports)
all_good [] all = All-nil GoodGroup
all_good (p ∷ ps) all = leads_good p (grouped ps) (All-head GoodPort p ps all) (all_good ps (All-tail GoodPort p ps all))

declared_all : (gs : List Group) → All (λ g. IsName g.text × IsSmall g.low × IsSmall g.high) gs → All CanBeAPort (map declared gs)
declared_all [] all = All-nil CanBeAPort
declared_all (g ∷ gs) all =
    let head = All-head GoodGroup g gs all in
    All-cons CanBeAPort (declared g) (map declared gs) (head.0, small_bounds g.low g.high head.1 head.2) (declared_all gs (All-tail GoodGroup g gs all))

pub groups_can : (ports : List Port) → All GoodPort ports → All CanBeAPort (map declared (grouped ports))
groups_can ports all = declared_all (grouped ports) (all_good ports all)
