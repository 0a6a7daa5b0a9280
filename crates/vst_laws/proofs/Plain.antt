-- Ports as they are written: each group has one name, and vectors fall.
use Rattle.std.proofs.Common.{◌≡◌, ℕ, zero, suc, ◌+◌, ◌-◌, ◌<◌, ◌≤◌, Bool, true, false, cond, not, ◌||◌, nat_le, List, [], ◌∷◌, ◌++◌, map, length, Option, None, Some, refl, sym, ap, subst, ◌∙◌, arith, append-nil}
use Rattle.std.specs.List.{All, flat_map}
use Rattle.std.specs.List.Sorted.{IsPermutation}
use Rattle.std.proofs.lemmas.Bool.{leb-true}
use Rattle.std.proofs.lemmas.Bool.Decides.{nat_tests}
use Rattle.std.proofs.lemmas.List.Elements.{All-head, All-tail}
use Rattle.std.proofs.lemmas.List.Sorted.{IsPermutation-refl, IsPermutation-trans, IsPermutation-cons, IsPermutation-to_front, IsPermutation-map, IsPermutation-append}
use Rattle.vlsi_base.specs.declared.name.Port.{Port}
use Rattle.vlsi_base.specs.declared.name.Dir.{Dir}
use Rattle.vlsi_base.specs.declared.name.Dir.TheVariants as dir
use Rattle.vlsi_base.specs.declared.entity.PortGroup.{PortGroup}
use Rattle.vlsi_base.specs.Member.{In, here}
use Rattle.vlsi_base.specs.Name.{is_supply}
use Rattle.vlsi_base.specs.NamePlaces.{name_of}
use Rattle.vlsi_base.specs.Range.{rising, falling}
use Rattle.machine_core.proofs.Values.{In-left, In-right, In-map}
use Rattle.source_checks.specs.declared.symbol_table.Symbol.{Symbol}
use Rattle.source_checks.specs.Symbols.{role_of_mode, port_symbols}
use Rattle.source_checks.specs.Elaboration.{port_of}
use Rattle.source_checks.specs.Widths.{if_not, declared_faults, port_faults}
use Rattle.source_checks.specs.Unsupported.{is_inout, is_resolved}
use Rattle.spell_theory.specs.Layout.{line_behind}
use Rattle.vhdl_print.specs.Outline.{placed_type, placed_port, placed_ports}
use Rattle.vst_print.specs.Groups.{Group, grouped, mode_of, bounds_of, declared, outline_of, outline}
use Rattle.vst_print.proofs.Runs.{some_groups}
use Rattle.vst_print.specs.Says.{ports_of}
use Rattle.vst_print.proofs.Grouped.{Good, GoodBits, bits_good}
use Rattle.vst_print.proofs.Netlists.{Sound}
use Rattle.vst_io.specs.Nets.{names, port_bits}
use Rattle.vst_io.specs.Faults.{is_in_bit, port_form}
use Rattle.vst_io.proofs.Ports.{ports_at}

-- a group as it is written on some line
pub record IsPlain (g : PortGroup) : Type 0 where
  pub line : ℕ
  pub group : Group
  pub good : GoodBits group
  pub is : g ≡ placed_port line (declared group)

abbrev pub ArePlain : List PortGroup → Type 0
ArePlain [] = Unit {0}
ArePlain (g ∷ gs) = IsPlain g × ArePlain gs

placed_plain : (line : ℕ) (gs : List Group) → All GoodBits gs → ArePlain (placed_ports line (map declared gs))
placed_plain line [] all = tt
placed_plain line (g ∷ gs) all = (
  record { line = line_behind line; group = g; good = All-head GoodBits g gs all; is = refl },
  placed_plain (line_behind line) gs (All-tail GoodBits g gs all),
)

pub outline_plain : (line : ℕ) (name : List ℕ) (ports : List Port) → Sound ports → ArePlain (placed_port line (outline name ports).first ∷ placed_ports line (outline name ports).others)
outline_plain line name ports s = by (grouped ports) (some_groups ports s.some) (bits_good ports s.chain) where
  by : (gs : List Group) → 0 < length (map declared gs) → All GoodBits gs → ArePlain (placed_port line (outline_of name (map declared gs)).first ∷ placed_ports line (outline_of name (map declared gs)).others)
  by [] some all = absurd (omega arith)
  by (g ∷ gs) some all = (record { line = line; group = g; good = All-head GoodBits g gs all; is = refl }, placed_plain line gs (All-tail GoodBits g gs all))

-- ---- ranges are in order

le_true : (m n : ℕ) → m ≤ n → nat_le m n ≡ true
le_true m n h = grind (arith, nat_tests)

one_width : (line : ℕ) (g : Group) → GoodBits g → declared_faults (placed_port line (declared g)).kind.range ≡ []
one_width line g good = by g.low g.high good where
  by : (low high : Option ℕ) → Good low high → declared_faults (placed_type line (bounds_of low high)).range ≡ []
  by None high good = refl
  by (Some l) None good = absurd good
  by (Some l) (Some h) good = ap (λ b. if_not b line) (le_true l h good)

pub plain_widths : (gs : List PortGroup) → ArePlain gs → port_faults gs ≡ []
plain_widths [] p = refl
plain_widths (g ∷ gs) p =
    let one : declared_faults g.kind.range ≡ [] = ap (λ (x : PortGroup). declared_faults x.kind.range) p.0.is ∙ one_width p.0.line p.0.group p.0.good in
    ap (λ (xs : List ℕ). xs ++ port_faults gs) one ∙ plain_widths gs p.1

-- ---- forms that are left out don't stand

no_inout : (line : ℕ) (d : Dir) → if_not (not (is_inout (mode_of d))) line ≡ []
no_inout line dir.In = refl
no_inout line dir.Out = refl

no_resolved : (line : ℕ) (low high : Option ℕ) → if_not (not (is_resolved (placed_type line (bounds_of low high)).word)) (placed_type line (bounds_of low high)).line ≡ []
no_resolved line None high = refl
no_resolved line (Some l) None = refl
no_resolved line (Some l) (Some h) = refl

pub nothing_in_all : {X : Type 0} (xs ys zs : List X) → xs ≡ [] → ys ≡ [] → zs ≡ [] → xs ++ (ys ++ zs) ≡ []
nothing_in_all {X} xs ys zs e f g = ap (λ (us : List X). us ++ (ys ++ zs)) e ∙ ap (λ (us : List X). us ++ zs) f ∙ g

one_form : (own : Bool) (line : ℕ) (g : Group) → ((not own || is_in_bit (placed_port line (declared g))) || not (is_supply g.text)) ≡ true → port_form own (placed_port line (declared g)) ≡ []
one_form own line g h =
    nothing_in_all (if_not ((not own || is_in_bit (placed_port line (declared g))) || not (is_supply g.text)) line ++ []) (if_not (not (is_inout (mode_of g.dir))) line)
    (if_not (not (is_resolved (placed_type line (bounds_of g.low g.high)).word)) (placed_type line (bounds_of g.low g.high)).line)
    (ap (λ b. if_not b line ++ []) h) (no_inout line g.dir) (no_resolved line g.low g.high)

pub plain_forms : (gs : List PortGroup) → ArePlain gs → flat_map (port_form false) gs ≡ []
plain_forms [] p = refl
plain_forms (g ∷ gs) p =
    let one : port_form false g ≡ [] = ap (port_form false) p.0.is ∙ one_form false p.0.line p.0.group refl in
    ap (λ (xs : List ℕ). xs ++ flat_map (port_form false) gs) one ∙ plain_forms gs p.1

in_bit : (line : ℕ) (text : List ℕ) (d : Dir) (low high : Option ℕ) → d ≡ dir.In → low ≡ None → is_in_bit (placed_port line (declared (record { text = text; dir = d; low = low; high = high }))) ≡ true
in_bit line text dir.In None high e f = refl
in_bit line text dir.In (Some l) high e f = absurd cc
in_bit line text dir.Out low high e f = absurd cc

-- a port that a group declares
abbrev the_port : List ℕ → Dir → Option ℕ → Port
the_port text d b = port_of d (name_of text b)

-- where supplies are inputs of one bit
abbrev pub SuppliesFit : List Port → Type 0
SuppliesFit ports = (p : Port) → In p ports → is_supply p.name.text ≡ true → (p.name.bit ≡ None) × (p.dir ≡ dir.In)

-- the greatest bit of a vector
greatest_in : (l h : ℕ) → l ≤ h → In h (falling l (h + 1 - l))
greatest_in l h less = let e : suc (h - l) ≡ h + 1 - l = omega (arith, less) in let f : l + (h - l) ≡ h = omega (arith, less) in subst (λ n. In h (falling l n)) e (subst (λ m. In h (m ∷ falling l (h - l))) (sym f) here)

own_fits : (line : ℕ) (g : Group) → GoodBits g → SuppliesFit (port_bits (port_symbols (placed_port line (declared g) ∷ []))) → is_supply g.text ≡ true → (g.dir ≡ dir.In) × (g.low ≡ None)
own_fits line g good fits s = by g.dir g.low g.high good fits where
  named : (d : Dir) (l h : ℕ) → l ≤ h → In (the_port g.text d (Some h)) (map (port_of d) (names g.text (map Some (falling l (h + 1 - l)))) ++ [])
  named d l h less =
      let bits = falling l (h + 1 - l) in
      In-left (the_port g.text d (Some h)) (map (port_of d) (names g.text (map Some bits))) []
      (In-map (port_of d) (name_of g.text (Some h)) (names g.text (map Some bits)) (In-map (name_of g.text) (Some h) (map Some bits) (In-map Some h bits (greatest_in l h less))))

  by : (d : Dir) (low high : Option ℕ) → Good low high → SuppliesFit (port_bits (port_symbols (placed_port line (declared (record { text = g.text; dir = d; low = low; high = high })) ∷ []))) → (d ≡ dir.In) × (low ≡ None)
  by dir.In None high good f = (refl, refl)
  by dir.Out None high good f = let r = f (the_port g.text dir.Out None) here s in absurd (cc r.1)
  by d (Some l) None good f = absurd good
  by dir.In (Some l) (Some h) good f = let no : Some h ≡ None = (f (the_port g.text dir.In (Some h)) (named dir.In l h good) s).0 in absurd cc
  by dir.Out (Some l) (Some h) good f = let no : Some h ≡ None = (f (the_port g.text dir.Out (Some h)) (named dir.Out l h good) s).0 in absurd cc

own_one : (line : ℕ) (g : Group) → GoodBits g → SuppliesFit (port_bits (port_symbols (placed_port line (declared g) ∷ []))) → port_form true (placed_port line (declared g)) ≡ []
own_one line g good fits = one_form true line g (by (is_supply g.text) refl) where
  by : (b : Bool) → is_supply g.text ≡ b → (is_in_bit (placed_port line (declared g)) || not b) ≡ true
  by true e = let o = own_fits line g good fits e in ap (λ b. b || false) (in_bit line g.text g.dir g.low g.high o.0 o.1)
  by false e = either (is_in_bit (placed_port line (declared g))) where
    either : (b : Bool) → (b || true) ≡ true
    either true = refl
    either false = refl

first_only : (g : PortGroup) (gs : List PortGroup) (p : Port) → IsPlain g → In p (port_bits (port_symbols (g ∷ []))) → In p (port_bits (port_symbols (g ∷ gs)))
first_only g gs p plain h =
    subst (λ (x : PortGroup). In p (port_bits (port_symbols (x ∷ [])) ++ []) → In p (port_bits (port_symbols (x ∷ gs)))) (sym plain.is)
    (λ i. In-left p _ (port_bits (port_symbols gs)) (subst (In p) (append-nil _ ∙ append-nil _) i)) (subst (In p) (sym (append-nil (port_bits (port_symbols (g ∷ []))))) h)

pub own_forms : (gs : List PortGroup) → ArePlain gs → SuppliesFit (port_bits (port_symbols gs)) → flat_map (port_form true) gs ≡ []
own_forms [] p fits = refl
own_forms (g ∷ gs) p fits =
    let q = p.0 in
    let alone : SuppliesFit (port_bits (port_symbols (g ∷ []))) = λ x h. fits x (first_only g gs x q h) in
    let one : port_form true g ≡ [] = ap (port_form true) q.is ∙ own_one q.line q.group q.good (subst (λ (x : PortGroup). SuppliesFit (port_bits (port_symbols (x ∷ [])))) q.is alone) in
    let later : SuppliesFit (port_bits (port_symbols gs)) = λ x h. fits x (subst (λ (y : PortGroup). In x (port_bits (port_symbols (y ∷ gs)))) (sym q.is) (In-right x _ (port_bits (port_symbols gs)) h)) in
    ap (λ (xs : List ℕ). xs ++ flat_map (port_form true) gs) one ∙ own_forms gs p.1 later

-- ---- the bits are the ports that are said, in another order

rising_last : (k n : ℕ) → rising k (suc n) ≡ rising k n ++ (k + n) ∷ []
rising_last k zero = let e : k ≡ k + 0 = omega arith in ap (λ m. m ∷ []) e
rising_last k (suc n) = let e : k + 1 + n ≡ k + suc n = omega arith in ap (λ (xs : List ℕ). k ∷ xs) (rising_last (k + 1) n) ∙ ap (λ m. k ∷ rising (k + 1) n ++ m ∷ []) e

falls : (k n : ℕ) → IsPermutation (rising k n) (falling k n)
falls k zero = IsPermutation-refl []
falls k (suc n) =
    subst (λ (xs : List ℕ). IsPermutation xs (falling k (suc n))) (sym (rising_last k n))
    (IsPermutation-trans (rising k n ++ (k + n) ∷ []) ((k + n) ∷ rising k n) (falling k (suc n)) (IsPermutation-to_front (rising k n) (k + n)) (IsPermutation-cons (k + n) (rising k n) (falling k n) (falls k n)))

least_is : (l h : ℕ) → l ≤ h → (b : Bool) → nat_le h l ≡ b → cond b h l ≡ l
least_is l h less true e = let m = leb-true h l e in omega (arith, less, m)
least_is l h less false e = refl

span_is : (l h : ℕ) → l ≤ h → (b : Bool) → nat_le h l ≡ b → cond b l h - cond b h l + 1 ≡ h + 1 - l
span_is l h less true e = let m = leb-true h l e in omega (arith, less, m)
span_is l h less false e = omega (arith, less)

-- the ports of a vector that are said, and those that it has
said : (text : List ℕ) (d : Dir) (l h : ℕ) → l ≤ h → map (λ k. the_port text d (Some k)) (rising (cond (nat_le h l) h l) (cond (nat_le h l) l h - cond (nat_le h l) h l + 1)) ≡ map (λ k. the_port text d (Some k)) (rising l (h + 1 - l))
said text d l h less =
    ap (λ n. map (λ k. the_port text d (Some k)) (rising (cond (nat_le h l) h l) n)) (span_is l h less (nat_le h l) refl)
    ∙ ap (λ m. map (λ k. the_port text d (Some k)) (rising m (h + 1 - l))) (least_is l h less (nat_le h l) refl)

had : (text : List ℕ) (d : Dir) (ks : List ℕ) → map (λ k. the_port text d (Some k)) ks ≡ map (port_of d) (names text (map Some ks))
had text d [] = refl
had text d (k ∷ ks) = ap (λ (ps : List Port). the_port text d (Some k) ∷ ps) (had text d ks)

vector : (text : List ℕ) (d : Dir) (l h : ℕ) → l ≤ h
    → IsPermutation (map (λ k. the_port text d (Some k)) (rising (cond (nat_le h l) h l) (cond (nat_le h l) l h - cond (nat_le h l) h l + 1)) ++ []) (map (port_of d) (names text (map Some (falling l (h + 1 - l)))) ++ [])
vector text d l h less =
    let n = h + 1 - l in
    let f : ℕ → Port = λ k. the_port text d (Some k) in
    let left = append-nil (map f (rising (cond (nat_le h l) h l) (cond (nat_le h l) l h - cond (nat_le h l) h l + 1))) ∙ said text d l h less in
    let right = append-nil (map (port_of d) (names text (map Some (falling l n)))) ∙ sym (had text d (falling l n)) in
    subst (λ (ps : List Port). IsPermutation ps (map (port_of d) (names text (map Some (falling l n))) ++ [])) (sym left)
    (subst (λ (ps : List Port). IsPermutation (map f (rising l n)) ps) (sym right) (IsPermutation-map f (rising l n) (falling l n) (falls l n)))

one_bits : (line : ℕ) (g : Group) → GoodBits g → IsPermutation (ports_of (placed_port line (declared g))) (port_bits (port_symbols (placed_port line (declared g) ∷ [])))
one_bits line g good = by g.dir g.low g.high good where
  by : (d : Dir) (low high : Option ℕ) → Good low high
      → IsPermutation (ports_of (placed_port line (declared (record { text = g.text; dir = d; low = low; high = high })))) (port_bits (port_symbols (placed_port line (declared (record { text = g.text; dir = d; low = low; high = high })) ∷ [])))
  by dir.In None high good = IsPermutation-refl (the_port g.text dir.In None ∷ [])
  by dir.Out None high good = IsPermutation-refl (the_port g.text dir.Out None ∷ [])
  by d (Some l) None good = absurd good
  by dir.In (Some l) (Some h) good = vector g.text dir.In l h good
  by dir.Out (Some l) (Some h) good = vector g.text dir.Out l h good

pub plain_bits : (gs : List PortGroup) → ArePlain gs → IsPermutation (flat_map ports_of gs) (port_bits (port_symbols gs))
plain_bits [] p = IsPermutation-refl []
plain_bits (g ∷ gs) p =
    let q = p.0 in
    let G = placed_port q.line (declared q.group) in
    let one = subst (λ (ps : List Port). IsPermutation (ports_of G) ps) (append-nil (ports_at (symbol q.line q.group))) (one_bits q.line q.group q.good) in
    subst (λ (x : PortGroup). IsPermutation (ports_of x ++ flat_map ports_of gs) (port_bits (port_symbols (x ∷ gs)))) (sym q.is)
    (IsPermutation-append (ports_of G) (ports_at (symbol q.line q.group)) (flat_map ports_of gs) (port_bits (port_symbols gs)) one (plain_bits gs p.1)) where
      symbol : ℕ → Group → Symbol
      symbol line g = record { text = g.text; role = role_of_mode (mode_of g.dir); range = (placed_type line (bounds_of g.low g.high)).range; line = line }
