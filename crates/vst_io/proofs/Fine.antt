-- What follows where a text has no fault.
use Rattle.std.proofs.Common.{◌≡◌, ℕ, ◌<◌, Bool, true, false, cond, not, ◌&&◌, List, [], ◌∷◌, ◌++◌, map, length, inl, inr, Option, None, Some, refl, sym, ap, subst, ◌∙◌, arith, append_assoc, append-nil}
use Rattle.std.specs.Prelude.{nat_eq, nat_lt}
use Rattle.std.specs.List.{flat_map, list_all, zip}
use Rattle.std.proofs.lemmas.Bool.Decides.{nat_tests}
use Rattle.std.proofs.lemmas.List.{length-map}
use Rattle.vlsi_base.specs.declared.name.Name.{Name}
use Rattle.vlsi_base.specs.declared.name.Terminal.{Terminal}
use Rattle.vlsi_base.specs.declared.range.Range.{Range}
use Rattle.vlsi_base.specs.Member.{In, here, there, AllDifferent}
use Rattle.vlsi_base.specs.Range.{is_ordered, range_bits}
use Rattle.vlsi_base.specs.NamePlaces.{name_of}
use Rattle.machine_core.proofs.Values.{In-split, In-left, In-right, In-map}
use Rattle.source_checks.specs.declared.statement.Selection.{Selection}
use Rattle.source_checks.specs.declared.statement.Selection.TheVariants as selection
use Rattle.source_checks.specs.declared.symbol_table.Symbol.{Symbol}
use Rattle.source_checks.specs.Symbols.{find, bit_name}
use Rattle.source_checks.specs.Widths.{if_not}
use Rattle.vlsi_model.proofs.Members.{different_append, different_map}
use Rattle.vlsi_model.proofs.Bits.{different_names_in}
use Rattle.net_core.specs.declared.pins.ModelPin.{ModelPin}
use Rattle.net_core.specs.declared.pins.ModelPins.{ModelPins}
use Rattle.net_core.specs.Netlist.{pin_of}
use Rattle.net_core.specs.Checks.{pins_named}
use Rattle.vst_text.specs.declared.file.Association.{Association}
use Rattle.vst_text.specs.declared.file.InstanceStatement.{InstanceStatement}
use Rattle.vst_text.specs.declared.file.StructuralFile.{StructuralFile}
use Rattle.vst_io.specs.Nets.{nets, pins_of, bits_of, holds, part_of, selected, pin_selection, pin_bits, net_bits, names, pin_names, net_names, links_of, map_links, instance_links}
use Rattle.vst_io.specs.Faults.{stands, is_free, is_tied, fits, association_faults, end_faults, map_faults, instance_faults}
use Rattle.vst_io.proofs.Places.{stands_there, stands_not}

-- ---- lists without lines

pub append_nothing : {X : Type 0} (xs ys : List X) → xs ++ ys ≡ [] → (xs ≡ []) × (ys ≡ [])
append_nothing [] ys e = (refl, e)
append_nothing (x ∷ xs) ys e = absurd cc

pub if_nothing : (b : Bool) (line : ℕ) → if_not b line ≡ [] → b ≡ true
if_nothing true line e = refl
if_nothing false line e = absurd cc

pub flat_nothing : {X Y : Type 0} (f : X → List Y) (xs : List X) → flat_map f xs ≡ [] → (x : X) → In x xs → f x ≡ []
flat_nothing f (y ∷ xs) e x here = (append_nothing (f y) (flat_map f xs) e).0
flat_nothing f (y ∷ xs) e x (there h) = flat_nothing f xs (append_nothing (f y) (flat_map f xs) e).1 x h
flat_nothing f [] e x h = elim h [ ]

pub both_true : (a b : Bool) → (a && b) ≡ true → (a ≡ true) × (b ≡ true)
both_true true b e = (refl, e)
both_true false b e = absurd cc

pub all_true : {X : Type 0} (test : X → Bool) (xs : List X) → list_all test xs ≡ true → (x : X) → In x xs → test x ≡ true
all_true test (y ∷ xs) e x here = (both_true (test y) (list_all test xs) e).0
all_true test (y ∷ xs) e x (there h) = all_true test xs (both_true (test y) (list_all test xs) e).1 x h
all_true test [] e x h = elim h [ ]

pub not_true : (b : Bool) → not b ≡ true → b ≡ false
not_true true e = absurd cc
not_true false e = refl

pub in_flat : {X Y : Type 0} (f : X → List Y) (xs : List X) (y : Y) → In y (flat_map f xs) → (x : X) × In x xs × In y (f x)
in_flat f [] y h = elim h [ ]
in_flat f (x ∷ xs) y h = elim (In-split y (f x) (flat_map f xs) h) [
  | inl left ↦ (x, here, left)
  | inr right ↦ let r = in_flat f xs y right in (r.0, there r.1, r.2)
]

pub flat_in : {X Y : Type 0} (f : X → List Y) (xs : List X) (x : X) (y : Y) → In x xs → In y (f x) → In y (flat_map f xs)
flat_in f (z ∷ xs) x y here h = In-left y (f x) (flat_map f xs) h
flat_in f (z ∷ xs) x y (there g) h = In-right y (f z) (flat_map f xs) (flat_in f xs x y g h)
flat_in f [] x y g h = elim g [ ]

pub map_append : {X Y : Type 0} (f : X → Y) (xs ys : List X) → map f (xs ++ ys) ≡ map f xs ++ map f ys
map_append f [] ys = refl
map_append {X} {Y} f (x ∷ xs) ys = ap (λ (zs : List Y). f x ∷ zs) (map_append f xs ys)

pub map_twice : {X Y Z : Type 0} (f : Y → Z) (g : X → Y) (xs : List X) → map f (map g xs) ≡ map (λ x. f (g x)) xs
map_twice f g [] = refl
map_twice {X} {Y} {Z} f g (x ∷ xs) = ap (λ (zs : List Z). f (g x) ∷ zs) (map_twice f g xs)

pub map_length : {X Y : Type 0} (f : X → Y) (xs : List X) → length (map f xs) ≡ length xs
map_length f xs = length-map xs f

pub zip_first : {X Y : Type 0} (xs : List X) (ys : List Y) → length xs ≡ length ys → map (λ p. p.0) (zip xs ys) ≡ xs
zip_first [] [] e = refl
zip_first [] (y ∷ ys) e = absurd (omega (arith, e))
zip_first (x ∷ xs) [] e = absurd (omega (arith, e))
zip_first {X} {Y} (x ∷ xs) (y ∷ ys) e = ap (λ (zs : List X). x ∷ zs) (zip_first xs ys (omega (arith, e)))

-- ---- bits of one name are different

different_of_map : {X Y : Type 0} (f : X → Y) (xs : List X) → AllDifferent (map f xs) → AllDifferent xs
different_of_map f [] d = tt
different_of_map f (x ∷ xs) d = (λ h. d.0 (In-map f x xs h), different_of_map f xs d.1)

different_range : (r : Range) → AllDifferent (range_bits r)
different_range r = different_of_map (bit_name []) (range_bits r) (different_names_in [] (Some r))

pub different_bits_of : (range : Option Range) → AllDifferent (bits_of range)
different_bits_of None = (λ h. elim h [ ], tt)
different_bits_of (Some r) = different_map (λ (k : ℕ). Some k) (range_bits r) (λ x y i j e. cc) (different_range r)

different_part : (range : Option Range) (sel : Selection) → AllDifferent (part_of range sel)
different_part range selection.Whole = different_bits_of range
different_part range (selection.Bit k) = by (holds range k) where
  by : (b : Bool) → AllDifferent (cond b (Some k ∷ []) [])
  by true = (λ h. elim h [ ], tt)
  by false = tt
different_part range (selection.Bits r) = by (is_ordered r && (holds range r.left && holds range r.right)) where
  by : (b : Bool) → AllDifferent (cond b (bits_of (Some r)) [])
  by true = different_bits_of (Some r)
  by false = tt

pub different_selected : (s : Option Symbol) (sel : Selection) → AllDifferent (selected s sel)
different_selected None sel = tt
different_selected (Some s) sel = different_part s.range sel

pub different_names : (text : List ℕ) (bits : List (Option ℕ)) → AllDifferent bits → AllDifferent (names text bits)
different_names text bits d = different_map (name_of text) bits (λ x y i j e. ap (λ (n : Name). n.bit) e) d

different_pins : (known : List Symbol) (a : Association) → AllDifferent (pin_names known a)
different_pins known a = different_names a.pin.text (pin_bits known a.pin) (different_selected (find known a.pin.text) (pin_selection a.pin.bit))

-- ---- an instance whose map has no fault

-- an association that as as many bits of a net as it names of a pin, by which a supply is tied
pub record IsFine (known known_nets : List Symbol) (a : Association) : Type 0 where
  pub some : 0 < length (pin_bits known a.pin)
  pub wide : length (net_bits known_nets a.net) ≡ length (pin_bits known a.pin)
  pub tied : is_tied known_nets a ≡ true

pub record AreFine (known known_nets : List Symbol) (model : List ModelPin) (mapped : List Name) (joins : List Association) : Type 0 where
  pub each : (a : Association) → In a joins → IsFine known known_nets a
  pub once : AllDifferent (mapped ++ flat_map (pin_names known) joins)
  pub pins : (n : Name) → In n (flat_map (pin_names known) joins) → In n (map (λ p. p.name) model)

pub are_fine : (known known_nets : List Symbol) (model : List ModelPin) (mapped : List Name) (joins : List Association) → AllDifferent mapped
    → association_faults known known_nets model mapped joins ≡ [] → AreFine known known_nets model mapped joins
are_fine known known_nets model mapped [] d e = record {
  each = λ a h. elim h [ ];
  once = subst (λ (ns : List Name). AllDifferent ns) (sym (append-nil mapped)) d;
  pins = λ n h. elim h [ ];
}
are_fine known known_nets model mapped (a ∷ joins) d e =
    let ns = pin_names known a in
    let p = append_nothing (if_not (is_free model mapped ns) a.pin.line) _ e in
    let q = append_nothing (if_not (fits known_nets a (length (pin_bits known a.pin))) a.net.line) _ p.1 in
    let free = both_true (nat_lt 0 (length ns)) _ (if_nothing (is_free model mapped ns) a.pin.line p.0) in
    let fit = both_true (nat_eq (length (net_bits known_nets a.net)) (length (pin_bits known a.pin))) _ (if_nothing (fits known_nets a (length (pin_bits known a.pin))) a.net.line q.0) in
    let test : Name → Bool = λ n. stands (map (λ (p : ModelPin). p.name) model) n && not (stands mapped n) in
    let good : (n : Name) → In n ns → (stands (map (λ (p : ModelPin). p.name) model) n ≡ true) × (not (stands mapped n) ≡ true) = λ n h. both_true (stands (map (λ (p : ModelPin). p.name) model) n) (not (stands mapped n)) (all_true test ns free.1 n h) in
    let apart : (n : Name) → In n mapped → In n ns → ⊥ = λ n g h. stands_not mapped n (not_true (stands mapped n) (good n h).1) g in
    let later = are_fine known known_nets model (mapped ++ ns) joins (different_append mapped ns d (different_pins known a) apart) q.1 in
    let many : length ns ≡ length (pin_bits known a.pin) = map_length (name_of a.pin.text) (pin_bits known a.pin) in
    record {
      each = λ b h. by b h (record { some = some_of (length ns) (length (pin_bits known a.pin)) many free.0; wide = equal_of (length (net_bits known_nets a.net)) (length (pin_bits known a.pin)) fit.0; tied = fit.1 }) later.each;
      once = subst (λ (xs : List Name). AllDifferent xs) (append_assoc mapped ns (flat_map (pin_names known) joins)) later.once;
      pins = λ n h. elim (In-split n ns (flat_map (pin_names known) joins) h) [
        | inl left ↦ stands_there (map (λ (p : ModelPin). p.name) model) n (good n left).0
        | inr right ↦ later.pins n right
      ];
    } where
      by : (b : Association) → In b (a ∷ joins) → IsFine known known_nets a → ((c : Association) → In c joins → IsFine known known_nets c) → IsFine known known_nets b
      by b here one rest = one
      by b (there h) one rest = rest b h

      some_of : (m n : ℕ) → m ≡ n → nat_lt 0 m ≡ true → 0 < n
      some_of m n e h = grind (arith, nat_tests)

      equal_of : (m n : ℕ) → nat_eq m n ≡ true → m ≡ n
      equal_of m n h = grind (arith, nat_tests)

pub record IsMapped (table : List ModelPins) (f : StructuralFile) (i : InstanceStatement) : Type 0 where
  pub known : List Symbol
  pub declared : pins_of f.declarations i.component ≡ Some known
  pub fine : AreFine known (nets f) (pins_named table i.component) [] i.associations
  pub all : (p : ModelPin) → In p (pins_named table i.component) → In p.name (flat_map (pin_names known) i.associations)

pub is_mapped : (table : List ModelPins) (f : StructuralFile) (i : InstanceStatement) → instance_faults table f i ≡ [] → IsMapped table f i
is_mapped table f i e = by (pins_of f.declarations i.component) refl e where
  by : (o : Option (List Symbol)) → pins_of f.declarations i.component ≡ o → map_faults table f i o ≡ [] → IsMapped table f i
  by None s e = absurd cc
  by (Some known) s e =
      let model = pins_named table i.component in
      let p = append_nothing (association_faults known (nets f) model [] i.associations) (end_faults known model i) e in
      let test : ModelPin → Bool = λ q. stands (flat_map (pin_names known) i.associations) q.name in
      record {
        known = known;
        declared = s;
        fine = are_fine known (nets f) model [] i.associations tt p.0;
        all = λ q h. stands_there (flat_map (pin_names known) i.associations) q.name (all_true test model (if_nothing (list_all test model) i.end_line p.1) q h);
      }

-- the terminals of its links are its pins
ends_are : (known known_nets : List Symbol) (label : List ℕ) (joins : List Association) → ((a : Association) → In a joins → IsFine known known_nets a)
    → map (λ l. l.0) (flat_map (links_of known known_nets label) joins) ≡ map (pin_of label) (flat_map (pin_names known) joins)
ends_are known known_nets label [] h = refl
ends_are known known_nets label (a ∷ joins) h =
    let first : Terminal × Name → Terminal = λ l. l.0 in
    let fine = h a here in
    let m1 : length (map (pin_of label) (pin_names known a)) ≡ length (pin_bits known a.pin) = map_length (pin_of label) (pin_names known a) ∙ map_length (name_of a.pin.text) (pin_bits known a.pin) in
    let m2 : length (net_names known_nets a) ≡ length (net_bits known_nets a.net) = map_length (name_of a.net.name) (net_bits known_nets a.net) in
    map_append first (links_of known known_nets label a) (flat_map (links_of known known_nets label) joins)
    ∙ ap (λ (ts : List Terminal). ts ++ map first (flat_map (links_of known known_nets label) joins)) (zip_first (map (pin_of label) (pin_names known a)) (net_names known_nets a) (m1 ∙ sym fine.wide ∙ sym m2))
    ∙ ap (λ (ts : List Terminal). map (pin_of label) (pin_names known a) ++ ts) (ends_are known known_nets label joins (λ b g. h b (there g)))
    ∙ sym (map_append (pin_of label) (pin_names known a) (flat_map (pin_names known) joins))

pub instance_ends : (table : List ModelPins) (f : StructuralFile) (i : InstanceStatement) (m : IsMapped table f i) → map (λ l. l.0) (instance_links f i) ≡ map (pin_of i.label) (flat_map (pin_names m.known) i.associations)
instance_ends table f i m =
    ap (λ (o : Option (List Symbol)). map (λ (l : Terminal × Name). l.0) (map_links f i o)) m.declared ∙ ends_are m.known (nets f) i.label i.associations m.fine.each
