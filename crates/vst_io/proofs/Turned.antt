-- A map is checked association by association.
use Rattle.std.proofs.Common.{◌≡◌, ℕ, ◌+◌, ◌<◌, ◌≤◌, Bool, true, false, not, ◌&&◌, List, [], ◌∷◌, ◌++◌, map, length, take, drop, get_or, Option, None, Some, refl, sym, ap, ◌∙◌, append_assoc, append-nil}
use Rattle.std.specs.Prelude.{is_some, is_none, nat_lt}
use Rattle.std.specs.List.{flat_map, list_all}
use Rattle.std.specs.Option.{option_or}
use Rattle.std.specs.FinMap.{empty, get}
use Rattle.std.proofs.lemmas.List.{at_drop_more, at_drop_all, take_more}
use Rattle.vlsi_base.specs.declared.name.Name.{Name}
use Rattle.vlsi_base.specs.NamePlaces.{NamePlaces, name_of, last_place}
use Rattle.vlsi_model.proofs.Naming.{take_whole}
use Rattle.source_checks.specs.declared.symbol_table.Symbol.{Symbol}
use Rattle.source_checks.specs.Lines.{first_line}
use Rattle.source_checks.specs.Widths.{if_not}
use Rattle.net_core.specs.declared.pins.ModelPin.{ModelPin}
use Rattle.vst_text.specs.declared.file.Association.{Association}
use Rattle.vst_io.specs.Nets.{names, pin_bits, pin_names}
use Rattle.vst_io.specs.Faults.{stands, is_free, fits, association_faults}
use Rattle.vst_io.proofs.Fine.{map_length}
use Rattle.vst_io.proofs.Places.{Holds, holds_none, holds_more, free_all, mapped_all}
use Rattle.vst_io.proofs.MapTurns.{map_turn}

-- the names of a list that an index was given
pub holds_all : (old new : NamePlaces) (ns : List Name) → old ≡ empty → ((n : Name) → get new n ≡ option_or (last_place ns n) (get old n)) → Holds new ns
holds_all old new ns e has = holds_more old new [] ns (holds_none old e) has

abbrev pub before : List Symbol → List Association → ℕ → List Name
before known joins k = flat_map (pin_names known) (take k joins)

-- what is still found from the association at k on
abbrev pub found_from : List Symbol → List Symbol → List ModelPin → List ℕ → List Association → ℕ → Option ℕ
found_from known nets model end joins k = first_line (association_faults known nets model (before known joins k) (drop k joins) ++ end)

-- at the association at k
pub record IsTurn (known nets : List Symbol) (model : List ModelPin) (end : List ℕ) (joins : List Association) (k : ℕ) (a : Association) (total : Option ℕ) : Type 0 where
  pub within : k < length joins
  pub at : a ≡ get_or joins k a
  pub so_far : found_from known nets model end joins k ≡ total

opened : (known nets : List Symbol) (model : List ModelPin) (end : List ℕ) (joins : List Association) (k : ℕ) (a : Association) (total : Option ℕ) → IsTurn known nets model end joins k a total
    → first_line (association_faults known nets model (before known joins k) (a ∷ drop (k + 1) joins) ++ end) ≡ total
opened known nets model end joins k a total t =
    let look : List Association → Option ℕ = λ xs. first_line (association_faults known nets model (before known joins k) xs ++ end) in
    ap (λ (x : Association). look (x ∷ drop (k + 1) joins)) t.at ∙ sym (at_drop_more look joins k a t.within) ∙ t.so_far

pub not_free : (known nets : List Symbol) (model : List ModelPin) (end : List ℕ) (joins : List Association) (k : ℕ) (a : Association) (total : Option ℕ) → IsTurn known nets model end joins k a total
    → is_free model (before known joins k) (pin_names known a) ≡ false → Some a.pin.line ≡ total
not_free known nets model end joins k a total t e =
    let fit = fits nets a (length (pin_bits known a.pin)) in
    sym (map_turn known nets model (before known joins k) a (drop (k + 1) joins) end false fit e refl) ∙ opened known nets model end joins k a total t

pub not_fit : (known nets : List Symbol) (model : List ModelPin) (end : List ℕ) (joins : List Association) (k : ℕ) (a : Association) (total : Option ℕ) → IsTurn known nets model end joins k a total
    → is_free model (before known joins k) (pin_names known a) ≡ true → fits nets a (length (pin_bits known a.pin)) ≡ false → Some a.net.line ≡ total
not_fit known nets model end joins k a total t e f =
    sym (map_turn known nets model (before known joins k) a (drop (k + 1) joins) end true false e f) ∙ opened known nets model end joins k a total t

flat_next : {X Y : Type 0} (f : X → List Y) (xs : List X) (x : X) → flat_map f (xs ++ x ∷ []) ≡ flat_map f xs ++ f x
flat_next f [] x = append-nil (f x)
flat_next {X} {Y} f (y ∷ xs) x = ap (λ (ys : List Y). f y ++ ys) (flat_next f xs x) ∙ sym (append_assoc (f y) (flat_map f xs) (f x))

pub before_next : (known : List Symbol) (joins : List Association) (k : ℕ) (a : Association) → k < length joins → a ≡ get_or joins k a → before known joins (k + 1) ≡ before known joins k ++ pin_names known a
before_next known joins k a low at =
    ap (λ (xs : List Association). flat_map (pin_names known) xs) (take_more joins k a low ∙ ap (λ (x : Association). take k joins ++ x ∷ []) (sym at)) ∙ flat_next (pin_names known) (take k joins) a

pub goes_on : (known nets : List Symbol) (model : List ModelPin) (end : List ℕ) (joins : List Association) (k : ℕ) (a : Association) (total : Option ℕ) → IsTurn known nets model end joins k a total
    → is_free model (before known joins k) (pin_names known a) ≡ true → fits nets a (length (pin_bits known a.pin)) ≡ true → found_from known nets model end joins (k + 1) ≡ total
goes_on known nets model end joins k a total t e f =
    ap (λ (ns : List Name). first_line (association_faults known nets model ns (drop (k + 1) joins) ++ end)) (before_next known joins k a t.within t.at)
    ∙ sym (map_turn known nets model (before known joins k) a (drop (k + 1) joins) end true true e f) ∙ opened known nets model end joins k a total t

-- the pins of the next association are held too
pub holds_next : (known : List Symbol) (joins : List Association) (k : ℕ) (a : Association) (old new : NamePlaces) → k < length joins → a ≡ get_or joins k a → Holds old (before known joins k)
    → ((n : Name) → get new n ≡ option_or (last_place (pin_names known a) n) (get old n)) → Holds new (before known joins (k + 1))
holds_next known joins k a old new low at holds has = rw (before_next known joins k a low at) (holds_more old new (before known joins k) (pin_names known a) holds has)

-- whether there are such bits, each a pin that isn't mapped
abbrev pub free_test : NamePlaces → NamePlaces → List ℕ → List (Option ℕ) → Bool
free_test pins mapped text bits = nat_lt 0 (length bits) && list_all (λ b. is_some (get pins (name_of text b)) && is_none (get mapped (name_of text b))) bits

-- whether the bits of an association are free
pub free_is : (known : List Symbol) (model : List ModelPin) (mapped : List Name) (pins index : NamePlaces) (a : Association) (bits : List (Option ℕ)) → bits ≡ pin_bits known a.pin
    → Holds pins (map (λ p. p.name) model) → Holds index mapped
    → (nat_lt 0 (length bits) && list_all (λ b. is_some (get pins (name_of a.pin.text b)) && is_none (get index (name_of a.pin.text b))) bits) ≡ is_free model mapped (pin_names known a)
free_is known model mapped pins index a bits e p m =
    let ms = map (λ (q : ModelPin). q.name) model in
    let many : length bits ≡ length (names a.pin.text bits) = sym (map_length (name_of a.pin.text) bits) in
    let test : List Name → Bool = λ ns. list_all (λ n. stands ms n && not (stands mapped n)) ns in
    ap (λ (n : ℕ). nat_lt 0 n && list_all (λ b. is_some (get pins (name_of a.pin.text b)) && is_none (get index (name_of a.pin.text b))) bits) many
    ∙ ap (λ (b : Bool). nat_lt 0 (length (names a.pin.text bits)) && b) (free_all pins index ms mapped a.pin.text bits p m)
    ∙ ap (λ (bs : List (Option ℕ)). nat_lt 0 (length (names a.pin.text bs)) && test (names a.pin.text bs)) e

-- behind the last association
pub at_end : (known nets : List Symbol) (model : List ModelPin) (end : List ℕ) (joins : List Association) (k : ℕ) (total : Option ℕ) → length joins ≤ k → found_from known nets model end joins k ≡ total → first_line end ≡ total
at_end known nets model end joins k total past so_far =
    let look : List Association → Option ℕ = λ xs. first_line (association_faults known nets model (before known joins k) xs ++ end) in
    sym (at_drop_all look joins k past) ∙ so_far

-- whether all pins are mapped
pub all_are_mapped : (known : List Symbol) (model : List ModelPin) (joins : List Association) (k : ℕ) (index : NamePlaces) (ns : List Name) → ns ≡ map (λ p. p.name) model → length joins ≤ k → Holds index (before known joins k)
    → list_all (λ n. is_some (get index n)) ns ≡ list_all (λ p. stands (flat_map (pin_names known) joins) p.name) model
all_are_mapped known model joins k index ns e past holds =
    ap (λ (ms : List Name). list_all (λ n. is_some (get index n)) ms) e ∙ mapped_all (λ (p : ModelPin). p.name) index (before known joins k) model holds
    ∙ ap (λ (xs : List Association). list_all (λ (p : ModelPin). stands (flat_map (pin_names known) xs) p.name) model) (take_whole joins k past)

pub end_line : (b : Bool) (line : ℕ) (total : Option ℕ) → first_line (if_not b line) ≡ total → (b ≡ true → None ≡ total) × (b ≡ false → Some line ≡ total)
end_line true line total e = (λ h. e, λ h. absurd (cc h))
end_line false line total e = (λ h. absurd (cc h), λ h. e)
