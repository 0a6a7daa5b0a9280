-- An index that is given names one by one, and what it finds.
use Rattle.std.proofs.Common.{◌≡◌, ℕ, ◌+◌, ◌<◌, ◌≤◌, true, List, [], map, length, take, get_or, Option, None, Some, Bor, refl, sym, ap, subst, ◌∙◌, arith}
use Rattle.std.specs.Prelude.{is_some, nat_lt, option_map}
use Rattle.std.specs.List.{slice_index_or}
use Rattle.std.specs.Option.{option_or, option_copied, IfSome}
use Rattle.std.specs.FinMap.{empty, get, insert, get-empty}
use Rattle.std.proofs.lemmas.Bool.Decides.{nat_tests}
use Rattle.std.proofs.lemmas.List.{get_or_read}
use Rattle.std.proofs.lemmas.Option.{slice_get_within, get_or_from_slice_get}
use Rattle.vlsi_base.specs.declared.name.Name.{Name}
use Rattle.vlsi_base.specs.Name.{name_cmp}
use Rattle.vlsi_base.specs.Names.{scalar}
use Rattle.vlsi_base.specs.NamePlaces.{NamePlaces, last_place}
use Rattle.vlsi_base.proofs.IndexLemmas.{HasPlaces, has_next}
use Rattle.vlsi_model.proofs.Naming.{take_whole}
use Rattle.source_checks.specs.declared.symbol_table.Symbol.{Symbol}
use Rattle.net_core.specs.declared.pins.ModelPins.{ModelPins}
use Rattle.net_core.specs.Places.{Stands}
use Rattle.vst_text.specs.declared.file.Component.{Component}
use Rattle.vst_text.specs.declared.file.StructuralFile.{StructuralFile}
use Rattle.vst_io.specs.Nets.{components, pins, pins_of}
use Rattle.vst_io.specs.Known.{IsKnown}
use Rattle.vst_io.proofs.Fine.{map_length}
use Rattle.vst_io.proofs.Places.{IsLast, last_is, map_stands}

pub named_next : {X : Type 0} (f : X → Name) (xs : List X) (old now new : NamePlaces) (k : ℕ) (x : X) → Stands xs k x → new ≡ insert now (f x) k
    → HasPlaces old now (take k (map f xs)) → HasPlaces old new (take (k + 1) (map f xs))
named_next f xs old now new k x s made has =
    let t : Stands (map f xs) k (f x) = map_stands f xs k x s in
    has_next old now new (map f xs) k (f x) (slice_get_within (map f xs) k (f x) t) (sym (get_or_from_slice_get (map f xs) k (f x) (f x) t)) made has

or_none : (o : Option ℕ) → option_or o None ≡ o
or_none None = refl
or_none (Some k) = refl

-- an index that was given these names alone
pub places_are : (ns : List Name) (old new : NamePlaces) → old ≡ empty → ((n : Name) → get new n ≡ option_or (last_place ns n) (get old n)) → (n : Name) → get new n ≡ last_place ns n
places_are ns old new e has n =
    has n ∙ ap (λ (m : NamePlaces). option_or (last_place ns n) (get m n)) e ∙ ap (λ (o : Option ℕ). option_or (last_place ns n) o) (get-empty name_cmp n) ∙ or_none (last_place ns n)

pub named_all : {X : Type 0} (f : X → Name) (xs : List X) (old index : NamePlaces) (k : ℕ) → old ≡ empty → length xs ≤ k → HasPlaces old index (take k (map f xs)) → (n : Name) → get index n ≡ last_place (map f xs) n
named_all f xs old index k e past has n =
    let all : take k (map f xs) ≡ map f xs = take_whole (map f xs) k (omega (arith, past, map_length f xs)) in
    places_are (map f xs) old index e (λ m. has m ∙ ap (λ (ns : List Name). option_or (last_place ns m) (get old m)) all) n

table_found : (tables : List (List Symbol)) (place : ℕ) (found : Option (Bor (List Symbol))) → is_some found ≡ nat_lt place (length tables) → place < length tables
    → IfSome found (λ t. t.now ≡ get_or tables place t.now) → option_copied found ≡ Some (slice_index_or tables place [])
table_found tables place None some low at = let yes : nat_lt place (length tables) ≡ true = grind (arith, nat_tests) in absurd cc
table_found tables place (Some t) some low at = ap (λ (ss : List Symbol). Some ss) (get_or_read tables place t.now low at [])

-- the pins that are found are those of the component
pub pins_found : (table : List ModelPins) (file : StructuralFile) (known : List Symbol) (index : NamePlaces) (tables : List (List Symbol)) (listed : List (List ℕ)) (name : List ℕ) (place : ℕ) (found : Option (Bor (List Symbol)))
    → IsKnown table file known index tables listed → Some place ≡ get index (scalar name) → is_some found ≡ nat_lt place (length tables) → IfSome found (λ t. t.now ≡ get_or tables place t.now)
    → option_copied found ≡ pins_of file.declarations name
pins_found table file known index tables listed name place found k e some at =
    let cs = components file.declarations in
    let key : Component → Name = λ c. scalar c.name in
    let last : last_place (map key cs) (scalar name) ≡ Some place = sym (k.places (scalar name)) ∙ sym e in
    let s : Stands (map key cs) place (scalar name) = subst (λ (o : Option ℕ). IsLast (map key cs) (scalar name) o) last (last_is (map key cs) (scalar name)) in
    let within : place < length (map key cs) = slice_get_within (map key cs) place (scalar name) s in
    let many : length tables ≡ length cs = ap (λ (ts : List (List Symbol)). length ts) k.pins_are ∙ map_length pins cs in
    let low : place < length tables = omega (arith, within, many, map_length key cs) in
    table_found tables place found some low at ∙ ap (λ (ts : List (List Symbol)). Some (slice_index_or ts place [])) k.pins_are
    ∙ ap (λ (o : Option ℕ). option_map (λ j. slice_index_or (map pins cs) j []) o) (sym last)
