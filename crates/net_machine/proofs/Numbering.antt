-- The numbers of a body's bits, and the classes of its output pins.
use Rattle.std.proofs.Common.{◌≡◌, ℕ, ◌+◌, ◌-◌, ◌<◌, List, [], ◌∷◌, ◌++◌, map, length, get_or, drop, sym, ap, ◌∙◌, subst, arith, length-append}
use Rattle.std.proofs.lemmas.List.{map-append}
use Rattle.std.specs.List.{All}
use Rattle.vlsi_base.specs.declared.name.Name.{Name}
use Rattle.vlsi_base.specs.declared.name.Terminal.{Terminal}
use Rattle.vlsi_base.specs.Range.{rising}
use Rattle.bool_expr.specs.Expression.{Expression}
use Rattle.bool_expr.specs.Renumbering.{renumbered}
use Rattle.bool_expr.specs.View.{view}
use Rattle.source_bits.specs.declared.driven.DrivenBit.{DrivenBit}
use Rattle.source_bits.specs.Driven.{Numbered, driven_view}
use Rattle.net_core.specs.Netlist.{Netlist as InMemory, pin_of, HasClass, IsClassFunction}
use Rattle.net_machine.specs.declared.body.Shown.{Shown as ShownParts}
use Rattle.net_machine.specs.Body.{value_view, shown_view}
use Rattle.net_machine.specs.Bits.{shown_from}
use Rattle.net_machine.proofs.Turns.{drop_next, piece_turn, map_turn, rising_less}

pub pins_turn : (n : InMemory) (class : Terminal → ℕ) (owner : List ℕ) (pins : List Name) (k : ℕ) (pin : Name) (r : ℕ) (old now total : List ℕ) → IsClassFunction n class → k < length pins → pin ≡ get_or pins k pin
    → HasClass n (pin_of owner pin) r → now ≡ old ++ r ∷ [] → old ++ map (λ pin. class (pin_of owner pin)) (drop k pins) ≡ total
    → now ++ map (λ pin. class (pin_of owner pin)) (drop (k + 1) pins) ≡ total
pins_turn n class owner pins k pin r old now total function low is has put h =
    map_turn (λ (pin : Name). class (pin_of owner pin)) pins k pin r old now total low is (function.each (pin_of owner pin) r has) put h

pub numbers_turn : (k end : ℕ) (old now total : List ℕ) → k < end → now ≡ old ++ k ∷ [] → old ++ rising k (end - k) ≡ total → now ++ rising (k + 1) (end - (k + 1)) ≡ total
numbers_turn k end old now total low put h =
    piece_turn old now (k ∷ []) (rising (k + 1) (end - (k + 1))) total put (ap (λ (ks : List ℕ). old ++ ks) (sym (rising_less k end low)) ∙ h)

pub shown_turn : (n : InMemory) (class : Terminal → ℕ) (owner table : List ℕ) (shows : List ShownParts) (k : ℕ) (s : ShownParts) (d : DrivenBit) (old now : List DrivenBit) (total : List Numbered) → IsClassFunction n class
    → k < length shows → s ≡ get_or shows k s → HasClass n (pin_of owner s.pin) d.bit → view d.expr ≡ renumbered table (value_view s.value) → now ≡ old ++ d ∷ []
    → map driven_view old ++ shown_from class owner table (map shown_view (drop k shows)) ≡ total
    → map driven_view now ++ shown_from class owner table (map shown_view (drop (k + 1) shows)) ≡ total
shown_turn n class owner table shows k s d old now total function low is has expr put h =
    let made : ℕ → Expression → Numbered = λ bit expr. record { bit = bit; expr = expr } in
    let one : driven_view d ≡ made (class (pin_of owner s.pin)) (renumbered table (value_view s.value)) =
    ap (λ (k : ℕ). made k (view d.expr)) (sym (function.each (pin_of owner s.pin) d.bit has)) ∙ ap (made (class (pin_of owner s.pin))) expr in
    piece_turn (map driven_view old) (map driven_view now) (made (class (pin_of owner s.pin)) (renumbered table (value_view s.value)) ∷ []) (shown_from class owner table (map shown_view (drop (k + 1) shows))) total
    (ap (λ (ds : List DrivenBit). map driven_view ds) put ∙ map-append driven_view old (d ∷ []) ∙ ap (λ (x : Numbered). map driven_view old ++ x ∷ []) one)
    (ap (λ (ss : List ShownParts). map driven_view old ++ shown_from class owner table (map shown_view ss)) (sym (drop_next shows k s low is)) ∙ h)

-- what holds of each element holds of the next
pub item_holds : {A : Type 0} (P : A → Type 0) (xs : List A) (k : ℕ) (x : A) → k < length xs → x ≡ get_or xs k x → All P xs → P x
item_holds P xs k x low is all = subst P (sym is) (all k x low)

pub pushed_many : (xs ys : List ℕ) (x n : ℕ) → ys ≡ xs ++ x ∷ [] → length xs ≡ n → length ys ≡ n + 1
pushed_many xs ys x n put many = let a = ap (λ (zs : List ℕ). length zs) put in let b = length-append xs (x ∷ []) in omega (arith, a, b, many)
