-- Targets of one bit.
use Rattle.std.proofs.Common.{◌≡◌, ℕ, zero, suc, ◌+◌, ◌-◌, Bool, true, false, List, [], ◌∷◌, map, Option, None, Some, refl, sym, ap, ◌∙◌, subst, arith}
use Rattle.std.specs.Prelude.{MatchOption}
use Rattle.vlsi_base.specs.declared.name.Name.{Name}
use Rattle.vlsi_base.specs.declared.range.Range.{Range}
use Rattle.vlsi_base.specs.Range.{rising, falling, range_bits}
use Rattle.source_checks.specs.declared.statement.Selection.{Selection}
use Rattle.source_checks.specs.declared.statement.Selection.TheVariants as selection
use Rattle.source_checks.specs.declared.statement.Target.{Target}
use Rattle.source_checks.specs.declared.symbol_table.Symbol.{Symbol}
use Rattle.source_checks.specs.Symbols.{find, names_in, bit_name}
use Rattle.source_checks.specs.Formula.{names_of_found}
use Rattle.source_checks.specs.Drivers.{target_names}
use Rattle.source_checks.proofs.Names.{find_text}
use Rattle.vbe_free.specs.Filled.{is_one_unread}

falls_single : (read : List Name) (f : ℕ → Name) (k n : ℕ) → (n ≡ 1 → ⊥) → is_one_unread read (map f (falling k n)) ≡ false
falls_single read f k zero h = refl
falls_single read f k (suc zero) h = absurd (h refl)
falls_single read f k (suc (suc n)) h = refl

rises_single : (read : List Name) (f : ℕ → Name) (k n : ℕ) → (n ≡ 1 → ⊥) → is_one_unread read (map f (rising k n)) ≡ false
rises_single read f k zero h = refl
rises_single read f k (suc zero) h = absurd (h refl)
rises_single read f k (suc (suc n)) h = refl

range_single : (text : List ℕ) (read : List Name) (r : Range) → (r.left ≡ r.right → ⊥) → is_one_unread read (names_in text (Some r)) ≡ false
range_single text read r apart = by r.falls where
  by : (b : Bool) → is_one_unread read (names_in text (Some (record r { falls = b }))) ≡ false
  by true = falls_single read (bit_name text) r.right (r.left + 1 - r.right) (λ e. apart (omega (arith, e)))
  by false = rises_single read (bit_name text) r.left (r.right + 1 - r.left) (λ e. apart (omega (arith, e)))

pub not_single : (range : Option Range) (r : Range) → range ≡ Some r → (r.left ≡ r.right → ⊥) → (text : List ℕ) (read : List Name) → is_one_unread read (names_in text range) ≡ false
not_single range r is apart text read =
    ap (λ (o : Option Range). is_one_unread read (names_in text o)) is
    ∙ range_single text read r apart

-- the bit, if the names are of one bit
abbrev pub IsBitOf : List ℕ → List Name → Option (Option ℕ) → Type 0
IsBitOf text names o = MatchOption o ((read : List Name) → is_one_unread read names ≡ false) (λ bit. names ≡ record { text = text; bit = bit } ∷ [])

selected : (known : List Symbol) (text : List ℕ) (line : ℕ) (s : Selection) → s ≡ selection.Whole
    → target_names known (record { name = text; line = line; selection = s }) ≡ names_of_found (find known text)
selected known text line selection.Whole e = refl
selected known text line (selection.Bit k) e = absurd cc
selected known text line (selection.Bits r) e = absurd cc

ranged : (known : List Symbol) (text : List ℕ) (line : ℕ) (s : Selection) (r : Range) → s ≡ selection.Bits r
    → target_names known (record { name = text; line = line; selection = s }) ≡ names_in text (Some r)
ranged known text line selection.Whole r e = absurd cc
ranged known text line (selection.Bit k) r e = absurd cc
ranged known text line (selection.Bits q) r e = let same : q ≡ r = cc in ap (λ (x : Range). names_in text (Some x)) same

pub whole_bit : (known : List Symbol) (t : Target) (s : Symbol) (o : Option (Option ℕ)) → t.selection ≡ selection.Whole → find known t.name ≡ Some s
    → ((text : List ℕ) → IsBitOf text (names_in text s.range) o) → IsBitOf t.name (target_names known t) o
whole_bit known t s o is found bit =
    let names : target_names known t ≡ names_in t.name s.range =
    selected known t.name t.line t.selection is ∙ ap names_of_found found ∙ ap (λ (x : List ℕ). names_in x s.range) (find_text known t.name s found) in
    subst (λ (l : List Name). IsBitOf t.name l o) (sym names) (bit t.name)

pub bits_bit : (known : List Symbol) (t : Target) (r : Range) (o : Option (Option ℕ)) → t.selection ≡ selection.Bits r
    → ((text : List ℕ) → IsBitOf text (names_in text (Some r)) o) → IsBitOf t.name (target_names known t) o
bits_bit known t r o is bit = subst (λ (l : List Name). IsBitOf t.name l o) (sym (ranged known t.name t.line t.selection r is)) (bit t.name)
