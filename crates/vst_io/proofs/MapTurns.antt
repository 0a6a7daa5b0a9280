-- A turn of the check of a map.
use Rattle.std.proofs.Common.{◌≡◌, ℕ, Bool, true, false, cond, List, ◌∷◌, ◌++◌, length, Some, refl, ap, ◌∙◌}
use Rattle.source_checks.specs.declared.symbol_table.Symbol.{Symbol}
use Rattle.source_checks.specs.Lines.{first_line}
use Rattle.source_checks.specs.Widths.{if_not}
use Rattle.vlsi_base.specs.declared.name.Name.{Name}
use Rattle.net_core.specs.declared.pins.ModelPin.{ModelPin}
use Rattle.vst_text.specs.declared.file.Association.{Association}
use Rattle.vst_io.specs.Nets.{pin_bits, pin_names}
use Rattle.vst_io.specs.Faults.{is_free, fits, association_faults}

-- what is found from an association on
pub map_turn : (known nets : List Symbol) (model : List ModelPin) (mapped : List Name) (a : Association) (rest : List Association) (end : List ℕ) (free fit : Bool)
    → is_free model mapped (pin_names known a) ≡ free → fits nets a (length (pin_bits known a.pin)) ≡ fit
    → first_line (association_faults known nets model mapped (a ∷ rest) ++ end)
    ≡ cond free (cond fit (first_line (association_faults known nets model (mapped ++ pin_names known a) rest ++ end)) (Some a.net.line)) (Some a.pin.line)
map_turn known nets model mapped a rest end free fit e f =
    ap (λ (b : Bool). first_line ((if_not b a.pin.line ++ (if_not (fits nets a (length (pin_bits known a.pin))) a.net.line ++ later)) ++ end)) e
    ∙ ap (λ (b : Bool). first_line ((if_not free a.pin.line ++ (if_not b a.net.line ++ later)) ++ end)) f ∙ by free fit where
      later : List ℕ
      later = association_faults known nets model (mapped ++ pin_names known a) rest

      by : (x y : Bool) → first_line ((if_not x a.pin.line ++ (if_not y a.net.line ++ later)) ++ end) ≡ cond x (cond y (first_line (later ++ end)) (Some a.net.line)) (Some a.pin.line)
      by true true = refl
      by true false = refl
      by false y = refl
