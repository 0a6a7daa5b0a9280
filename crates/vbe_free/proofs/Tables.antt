-- What the tables of names say, by which the equations are found.
use Rattle.std.proofs.Common.{◌≡◌, ℕ, ◌<◌, List, [], ◌∷◌, map, length, refl, sym, ap, ◌∙◌, subst}
use Rattle.std.specs.List.{All}
use Rattle.vlsi_base.specs.declared.name.Name.{Name}
use Rattle.bool_expr.specs.Expression.{IsOver}
use Rattle.machine_core.specs.Machine.{Machine, Equation}
use Rattle.machine_core.specs.Order.{In, here, there, AllDifferent}
use Rattle.machine_core.specs.View.{equation_view}
use Rattle.machine_core.specs.declared.equation.Equation.{Equation as EquationParts}
use Rattle.machine_core.proofs.Values.{In-map}
use Rattle.source_checks.specs.declared.statement.DesignFile.{DesignFile}
use Rattle.source_checks.specs.declared.symbol_table.Symbol.{Symbol}
use Rattle.source_checks.specs.Symbols.{symbols, all_names}
use Rattle.source_checks.specs.Formula.{place}
use Rattle.source_checks.specs.Elaboration.{Definition, definitions}
use Rattle.source_bits.specs.declared.driven.DrivenBit.{DrivenBit}
use Rattle.source_bits.specs.Driven.{Numbered, driven_view, numbered_definition}
use Rattle.vlsi_model.specs.Laid.{names_defined}
use Rattle.vlsi_model.specs.Numbered.{HasVars, name_at}
use Rattle.vlsi_model.proofs.Members.{In-map_back}
use Rattle.vlsi_model.proofs.Numbering.{place_within}
use Rattle.vlsi_model.proofs.Assembly.{All-from_In}
use Rattle.vlsi_model.proofs.Building.{map-then, name_back}
use Rattle.vbe_free.specs.Second.{IsFirstOf, equation_for, IsFound, AreOver, AreOnes}
use Rattle.vbe_free.proofs.Agree.{known, same_symbols}
use Rattle.vbe_free.proofs.Ones.{lows, high_once, high_declared, vars_declared, ones, each_found, each_over}

pub record Tables (m : Machine) (high : DesignFile) (ks : List Symbol) (ds : List DrivenBit) : Type 0 where
  pub texts : AllDifferent (map (λ (s : Symbol). s.text) ks)
  pub inside : All (λ (d : DrivenBit). d.bit < length (all_names ks)) ds
  pub names : map (λ (d : DrivenBit). name_at (all_names ks) d.bit) ds ≡ names_defined (definitions high)
  pub declared : All (λ n. In n (all_names ks)) (names_defined (definitions high))
  pub different : AllDifferent (names_defined (definitions high))
  pub vars : All (λ n. In n (all_names ks)) m.vars
  pub over : (places table : List ℕ) → HasVars (all_names ks) (names_defined (definitions high)) places → HasVars (all_names ks) m.vars table
      → AreOver (map driven_view ds) table
  pub found : (places table : List ℕ) → HasVars (all_names ks) (names_defined (definitions high)) places → HasVars (all_names ks) m.vars table
      → (es : List EquationParts) → map equation_view es ≡ m.equations → All (λ (e : EquationParts). IsFound (all_names ks) (map driven_view ds) places e.name) es
  pub ones : (places table : List ℕ) → HasVars (all_names ks) (names_defined (definitions high)) places → HasVars (all_names ks) m.vars table
      → (es : List EquationParts) → map equation_view es ≡ m.equations
      → AreOnes m high (map (λ (e : EquationParts). equation_for (all_names ks) (map driven_view ds) places table e.name) es)

module _ (m : Machine) (high : DesignFile) (first : IsFirstOf m high) (ds : List DrivenBit) where
  abbrev all : List Name
  all = all_names (known m high first)

  module _ (is : map driven_view ds ≡ map (numbered_definition all) (definitions high)) where
    inside_all : All (λ (d : DrivenBit). d.bit < length all) ds
    inside_all = All-from_In (λ (d : DrivenBit). d.bit < length all) ds (λ d i.
        let e = In-map_back (numbered_definition all) (driven_view d) (definitions high) (subst (λ (xs : List Numbered). In (driven_view d) xs) is (In-map driven_view d ds i)) in
        let bit : place all e.0.name ≡ d.bit = ap (λ (n : Numbered). n.bit) e.2 in
        subst (λ k. k < length all) bit
        (place_within all e.0.name (high_declared m high first e.0.name (In-map (λ (x : Definition). x.name) e.0 (definitions high) e.1))))

    back : (es : List Definition) → ((n : Name) → In n (names_defined es) → In n all) → map (λ (e : Definition). name_at all (place all e.name)) es ≡ names_defined es
    back [] h = refl
    back (e ∷ es) h = let one = name_back all e.name (h e.name here) in let rest = back es (λ n i. h n (there i)) in λ j. one j ∷ rest j

    names_all : map (λ (d : DrivenBit). name_at all d.bit) ds ≡ names_defined (definitions high)
    names_all =
        sym (map-then (λ (x : Numbered). name_at all x.bit) driven_view ds) ∙ ap (map (λ (x : Numbered). name_at all x.bit)) is
        ∙ map-then (λ (x : Numbered). name_at all x.bit) (numbered_definition all) (definitions high) ∙ back (definitions high) (high_declared m high first)

    over_all : (places table : List ℕ) → HasVars all (names_defined (definitions high)) places → HasVars all m.vars table → AreOver (map driven_view ds) table
    over_all places table at_places at_vars =
        All-from_In (λ (x : Numbered). IsOver x.expr (length table)) (map driven_view ds) (each_over m high first (map driven_view ds) places table is at_places at_vars)

    found_all : (places table : List ℕ) → HasVars all (names_defined (definitions high)) places → HasVars all m.vars table
        → (es : List EquationParts) → map equation_view es ≡ m.equations → All (λ (e : EquationParts). IsFound all (map driven_view ds) places e.name) es
    found_all places table at_places at_vars es same =
        All-from_In (λ (e : EquationParts). IsFound all (map driven_view ds) places e.name) es (λ e i.
        each_found m high first (map driven_view ds) places table is at_places at_vars (equation_view e)
        (subst (λ (qs : List Equation). In (equation_view e) qs) same (In-map equation_view e es i)))

    ones_all : (places table : List ℕ) → HasVars all (names_defined (definitions high)) places → HasVars all m.vars table
        → (es : List EquationParts) → map equation_view es ≡ m.equations
        → AreOnes m high (map (λ (e : EquationParts). equation_for all (map driven_view ds) places table e.name) es)
    ones_all places table at_places at_vars es same =
        subst (AreOnes m high)
        (ap (map (λ (q : Equation). equation_for all (map driven_view ds) places table q.name)) (sym same)
        ∙ map-then (λ (q : Equation). equation_for all (map driven_view ds) places table q.name) equation_view es)
        (ones m high first (map driven_view ds) places table is at_places at_vars)

    of_known : Tables m high (known m high first) ds
    of_known = record {
      texts = (lows m high first).different;
      inside = inside_all;
      names = names_all;
      declared = All-from_In (λ n. In n all) (names_defined (definitions high)) (high_declared m high first);
      different = high_once m high first;
      vars = All-from_In (λ n. In n all) m.vars (vars_declared m high first);
      over = over_all;
      found = found_all;
      ones = ones_all;
    }

  pub tables : (ks : List Symbol) → ks ≡ symbols high → map driven_view ds ≡ map (numbered_definition (all_names (symbols high))) (definitions high) → Tables m high ks ds
  tables ks same is =
      let k = same_symbols m high first in
      subst (λ (l : List Symbol). Tables m high l ds) (sym (same ∙ k))
      (of_known (subst (λ (l : List Symbol). map driven_view ds ≡ map (numbered_definition (all_names l)) (definitions high)) k is))
