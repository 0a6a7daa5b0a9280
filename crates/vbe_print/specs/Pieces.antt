-- Parts of the text.
use Rattle.std.specs.Prelude.{◌≡◌, ℕ, ◌+◌, ◌≤◌, List, [], ◌∷◌, ◌++◌, map, filter, length, is_none}
use Rattle.std.specs.FinMap.{get}
use Rattle.vlsi_base.specs.declared.name.Name.{Name}
use Rattle.vlsi_base.specs.NamePlaces.{NamePlaces}
use Rattle.machine_core.specs.declared.equation.Equation.{Equation}
use Rattle.bool_expr.specs.declared.expr.Gate.{Gate}
use Rattle.bool_expr.specs.Expression.{Expression, constant, variable, inverse, pair, choice, IsOver}
use Rattle.spell_theory.specs.Layout.{gap, text_of}
use Rattle.vhdl_print.specs.Outline.{a_word}
use Rattle.vhdl_print.specs.Outline.{entity_layout}
use Rattle.machine_core.specs.Machine.{Machine, Register}
use Rattle.vst_print.specs.Groups.{outline}
use Rattle.vst_print.specs.Structure.{signals_layout, begin_layout}
use Rattle.vbe_print.specs.Written.{with_supply_ports, head_layout, registers_layout, equations_layout, storage_layout, last_layout}
use Rattle.vbe_print.specs.Expressions.{gate_word, operand, leading, join, laid}

-- how many operators and operands
abbrev pub weight : Expression → ℕ
weight (constant b) = 1
weight (variable k) = 1
weight (inverse e) = 1 + weight e
weight (pair g a b) = 1 + (weight a + weight b)
weight (choice c a b) = 1 + (weight c + (weight a + weight b))

-- an operand behind its gate
abbrev pub link_text : List Name → Gate → Expression → List ℕ
link_text names g e = text_of (gap ∷ a_word (gate_word g) ∷ gap ∷ operand (laid names e))

-- operands behind one another, each behind its gate; the last one is the first of the list
abbrev pub links_text : List Name → Gate → List Expression → List ℕ
links_text names g [] = []
links_text names g (e ∷ es) = links_text names g es ++ link_text names g e

-- all are over so many variables, and none is heavier than this
abbrev pub AreLight : ℕ → ℕ → List Expression → Type 0
AreLight n w [] = Unit {0}
AreLight n w (e ∷ es) = IsOver e n × (weight e ≤ w) × AreLight n w es

-- the operands that two expressions under a gate are written as: the first one, and the others, from the last one on
pub record AreOperands (names : List Name) (g : Gate) (left right first : Expression) (others : List Expression) : Type 0 where
  pub same : text_of (leading g (laid names first)) ++ links_text names g others ≡ text_of (join g (laid names left) (laid names right)).text
  pub over : IsOver first (length names)
  pub less : weight first ≤ weight left
  pub light : AreLight (length names) (weight left + weight right) others

-- the text up to the declarations, that of the declarations, and that of the statements
abbrev pub front_text : Machine → List ℕ
front_text m = text_of (entity_layout (outline m.name (with_supply_ports m.ports)) ++ head_layout m.name)

abbrev pub declared_text : List (List ℕ) → List Register → List ℕ
declared_text signals registers = text_of (signals_layout signals ++ (registers_layout (map (λ r. r.name) registers) ++ begin_layout))

abbrev pub stated_text : List Name → List Name → Machine → List ℕ
stated_text vars names m = text_of (equations_layout vars names m.equations ++ (storage_layout vars m.clock m.registers ++ last_layout))

-- how many equations have names that an index lacks
abbrev pub inner_of : NamePlaces → List Equation → ℕ
inner_of index es = length (filter (λ e. is_none (get index e.name)) es)
