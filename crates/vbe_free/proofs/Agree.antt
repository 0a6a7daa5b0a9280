-- What a source with free bits comes to, with each of them 0 and with each 1: its parts agree.
use Rattle.std.proofs.Common.{◌≡◌, ◌⊎◌, inl, inr, ℕ, ◌+◌, ◌<◌, Bool, true, false, cond, not, List, [], ◌∷◌, ◌++◌, map, length, filter, Option, None, Some, get_or, refl, sym, ap, ◌∙◌, subst, arith}
use Rattle.std.specs.Prelude.{slice_index, slice_index_or, ◌||◌}
use Rattle.std.specs.List.{All, AllZip, slice_get}
use Rattle.std.specs.List.Sorted.{IsPermutation}
use Rattle.std.proofs.lemmas.List.Sorted.{IsPermutation-sym}
use Rattle.vlsi_base.specs.declared.name.Name.{Name}
use Rattle.vlsi_base.specs.declared.name.Port.{Port}
use Rattle.vlsi_base.specs.declared.name.Dir.TheVariants as dir
use Rattle.vlsi_base.specs.Name.{is_supply}
use Rattle.bool_expr.specs.Expression.{Expression, variables, IsOver}
use Rattle.machine_core.specs.Named.{is_same_name}
use Rattle.machine_core.specs.Machine.{Machine, Equation, is_input, names_of, outputs}
use Rattle.machine_core.specs.Order.{In, here, there, AllDifferent}
use Rattle.machine_core.specs.Checked.{IsChecked}
use Rattle.machine_core.proofs.Names.{same_name-true, same_name-itself, same_name-false}
use Rattle.machine_core.proofs.Values.{In-map, In-left, In-right, In-split}
use Rattle.source_checks.specs.declared.statement.Selection.{Selection}
use Rattle.source_checks.specs.declared.statement.Selection.TheVariants as selection
use Rattle.source_checks.specs.declared.statement.Target.{Target}
use Rattle.source_checks.specs.declared.statement.DesignFile.{DesignFile}
use Rattle.source_checks.specs.declared.symbol_table.Role.{Role}
use Rattle.source_checks.specs.declared.symbol_table.Role.TheVariants as role
use Rattle.source_checks.specs.declared.symbol_table.Symbol.{Symbol}
use Rattle.source_checks.specs.Symbols.{symbols, port_symbols, signal_symbols, find, names_in, bit_name}
use Rattle.source_checks.specs.Places.{in_statements}
use Rattle.source_checks.specs.Formula.{Formula, fixed, named, opposite, joined, chosen, formula_names, numbered, names_of_found}
use Rattle.source_checks.specs.Drivers.{is_among, target_names}
use Rattle.source_checks.specs.Clock.{statement_clocks, first_text, clock_text}
use Rattle.source_checks.specs.Elaboration.{Definition, Storage, definitions, storage, port_of, port_bits}
use Rattle.source_checks.proofs.Names.{find_text}
use Rattle.vbe_text.specs.Source.{SourceTree, StatementTree, statement_view, source_view}
use Rattle.vlsi_model.specs.Laid.{names_defined}
use Rattle.vlsi_model.proofs.Bits.{IsBit, text_in, found_in}
use Rattle.vlsi_model.proofs.FineSources.{Facts}
use Rattle.vlsi_model.proofs.Assembly.{equation_of, In-permutation, IsDriven, defined_is, false_or_true}
use Rattle.vlsi_model.proofs.PortBits.{is_port_bit, filter-In}
use Rattle.vlsi_model.proofs.SourceBits.{sound}
use Rattle.vbe_free.specs.Filled.{filled, filled_statement, is_output, source_reads, each_misplaced}
use Rattle.vbe_free.specs.Second.{IsFirstOf}
use Rattle.vbe_free.proofs.Drives.{in_trees, tree_definitions, tree_storage, all_definitions, all_storage, tree_pairs, tree_stores, IsFreeName, IsPair, ArePairs, clocks_as, tree_clocks, tree_same_clocks}

abbrev symbols_of : SourceTree → List Symbol
symbols_of t = port_symbols t.entity.ports ++ signal_symbols t.declarations.signals

module _ (m : Machine) (high : DesignFile) (first : IsFirstOf m high) where
  abbrev pub known : List Symbol
  known = symbols first.low

  abbrev pub statements : List StatementTree
  statements = first.source.statements

  abbrev pub read : List Name
  read = source_reads known statements

  pub same_symbols : symbols high ≡ known
  same_symbols = ap symbols_of first.ones ∙ sym (ap symbols_of first.zeros)

  pub low_definitions : definitions first.low ≡ in_trees (tree_definitions known) (map (filled_statement false) statements)
  low_definitions = all_definitions known first.low.statements ∙ ap (λ (t : SourceTree). in_trees (tree_definitions known) t.statements) first.zeros

  pub high_definitions : definitions high ≡ in_trees (tree_definitions known) (map (filled_statement true) statements)
  high_definitions =
      all_definitions (symbols high) high.statements ∙ ap (λ (t : SourceTree). in_trees (tree_definitions (symbols high)) t.statements) first.ones
      ∙ ap (λ (k : List Symbol). in_trees (tree_definitions k) (map (filled_statement true) statements)) same_symbols

  pub pairs : ArePairs known read (definitions first.low) (definitions high)
  pairs =
      subst (λ (ds : List Definition). ArePairs known read ds (definitions high)) (sym low_definitions)
      (subst (λ (es : List Definition). ArePairs known read (in_trees (tree_definitions known) (map (filled_statement false) statements)) es) (sym high_definitions)
      (tree_pairs known read statements first.placed))

  pub same_clock : clock_text high ≡ clock_text first.low
  same_clock =
      ap first_text (clocks_as (symbols high) high.statements ∙ ap (λ (t : SourceTree). in_trees (tree_clocks (symbols high)) t.statements) first.ones)
      ∙ ap (λ (k : List Symbol). first_text (in_trees (tree_clocks k) (map (filled_statement true) statements))) same_symbols
      ∙ ap first_text (tree_same_clocks known statements)
      ∙ sym (ap first_text (clocks_as known first.low.statements ∙ ap (λ (t : SourceTree). in_trees (tree_clocks known) t.statements) first.zeros))

  pub same_storage : storage high ≡ storage first.low
  same_storage =
      all_storage (symbols high) (clock_text high) high.statements
      ∙ ap (λ (t : SourceTree). in_trees (tree_storage (symbols high) (clock_text high)) t.statements) first.ones
      ∙ (λ j. in_trees (tree_storage (same_symbols j) (same_clock j)) (map (filled_statement true) statements))
      ∙ sym (tree_stores known read (clock_text first.low) statements first.placed)
      ∙ sym (all_storage known (clock_text first.low) first.low.statements
      ∙ ap (λ (t : SourceTree). in_trees (tree_storage known (clock_text first.low)) t.statements) first.zeros)
