-- Driven bits and their formulas, over numbers.
use Rattle.std.specs.Prelude.{ℕ, List, [], ◌∷◌, map}
use Rattle.vlsi_base.specs.declared.name.Name.{Name}
use Rattle.bool_expr.specs.Expression.{Expression}
use Rattle.bool_expr.specs.View.{view}
use Rattle.source_checks.specs.declared.statement.Assignment.{Assignment}
use Rattle.source_checks.specs.declared.symbol_table.Symbol.{Symbol}
use Rattle.source_checks.specs.Symbols.{all_names}
use Rattle.source_checks.specs.Formula.{place, numbered, choice_bits}
use Rattle.source_checks.specs.Drivers.{target_names}
use Rattle.source_checks.specs.Elaboration.{Definition, Storage}
use Rattle.source_bits.specs.declared.driven.DrivenBit.{DrivenBit}
use Rattle.source_bits.specs.declared.driven.StoredBit.{StoredBit}

-- the number of a bit, with what it has the value of
pub record Numbered : Type 0 where
  pub bit : ℕ
  pub expr : Expression

-- the number of a bit of storage, with what it loads, and when
pub record NumberedStorage : Type 0 where
  pub bit : ℕ
  pub next : Expression
  pub enable : Expression

abbrev pub driven_view : DrivenBit → Numbered
driven_view d = record { bit = d.bit; expr = view d.expr }

abbrev pub stored_view : StoredBit → NumberedStorage
stored_view s = record { bit = s.bit; next = view s.next; enable = view s.enable }

abbrev pub numbered_definition : List Name → Definition → Numbered
numbered_definition vars d = record { bit = place vars d.name; expr = numbered vars d.formula }

abbrev pub numbered_storage : List Name → Storage → NumberedStorage
numbered_storage vars s = record { bit = place vars s.name; next = numbered vars s.next; enable = numbered vars s.enable }

-- numbers with formulas, as far as both go
abbrev pub driven_pairs : List ℕ → List Expression → List Numbered
driven_pairs [] exprs = []
driven_pairs (k ∷ bits) [] = []
driven_pairs (k ∷ bits) (e ∷ exprs) = record { bit = k; expr = e } ∷ driven_pairs bits exprs

abbrev pub stored_pairs : Expression → List ℕ → List Expression → List NumberedStorage
stored_pairs enable [] exprs = []
stored_pairs enable (k ∷ bits) [] = []
stored_pairs enable (k ∷ bits) (e ∷ exprs) = record { bit = k; next = e; enable = enable } ∷ stored_pairs enable bits exprs

-- what an assignment of a block stores
abbrev pub stored_in : List Symbol → Expression → Assignment → List NumberedStorage
stored_in known enable a = stored_pairs enable (map (place (all_names known)) (target_names known a.target)) (map (numbered (all_names known)) (choice_bits known a.choice))
