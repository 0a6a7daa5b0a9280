-- The assignment that drives a bit.
use Rattle.std.proofs.Common.{◌≡◌, inl, inr, List, [], ◌∷◌, refl, sym, subst}
use Rattle.vlsi_base.specs.declared.name.Name.{Name}
use Rattle.vlsi_base.specs.Member.{In, here, there}
use Rattle.machine_core.proofs.Values.{In-split, In-left, In-right}
use Rattle.source_checks.specs.declared.statement.Statement.{Statement}
use Rattle.source_checks.specs.declared.statement.Statement.TheVariants as statement
use Rattle.source_checks.specs.declared.statement.DesignFile.{DesignFile}
use Rattle.source_checks.specs.Symbols.{symbols}
use Rattle.source_checks.specs.Formula.{Formula, choice_bits}
use Rattle.source_checks.specs.Places.{in_statements}
use Rattle.source_checks.specs.Drivers.{driver_at, drivers, statement_drivers, target_names}
use Rattle.source_checks.specs.Checks.{DrivenOn}
use Rattle.source_checks.specs.Elaboration.{Definition, defined, definitions, statement_definitions}
use Rattle.vlsi_model.specs.Laid.{names_defined}
use Rattle.vlsi_model.proofs.FineSources.{Facts}
use Rattle.vlsi_model.proofs.Members.{In-cases, In-map_back}

in_some : {A : Type 0} (look : Statement → List A) (ss : List Statement) (x : A) → In x (in_statements look ss) → (st : Statement) × In st ss × In x (look st)
in_some look [] x i = elim i [ ]
in_some look (st ∷ ss) x i = elim (In-split x (look st) (in_statements look ss) i) [
  | inl a ↦ (st, here, a)
  | inr b ↦ (let r = in_some look ss x b in (r.0, there r.1, r.2))
]

of_some : {A : Type 0} (look : Statement → List A) (ss : List Statement) (st : Statement) (x : A) → In st ss → In x (look st) → In x (in_statements look ss)
of_some look (s ∷ ss) st x here i = In-left x (look st) (in_statements look ss) i
of_some look (s ∷ ss) st x (there j) i = In-right x (look s) (in_statements look ss) (of_some look ss st x j i)
of_some look [] st x j i = elim j [ ]

name_defined : (names : List Name) (formulas : List Formula) (d : Definition) → In d (defined names formulas) → In d.name names
name_defined [] formulas d i = elim i [ ]
name_defined (n ∷ names) [] d i = elim i [ ]
name_defined (n ∷ names) (f ∷ formulas) d i = elim (In-cases d (record { name = n; formula = f }) (defined names formulas) i) [
  | inl same ↦ subst (λ (e : Definition). In e.name (n ∷ names)) same here
  | inr j ↦ there (name_defined names formulas d j)
]

pub driver_of_defined : (design : DesignFile) → Facts design → (n : Name) → In n (names_defined (definitions design)) → (line : _) × DrivenOn (drivers design) n line
driver_of_defined design f n i = by s.0 s.1 s.2 where
  m : (d : Definition) × In d (definitions design) × (d.name ≡ n)
  m = In-map_back (λ (d : Definition). d.name) n (definitions design) i

  s : (st : Statement) × In st design.statements × In m.0 (statement_definitions (symbols design) st)
  s = in_some (statement_definitions (symbols design)) design.statements m.0 m.1

  by : (st : Statement) → In st design.statements → In m.0 (statement_definitions (symbols design) st) → (line : _) × DrivenOn (drivers design) n line
  by (statement.Assert e) j k = elim k [ ]
  by (statement.Block b) j k = elim k [ ]
  by (statement.Assign a) j k =
      let known = symbols design in
      let named = subst (λ (z : Name). In z (target_names known a.target)) m.2 (name_defined (target_names known a.target) (choice_bits known a.choice) m.0 k) in (
        a.target.line,
        (
          driver_at known a.target,
          of_some (statement_drivers known) design.statements (statement.Assign a) (driver_at known a.target) j here,
          subst (λ (ns : List Name). In n ns) (sym (f.counted a j)) named,
          refl,
        ),
      )
