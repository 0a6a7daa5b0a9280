-- From the refusals of its parts to that of a plan.
use Rattle.std.proofs.Common.{◌≡◌, ℕ, ◌^◌, ◌<◌, List, length, Option, None, Some, refl, sym, ap, ◌∙◌, subst, arith}
use Rattle.std.specs.Prelude.{IfSome, IsNone}
use Rattle.vlsi_base.specs.Member.{In, AllDifferent}
use Rattle.cell_model.specs.Library.{Library}
use Rattle.net_core.specs.Netlist.{Netlist, IsNetlist}
use Rattle.loon_wiring.specs.Repeaters.{IsFirst}
use Rattle.scan_theory.specs.Path.{register_names, added, IsTaken, NoneTaken, IsCovered, IsPath}
use Rattle.scan_checks.specs.declared.error.ScanError.{ScanError}
use Rattle.scan_checks.specs.declared.error.ScanError.TheVariants as error
use Rattle.scan_checks.specs.declared.registers.Register.{Register}
use Rattle.scan_checks.specs.Registers.{AreRegisters}
use Rattle.scan_checks.specs.Refused.{names_of, NamesAll, IsPathRefusal, IsScanRefusal, IsCoverRefusal, AreInOrder}
use Rattle.scan_checks.proofs.Found.{names_are, names_differ}
use Rattle.scan_checks.proofs.Ordered.{along_path, path_is, same_many, order_many, registers_many}

module _ (l : Library) (n : Netlist) (rs : List Register) (are : AreRegisters n l (register_names l n) rs) where
  pub names_once : IsNetlist n → (seen : List Register) → seen ≡ rs → AllDifferent (names_of seen)
  names_once sound seen is = subst (λ (xs : List (List ℕ)). AllDifferent xs) (sym (ap names_of is ∙ names_are n l (register_names l n) rs are)) (names_differ l n sound)

  pub many_is : (many : ℕ) → many ≡ length rs → many ≡ length (register_names l n)
  many_is many is = is ∙ registers_many n l (register_names l n) rs are

  pub taken_refused : (many : ℕ) (o : Option (List ℕ)) (text : List ℕ) → many ≡ length rs → IfSome o (λ t. IsFirst (IsTaken n) (added many) t) → o ≡ Some text
      → IsFirst (IsTaken n) (added (length (register_names l n))) text
  taken_refused many o text same found is =
      subst (λ (k : ℕ). IsFirst (IsTaken n) (added k) text) (many_is many same) (subst (λ (x : Option (List ℕ)). IfSome x (λ t. IsFirst (IsTaken n) (added many) t)) is found)

  pub none_taken : (many : ℕ) (o : Option (List ℕ)) → many ≡ length rs → (IsNone o → (text : List ℕ) → In text (added many) → IsTaken n text → ⊥) → o ≡ None → NoneTaken l n
  none_taken many o same none is =
      subst (λ (k : ℕ). (text : List ℕ) → In text (added k) → IsTaken n text → ⊥) (many_is many same) (none (subst (λ (x : Option (List ℕ)). IsNone x) (sym is) refl))

  pub cover_refused : (path : List (List ℕ)) (e : ScanError) → NoneTaken l n → IsCoverRefusal l e → IsScanRefusal l n path e
  cover_refused path error.Memory free h = h
  cover_refused path (error.Taken text) free h = absurd h
  cover_refused path (error.NoCover k) free h = (free, h)
  cover_refused path (error.Unknown text) free h = absurd h
  cover_refused path (error.Twice text) free h = absurd h
  cover_refused path (error.Left text) free h = absurd h

  refused_by : (path : List (List ℕ)) (e : ScanError) → NoneTaken l n → IsCovered l → IsPathRefusal (register_names l n) path e → IsScanRefusal l n path e
  refused_by path error.Memory free covered h = h
  refused_by path (error.Taken text) free covered h = absurd h
  refused_by path (error.NoCover k) free covered h = absurd h
  refused_by path (error.Unknown text) free covered h = record { free = free; covered = covered; fault = h }
  refused_by path (error.Twice text) free covered h = record { free = free; covered = covered; fault = h }
  refused_by path (error.Left text) free covered h = record { free = free; covered = covered; fault = h }

  pub path_refused : (path : List (List ℕ)) (seen : List Register) (e : ScanError) → seen ≡ rs → NoneTaken l n → IsCovered l → IsPathRefusal (names_of seen) path e → IsScanRefusal l n path e
  path_refused path seen e is free covered h =
      refused_by path e free covered (subst (λ (xs : List (List ℕ)). IsPathRefusal xs path e) (ap names_of is ∙ names_are n l (register_names l n) rs are) h)

  module _ (path : List (List ℕ)) (seen : List Register) (is : seen ≡ rs) (ordered : List Register) (order : AreInOrder seen path ordered) (all : NamesAll (names_of seen) path) where
    names_all : NamesAll (register_names l n) path
    names_all = subst (λ (xs : List (List ℕ)). NamesAll xs path) (ap names_of is ∙ names_are n l (register_names l n) rs are) all

    pub path_registers : AreRegisters n l path ordered
    path_registers = along_path n l (register_names l n) rs path ordered are (subst (λ (xs : List Register). AreInOrder xs path ordered) is order)

    pub path_through : IsPath l n path
    path_through = path_is l n (register_names l n) path refl names_all

    pub path_many : IsNetlist n → length path ≡ length (register_names l n)
    path_many sound = same_many (register_names l n) path (names_differ l n sound) names_all

    pub path_few : IsNetlist n → length rs < 2 ^ 27 → length path < 2 ^ 27
    path_few sound few = let a = path_many sound in let b = registers_many n l (register_names l n) rs are in omega (arith, a, b, few)

    pub ordered_many : length ordered ≡ length path
    ordered_many = order_many seen ordered path order
