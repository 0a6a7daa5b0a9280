-- Points by their classes, and the classes of ports.
use Rattle.std.proofs.Common.{◌≡◌, ℕ, suc, ◌≤◌, Bool, true, false, cond, nat_eq, List, [], ◌∷◌, ◌++◌, map, filter, length, refl, sym, ap, subst, ◌∙◌, arith}
use Rattle.std.proofs.lemmas.Bool.{cond-true, cond-false}
use Rattle.vlsi_base.specs.declared.name.Name.{Name}
use Rattle.vlsi_base.specs.declared.name.Port.{Port}
use Rattle.vlsi_base.specs.Member.{In, here, there, AllDifferent}
use Rattle.machine_core.specs.Named.{is_same_name}
use Rattle.cell_model.specs.Access.{Point}
use Rattle.net_core.specs.Places.{Stands}
use Rattle.net_drawing.proofs.Coding.{same_name_true, same_name_itself, same_name_false}
use Rattle.ocp_place.specs.declared.row.Site.{Site as Placed}
use Rattle.ocp_place.specs.Nets.{is_signal}
use Rattle.ocp_place.specs.Ports.{signal_classes, class_named}
use Rattle.ocp_place.specs.Reaches.{site_of}
use Rattle.ocp_place.specs.Sites.{points_in}

-- ---- groups

abbrev in_class : ℕ → Placed → Bool
in_class c s = nat_eq s.class c

-- the points of a group
pub group_points : (c : ℕ) (sites : List Placed) → map (λ s. (site_of s).1) (filter (in_class c) sites) ≡ points_in c (map site_of sites)
group_points c [] = refl
group_points c (s ∷ rest) = by (nat_eq s.class c) (group_points c rest) where
  by : (b : Bool) → map (λ x. (site_of x).1) (filter (in_class c) rest) ≡ points_in c (map site_of rest)
      → map (λ x. (site_of x).1) (cond b (s ∷ filter (in_class c) rest) (filter (in_class c) rest)) ≡ cond b ((site_of s).1 ∷ []) [] ++ points_in c (map site_of rest)
  by true e = ap (λ (qs : List Point). (site_of s).1 ∷ qs) e
  by false e = e

-- ---- ports

-- the classes of ports that are no supplies are what a function gives for their names, where it does so for each port
pub signals_are : (f : Name → ℕ) (ports : List Port) (classes : List ℕ) → length ports ≤ length classes
    → ((j : ℕ) (p : Port) (c : ℕ) → Stands ports j p → Stands classes j c → f p.name ≡ c)
    → signal_classes ports classes ≡ map f (filter is_signal (map (λ p. p.name) ports))
signals_are f [] classes many each = refl
signals_are f (p ∷ ps) [] many each = absurd (omega (arith, many))
signals_are f (p ∷ ps) (c ∷ cs) many each =
    by (is_signal p.name) (signals_are f ps cs (omega (arith, many)) (λ j q d. each (suc j) q d)) where
      by : (b : Bool) → signal_classes ps cs ≡ map f (filter is_signal (map (λ q. q.name) ps))
          → cond b (c ∷ signal_classes ps cs) (signal_classes ps cs) ≡ map f (cond b (p.name ∷ filter is_signal (map (λ q. q.name) ps)) (filter is_signal (map (λ q. q.name) ps)))
      by true e = ap (λ (k : ℕ). k ∷ signal_classes ps cs) (sym (each 0 p c refl refl)) ∙ ap (λ (ks : List ℕ). f p.name ∷ ks) e
      by false e = e

none_named : (name : Name) (before : ℕ) (ports : List Port) (classes : List ℕ) → (In name (map (λ p. p.name) ports) → ⊥)
    → class_named (λ p. is_same_name p.name name) before ports classes ≡ before
none_named name before [] classes none = refl
none_named name before (p ∷ ps) [] none = refl
none_named name before (p ∷ ps) (c ∷ cs) none =
    let differ : is_same_name p.name name ≡ false = same_name_false p.name name (λ e. none (subst (λ (x : Name). In x (p.name ∷ map (λ q. q.name) ps)) e here)) in
    ap (λ (k : ℕ). class_named (λ q. is_same_name q.name name) k ps cs) (cond-false (is_same_name p.name name) c before differ)
    ∙ none_named name before ps cs (λ i. none (there i))

pub named_is : (f : Name → ℕ) (name : Name) (before : ℕ) (ports : List Port) (classes : List ℕ) → length ports ≤ length classes → AllDifferent (map (λ p. p.name) ports)
    → In name (map (λ p. p.name) ports) → ((j : ℕ) (p : Port) (c : ℕ) → Stands ports j p → Stands classes j c → f p.name ≡ c)
    → class_named (λ p. is_same_name p.name name) before ports classes ≡ f name
named_is f name before [] classes many d i each = elim i [ ]
named_is f name before (p ∷ ps) [] many d i each = absurd (omega (arith, many))
named_is f name before (p ∷ ps) (c ∷ cs) many d i each =
    by (is_same_name p.name name) refl (λ h. named_is f name before ps cs (omega (arith, many)) d.1 h (λ j q k. each (suc j) q k)) where
      later : (x : Name) → In x (p.name ∷ map (λ q. q.name) ps) → is_same_name p.name x ≡ false → In x (map (λ q. q.name) ps)
      later x here e = let t : true ≡ false = sym (same_name_itself x) ∙ e in absurd (cc t)
      later x (there j) e = j

      by : (b : Bool) → is_same_name p.name name ≡ b → (In name (map (λ q. q.name) ps) → class_named (λ q. is_same_name q.name name) before ps cs ≡ f name)
          → class_named (λ q. is_same_name q.name name) (cond (is_same_name p.name name) c before) ps cs ≡ f name
      by true e next =
          let is : p.name ≡ name = same_name_true p.name name e in
          ap (λ (k : ℕ). class_named (λ q. is_same_name q.name name) k ps cs) (cond-true (is_same_name p.name name) c before e)
          ∙ none_named name c ps cs (λ j. d.0 (subst (λ (x : Name). In x (map (λ q. q.name) ps)) (sym is) j))
          ∙ sym (each 0 p c refl refl) ∙ ap f is
      by false e next =
          ap (λ (k : ℕ). class_named (λ q. is_same_name q.name name) k ps cs) (cond-false (is_same_name p.name name) c before e)
          ∙ next (later name i e)
