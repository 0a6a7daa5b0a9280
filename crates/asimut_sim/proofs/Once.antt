-- There is exactly one list of observed valuations.
use Rattle.std.proofs.Common.{◌≡◌, Bool, true, false, List, [], ◌∷◌, length, replicate, refl, ◌∙◌, ap, subst, if◌then◌else◌}
use Rattle.std.proofs.lemmas.List.{length-replicate, length-map}
use Rattle.machine_core.specs.Named.{value_at}
use Rattle.machine_core.specs.Machine.{Machine, inputs}
use Rattle.machine_core.specs.Cycles.{Settles, next}
use Rattle.machine_core.specs.Order.{IsOrdered, SettlesOnce}
use Rattle.pat_meaning.specs.declared.patterns.Column.{Column}
use Rattle.pat_meaning.specs.declared.patterns.Pattern.{Pattern}
use Rattle.pat_meaning.specs.Columns.{listed, given_bits}
use Rattle.pat_meaning.specs.Circuit.{of_machine}
use Rattle.pat_meaning.specs.Simulation.{vector, clock_bit, rises, Takes, Observes}
use Rattle.pat_meaning.specs.Answers.{ObservesOnce}
use Rattle.bool_expr.specs.Expression.{val}

pub length-next : (m : Machine) (w : List Bool) → length (next m w) ≡ length m.registers
length-next m w = length-map m.registers (λ r. if val r.enable w then val r.next w else value_at m.vars w r.name)

pub length-vector : (m : Machine) (columns : List Column) (p : Pattern) → length (vector (inputs m) columns p.values) ≡ length (inputs m)
length-vector m columns p = length-map (inputs m) (value_at (listed columns) (given_bits columns p.values))

-- what one pattern comes to
pub record TakesOnce (rises : Bool) (m : Machine) (i s : List Bool) : Type 0 where
  pub w : List Bool
  pub t : List Bool
  pub each : length t ≡ length m.registers
  pub takes : Takes rises (of_machine m) i s w t
  pub only : (w' t' : List Bool) → Takes rises (of_machine m) i s w' t' → (w' ≡ w) × (t' ≡ t)

pub takes_once : SettlesOnce → (m : Machine) → IsOrdered m → (rises : Bool) (i s : List Bool) → length s ≡ length m.registers → length i ≡ length (inputs m)
    → TakesOnce rises m i s
takes_once law m ordered false i s hs hi =
    let one = law m s i ordered hs hi in
    record {
      w = one.0;
      t = s;
      each = hs;
      takes = (one.1, refl);
      only = λ w' t' h. (one.2 w' h.0, h.1);
    }
takes_once law m ordered true i s hs hi =
    let one = law m s i ordered hs hi in
    let t : List Bool = next m one.0 in
    let ht = length-next m one.0 in
    let two = law m t i ordered ht hi in
    let Q : List Bool → List Bool → Type 0 = λ c w. Settles m c i w in
    record {
      w = two.0;
      t = t;
      each = ht;
      takes = (one.0, one.1, refl, two.1);
      only = λ w' t' h.
          let e : t' ≡ t = h.2 ∙ ap (next m) (one.2 h.0 h.1) in
          let P : List Bool → Type 0 = λ c. Settles m c i w' in
          (two.2 w' (subst P e h.3), e);
    }

pub record Once (m : Machine) (columns : List Column) (s : List Bool) (before : Bool) (patterns : List Pattern) : Type 0 where
  pub all : List (List Bool)
  pub are : Observes (of_machine m) columns s before patterns all
  pub only : (other : List (List Bool)) → Observes (of_machine m) columns s before patterns other → other ≡ all

pub once : SettlesOnce → (m : Machine) → IsOrdered m → (columns : List Column) (patterns : List Pattern) (s : List Bool) (before : Bool)
    → length s ≡ length m.registers → Once m columns s before patterns
once law m ordered columns [] s before hs = record { all = []; are = refl; only = λ other h. h }
once law m ordered columns (p ∷ rest) s before hs =
    let now : Bool = clock_bit m.clock columns p.values in
    let i : List Bool = vector (inputs m) columns p.values in
    let one = takes_once law m ordered (rises before now) i s hs (length-vector m columns p) in
    let more = once law m ordered columns rest one.t now one.each in
    record {
      all = one.w ∷ more.all;
      are = (one.w, one.t, one.takes, (more.all, refl, more.are));
      only = λ other h.
          let e = one.only h.0 h.1 h.2 in
          let P : List Bool → Type 0 = λ c. Observes (of_machine m) columns c now rest h.3.0 in
          let f = more.only h.3.0 (subst P e.1 h.3.2) in
          h.3.1 ∙ ap (λ x. x ∷ h.3.0) e.0 ∙ ap (λ x. one.w ∷ x) f;
    }

pub observes_once : SettlesOnce → ObservesOnce
observes_once law m columns patterns ordered =
    let all = once law m ordered columns patterns (replicate (length m.registers) false) false (length-replicate (length m.registers) false) in
    (all.all, all.are, all.only)
