-- In two machines of one text the same names depend at once on the same inputs.
use Rattle.std.proofs.Common.{◌≡◌, ◌⊎◌, inl, inr, ℕ, ◌<◌, List, ◌++◌, map, length, get_or, slice_get, Option, Some, sym, ap, ◌∙◌, subst}
use Rattle.std.specs.Prelude.{filter, not}
use Rattle.std.proofs.lemmas.List.Sorted.{IsPermutation-sym}
use Rattle.std.proofs.lemmas.Option.{slice_get-get_or, slice_get_within, get_or_from_slice_get}
use Rattle.vlsi_base.specs.declared.name.Name.{Name}
use Rattle.vlsi_base.specs.declared.name.Port.{Port}
use Rattle.vlsi_base.specs.Member.{In}
use Rattle.machine_core.specs.Machine.{Machine, Equation, names_of, is_input, is_clock, inputs, register_names}
use Rattle.machine_core.specs.Order.{held_names, equation_names}
use Rattle.machine_core.proofs.Values.{In-split, In-left, In-right, In-map}
use Rattle.source_checks.specs.Formula.{Formula, formula_names, place, numbered}
use Rattle.source_checks.specs.Elaboration.{Definition}
use Rattle.vlsi_model.proofs.Members.{In-map_back}
use Rattle.vlsi_model.proofs.Assembly.{In-permutation}
use Rattle.vlsi_model.proofs.Numbering.{place_within, place_at, place_In, numbered_variables}
use Rattle.cell_pins.specs.Follows.{Reads, Follows, itself, reads}
use Rattle.vbe_roots.proofs.Readings.{equation_over, AreOfOne}

abbrev inputs_of : Option Name → List Port → List Name
inputs_of clock ports = filter (λ name. not (is_clock clock name)) (names_of (filter (λ p. is_input p.dir) ports))

-- the equation of the same bit
record Partner (m k : Machine) (e : Equation) : Type 0 where
  bit : Definition
  is : equation_over m.vars bit ≡ e
  listed : In (equation_over k.vars bit) k.equations

module _ (m k : Machine) (one : AreOfOne m k) where
  inputs_same : inputs m ≡ inputs k
  inputs_same = ap (λ (c : Option Name). inputs_of c m.ports) one.parts.clock ∙ ap (λ (ps : List Port). inputs_of k.clock ps) one.parts.ports

  held_same : held_names m ≡ held_names k
  held_same = ap (λ (ns : List Name). ns ++ register_names m) inputs_same ∙ ap (λ (ns : List Name). inputs k ++ ns) one.parts.registers

  partner : (e : Equation) → In e m.equations → Partner m k e
  partner e i =
      let d = In-map_back (equation_over m.vars) e one.driven (In-permutation m.equations (map (equation_over m.vars) one.driven) e one.equations i) in
      record {
        bit = d.0;
        is = d.2;
        listed = In-permutation (map (equation_over k.vars) one.driven) k.equations (equation_over k.vars d.0)
            (IsPermutation-sym k.equations (map (equation_over k.vars) one.driven) one.other_equations) (In-map (equation_over k.vars) d.0 one.driven d.1);
      }

  -- a name of the one is one of the other
  named_too : (n : Name) → In n m.vars → In n k.vars
  named_too n i = subst (λ (ns : List Name). In n ns) (sym one.second.ordered.vars) (by (In-split n (held_names m) (equation_names m) (subst (λ (ns : List Name). In n ns) one.first.ordered.vars i))) where
    by : In n (held_names m) ⊎ In n (equation_names m) → In n (held_names k ++ equation_names k)
    by (inl h) = In-left n (held_names k) (equation_names k) (subst (λ (ns : List Name). In n ns) held_same h)
    by (inr h) =
        let e = In-map_back (λ (x : Equation). x.name) n m.equations h in
        let p = partner e.0 e.1 in
        let named : p.bit.name ≡ n = ap (λ (x : Equation). x.name) p.is ∙ e.2 in
        In-right n (held_names k) (equation_names k)
        (subst (λ (x : Name). In x (equation_names k)) named (In-map (λ (x : Equation). x.name) (equation_over k.vars p.bit) k.equations p.listed))

  -- what a formula reads in the one it reads in the other
  reads_too : (f : Formula) (n : Name) → Reads m (numbered m.vars f) n → Reads k (numbered k.vars f) n
  reads_too f n r =
      let listed : In r.0 (map (place m.vars) (formula_names f)) = subst (λ (ks : List ℕ). In r.0 ks) (numbered_variables m.vars f) r.1 in
      let x = In-map_back (place m.vars) r.0 (formula_names f) listed in
      let low : place m.vars x.0 < length m.vars = subst (λ (j : ℕ). j < length m.vars) (sym x.2) (slice_get_within m.vars r.0 n r.2) in
      let at : get_or m.vars r.0 n ≡ n = get_or_from_slice_get m.vars r.0 n n r.2 in
      let name : x.0 ≡ n = sym (place_at m.vars x.0 n low) ∙ ap (λ (j : ℕ). get_or m.vars j n) x.2 ∙ at in
      let own : In n m.vars = subst (λ (y : Name). In y m.vars) name (place_In m.vars x.0 low) in
      let within : place k.vars n < length k.vars = place_within k.vars n (named_too n own) in
      let mine : In n (formula_names f) = subst (λ (y : Name). In y (formula_names f)) name x.1 in (
        place k.vars n,
        subst (λ (ks : List ℕ). In (place k.vars n) ks) (sym (numbered_variables k.vars f)) (In-map (place k.vars) n (formula_names f) mine),
        slice_get-get_or k.vars (place k.vars n) n within ∙ ap Some (place_at k.vars n n within),
      )

  pub follows_too : (input name : Name) → Follows m input name → Follows k input name
  follows_too input _ (itself i) = itself (subst (λ (ns : List Name). In input ns) inputs_same i)
  follows_too input _ (reads e name i r rest) =
      let p = partner e i in
      let own : Reads m (numbered m.vars p.bit.formula) name = subst (λ (x : Equation). Reads m x.expr name) (sym p.is) r in
      let named : p.bit.name ≡ e.name = ap (λ (x : Equation). x.name) p.is in
      subst (λ (n : Name). Follows k input n) named (reads (equation_over k.vars p.bit) name p.listed (reads_too p.bit.formula name own) (follows_too input name rest))
