-- How many numbers the graph of a machine has, and where its roots lie.
use Rattle.std.proofs.Common.{◌≡◌, ℕ, ◌+◌, ◌^◌, ◌<◌, ◌≤◌, inl, inr, Bool, not, List, [], ◌∷◌, length, filter, refl, sym, ap, subst, arith}
use Rattle.std.proofs.lemmas.Bool.{cases_lt}
use Rattle.std.proofs.lemmas.List.{length-map}
use Rattle.std.proofs.lemmas.List.Sorted.{length_permutation}
use Rattle.std.proofs.lemmas.List.Filters.{length-filter_both}
use Rattle.vlsi_base.specs.Member.{In, here, there}
use Rattle.vlsi_base.specs.declared.name.Port.{Port}
use Rattle.machine_core.specs.Machine.{Machine, inputs, input_ports, is_input, is_clock}
use Rattle.machine_core.specs.Size.{machine_size}
use Rattle.source_checks.specs.Symbols.{symbols}
use Rattle.source_checks.specs.Elaboration.{port_bits}
use Rattle.source_checks.specs.Checks.{most_ports}
use Rattle.vbe_io.specs.Text.{IsVbe}
use Rattle.graph_theory.specs.Graph.{Graph, held_count, EachReadsEarlier}
use Rattle.subject_table.proofs.Shared.{all_kinds}
use Rattle.subject_graph.specs.Subject.{IsNumberable, IsSubjectGraph}
use Rattle.cell_match.specs.Places.{times}
use Rattle.cell_match.proofs.Numbers.{one_tells}
use Rattle.cell_match.proofs.Pigeons.{times_append}
use Rattle.boog_part.specs.Part.{IsNeededPart, roots_of}
use Rattle.boog_tree.specs.Trees.{root_uses}
use Rattle.cell_model.specs.Library.{Library}
use Rattle.boog_area.specs.Covers.{IsTreeCover}
use Rattle.boog_area.specs.declared.cover.TreeCover.{TreeCover}
use Rattle.boog_area.proofs.Sums.{root_is, roots_few}
use Rattle.area_run.specs.Area.{IsPartOf}
use Rattle.tool_drive.specs.declared.size.TheConstants.{MOST_SIZE}

pub few_ports : (bytes : List ℕ) (m : Machine) → IsVbe bytes m → length m.ports ≤ most_ports
few_ports bytes m is =
    let same = length_permutation m.ports (port_bits (symbols is.design)) is.machine.ports in
    let few = is.passes.few_ports in
    omega (arith, same, few)

filter_most : {A : Type 0} (p : A → Bool) (xs : List A) → length (filter p xs) ≤ length xs
filter_most p xs = let h = length-filter_both p (λ x. not (p x)) (λ x. refl) xs in omega (arith, h)

few_inputs : (m : Machine) → length (inputs m) ≤ length m.ports
few_inputs m =
    let a = filter_most (λ name. not (is_clock m.clock name)) (input_ports m) in
    let b = length-map (filter (λ p. is_input p.dir) m.ports) (λ (p : Port). p.name) in
    let c = filter_most (λ (p : Port). is_input p.dir) m.ports in
    omega (arith, a, b, c)

pub numberable : (m : Machine) → length m.ports ≤ most_ports → machine_size m ≤ MOST_SIZE → IsNumberable m
numberable m ports small = let a = few_inputs m in omega (arith, a, ports, small)

module _ (m : Machine) (g : Graph) (subject : IsSubjectGraph m g) where
  few_nodes : length g.nodes ≤ machine_size m + 2
  few_nodes =
      let all = all_kinds g.nodes in
      let a = subject.small.logic in
      let b = subject.small.zero in
      let c = subject.small.one in
      omega (arith, all, a, b, c)

  in_list : (x : ℕ) (xs : List ℕ) → 0 < times x xs → In x xs
  in_list x [] some = absurd (omega (arith, some))
  in_list x (y ∷ ys) some = elim (one_tells y x) [
    | inl is ↦ subst (λ (n : ℕ). In n (y ∷ ys)) is.0 here
    | inr isnt ↦ let o = isnt.1 in there (in_list x ys (omega (arith, some, o)))
  ]

  pub roots_below : (x : ℕ) → 0 < times x (roots_of g) → x < held_count m + length g.nodes
  roots_below x some =
      let e = times_append x g.outputs g.loads in
      elim (cases_lt 0 (times x g.outputs)) [
        | inl shown ↦ subject.roots.shown x (in_list x g.outputs shown)
        | inr none ↦ subject.roots.loaded x (in_list x g.loads (omega (arith, e, some, none)))
      ]

  module _ (part : Graph) (needed : IsNeededPart (held_count m) g part) where
    pub part_fits : IsNumberable m → held_count m + length part.nodes < 2 ^ 32
    part_fits numbers = let few = few_nodes in let many = needed.many in omega (arith, few, many, numbers)

    pub part_roots_below : (x : ℕ) → 0 < root_uses x part → x < held_count m + length part.nodes
    part_roots_below x some =
        let e = times_append x g.outputs g.loads in
        let o = ap (λ (xs : List ℕ). times x xs) needed.outputs in
        let l = ap (λ (xs : List ℕ). times x xs) needed.loads in
        let low = roots_below x (omega (arith, e, o, l, some)) in
        let many = needed.many in
        omega (arith, low, many)

-- what the trees' crate asks of the part of a machine's graph
module _ (m : Machine) (part : Graph) (is : IsPartOf m part) (held : ℕ) (is_held : held ≡ held_count m) where
  pub fits : IsNumberable m → held + length part.nodes < 2 ^ 32
  fits numbers = let low = part_fits m is.graph is.subject part is.needed numbers in omega (arith, low, is_held)

  pub low_roots : (x : ℕ) → 0 < root_uses x part → x < held + length part.nodes
  low_roots x some = let low = part_roots_below m is.graph is.subject part is.needed x some in omega (arith, low, is_held)

  pub reads_earlier : EachReadsEarlier (held_count m) part.nodes → EachReadsEarlier held part.nodes
  reads_earlier earlier = subst (λ (n : ℕ). EachReadsEarlier n part.nodes) (sym is_held) earlier

-- what a cover has
module _ (l : Library) (held : ℕ) (part : Graph) (t : TreeCover) (is : IsTreeCover l held part t) where
  pub few_trees : held + length part.nodes < 2 ^ 32 → length t.cover.trees.items < 2 ^ 32
  few_trees low = let few = roots_few held part in let e = ap (λ (xs : List ℕ). length xs) is.trees in omega (arith, low, few, e)

  pub trees_there : (x : ℕ) → 0 < times x t.cover.trees.items → x < length t.cover.bounds.items
  trees_there x some =
      let low = (root_is held part x (subst (λ (xs : List ℕ). 0 < times x xs) is.trees some)).1 in
      let many = is.bounds.many in
      omega (arith, low, many)
