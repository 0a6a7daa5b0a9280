-- Each instance of a text maps a pin.
use Rattle.std.proofs.Common.{◌≡◌, ℕ, suc, ◌<◌, List, [], ◌∷◌, length, ap, sym, subst, ◌∙◌, arith}
use Rattle.vlsi_base.specs.Member.{In, here, there}
use Rattle.vhdl_token.specs.declared.token.Tokens.{Tokens}
use Rattle.grammar_theory.specs.declared.limits.TheConstants.{DEPTH}
use Rattle.grammar_theory.specs.Marks.{Item}
use Rattle.grammar_theory.specs.Grammar.{list}
use Rattle.vst_text.specs.declared.file.Association.{Association}
use Rattle.vst_text.specs.declared.file.InstanceStatement.{InstanceStatement}
use Rattle.vst_text.specs.declared.file.StructuralFile.{StructuralFile}
use Rattle.vst_text.specs.Vst.{IsStructure, port_map, instance_statement, instance_statements, architecture, structure}

one_maps : (room : ℕ) (items : List Item) (i : InstanceStatement) → instance_statement room items i → 0 < length i.associations
unfolding instance_statement port_map
one_maps room items i h =
    let m = h.behind.behind.behind in
    let first = m.before.behind.behind.behind in
    let all = first.behind in
    let is : i.associations ≡ first.value ∷ all.value = ap (λ (s : InstanceStatement). s.associations) m.behind.1 ∙ ap (λ (p : List Association × ℕ). p.0) all.behind.behind.behind.1 in
    let many : length i.associations ≡ suc (length all.value) = ap (λ (xs : List Association). length xs) is in
    omega (arith, many)

each_maps : (room : ℕ) (items : List Item) (is : List InstanceStatement) → list (instance_statement room) items is → (i : InstanceStatement) → In i is → 0 < length i.associations
each_maps room items (x ∷ is) h i here = one_maps room h.0 i h.3
each_maps room items (x ∷ is) h i (there g) = each_maps room h.1 is h.4 i g
each_maps room items [] h i g = elim g [ ]

structure_maps : (room : ℕ) (items : List Item) (f : StructuralFile) → structure room items f → (i : InstanceStatement) → In i f.instances → 0 < length i.associations
unfolding structure architecture instance_statements
structure_maps room items f h i g =
    let x = h.behind.behind.behind in
    let z = x.before.behind in
    let is : f.instances ≡ z.value = ap (λ (s : StructuralFile). s.instances) x.behind.behind.1 ∙ z.behind.behind.1 in
    each_maps room z.front z.value z.before i (subst (λ (is : List InstanceStatement). In i is) is g)

-- so no instance is without pins
pub maps_some : (tokens : Tokens) (f : StructuralFile) → IsStructure tokens f → (i : InstanceStatement) → In i f.instances → 0 < length i.associations
maps_some tokens f s i g = structure_maps DEPTH s.read.0.front f s.read.0.sentence i g
