-- Port bits: their names are different.
use Rattle.std.proofs.Common.{◌≡◌, ◌⊎◌, inl, inr, ℕ, List, [], ◌∷◌, map, Option, refl, sym, ap, subst, ◌∙◌}
use Rattle.vlsi_base.specs.declared.name.Name.{Name}
use Rattle.vlsi_base.specs.declared.name.Port.{Port}
use Rattle.vlsi_base.specs.declared.name.Dir.{Dir}
use Rattle.vlsi_base.specs.declared.name.Dir.TheVariants as dir
use Rattle.vlsi_base.specs.Member.{In, AllDifferent}
use Rattle.vlsi_base.specs.NamePlaces.{name_of}
use Rattle.machine_core.proofs.Values.{In-map}
use Rattle.source_checks.specs.declared.symbol_table.Role.{Role}
use Rattle.source_checks.specs.declared.symbol_table.Role.TheVariants as role
use Rattle.source_checks.specs.declared.symbol_table.Symbol.{Symbol}
use Rattle.source_checks.specs.Elaboration.{port_of, ports_of_role}
use Rattle.vlsi_model.proofs.Members.{In-map_back, different_append}
use Rattle.vlsi_model.proofs.Bits.{texts}
use Rattle.vst_io.specs.Nets.{bits_of, names, port_bits}
use Rattle.vst_io.proofs.Fine.{in_flat, map_append, different_bits_of, different_names}

pub text_of : (text : List ℕ) (bits : List (Option ℕ)) (n : Name) → In n (names text bits) → n.text ≡ text
text_of text bits n h = let r = In-map_back (name_of text) n bits h in ap (λ (m : Name). m.text) (sym r.2)

back : (d : Dir) (ns : List Name) → map (λ p. p.name) (map (port_of d) ns) ≡ ns
back d [] = refl
back d (n ∷ ns) = ap (λ (ms : List Name). n ∷ ms) (back d ns)

role_names : (r : Role) (ns : List Name) → (map (λ p. p.name) (ports_of_role r ns) ≡ ns) ⊎ (map (λ p. p.name) (ports_of_role r ns) ≡ [])
role_names role.Input ns = inl (back dir.In ns)
role_names role.Output ns = inl (back dir.Out ns)
role_names role.Both ns = inr refl
role_names role.Inner ns = inr refl
role_names role.Register ns = inr refl

pub name_of_role : (r : Role) (ns : List Name) (n : Name) → In n (map (λ p. p.name) (ports_of_role r ns)) → In n ns
name_of_role r ns n h = elim (role_names r ns) [
  | inl e ↦ subst (λ (ms : List Name). In n ms) e h
  | inr e ↦ elim (subst (λ (ms : List Name). In n ms) e h) [ ]
]

different_role : (r : Role) (ns : List Name) → AllDifferent ns → AllDifferent (map (λ p. p.name) (ports_of_role r ns))
different_role r ns d = elim (role_names r ns) [
  | inl e ↦ subst (λ (ms : List Name). AllDifferent ms) (sym e) d
  | inr e ↦ subst (λ (ms : List Name). AllDifferent ms) (sym e) tt
]

-- the ports that a declared name is
abbrev pub ports_at : Symbol → List Port
ports_at s = ports_of_role s.role (names s.text (bits_of s.range))

pub declared_of : (known : List Symbol) (n : Name) → In n (map (λ p. p.name) (port_bits known)) → (s : Symbol) × In s known × In n (names s.text (bits_of s.range))
declared_of known n h =
    let r = In-map_back (λ (p : Port). p.name) n (port_bits known) h in
    let s = in_flat ports_at known r.0 r.1 in
    (s.0, s.1, name_of_role s.0.role (names s.0.text (bits_of s.0.range)) n (subst (λ (m : Name). In m (map (λ p. p.name) (ports_at s.0))) r.2 (In-map (λ (p : Port). p.name) r.0 (ports_at s.0) s.2)))

pub different_ports : (known : List Symbol) → AllDifferent (texts known) → AllDifferent (map (λ p. p.name) (port_bits known))
different_ports [] d = tt
different_ports (s ∷ known) d =
    let key : Port → Name = λ p. p.name in
    subst (λ (ns : List Name). AllDifferent ns) (sym (map_append key (ports_at s) (port_bits known)))
    (different_append (map key (ports_at s)) (map key (port_bits known)) (different_role s.role (names s.text (bits_of s.range)) (different_names s.text (bits_of s.range) (different_bits_of s.range))) (different_ports known d.1)
    (λ n h g.
    let first = text_of s.text (bits_of s.range) n (name_of_role s.role (names s.text (bits_of s.range)) n h) in
    let r = declared_of known n g in
    let same : r.0.text ≡ s.text = sym (text_of r.0.text (bits_of r.0.range) n r.2) ∙ first in
    d.0 (subst (λ (t : List ℕ). In t (texts known)) same (In-map (λ (y : Symbol). y.text) r.0 known r.1))))
