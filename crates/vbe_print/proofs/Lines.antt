-- Registers of one text, which are declared together.
use Rattle.std.proofs.Common.{◌≡◌, ℕ, suc, ◌-◌, ◌<◌, ◌≤◌, List, ◌∷◌, ◌++◌, map, length, drop, get_or, refl, sym, ap, subst, ◌∙◌, arith}
use Rattle.std.specs.Prelude.{option_map}
use Rattle.std.proofs.lemmas.List.{drop_all, length-map}
use Rattle.std.proofs.lemmas.Option.{slice_get_read, slice_get-map}
use Rattle.vlsi_base.specs.declared.name.Port.{Port}
use Rattle.machine_core.specs.declared.equation.Register.{Register}
use Rattle.spell_theory.specs.Layout.{text_of}
use Rattle.net_core.specs.Places.{Stands}
use Rattle.vst_print.specs.Groups.{Group, group_of, grouped}
use Rattle.vst_print.specs.Pieces.{IsRunEnd}
use Rattle.vst_print.proofs.Runs.{run_front}
use Rattle.vbe_print.specs.Written.{as_port, as_ports, group_layout, groups_layout}
use Rattle.vbe_print.proofs.Texts.{next_part, at_end}

-- the names of registers, as ports are grouped
abbrev pub ports_of : List Register → List Port
ports_of registers = as_ports (map (λ r. r.name) registers)

pub many_ports : (registers : List Register) → length (ports_of registers) ≡ length registers
many_ports registers = length-map (map (λ r. r.name) registers) as_port ∙ length-map registers (λ r. r.name)

pub stands_there : (registers : List Register) (k : ℕ) (r : Register) → k < length registers → r ≡ get_or registers k r → Stands (ports_of registers) k (as_port r.name)
stands_there registers k r within is =
    let at : Stands registers k r = slice_get_read registers (length registers) k r refl within is in
    slice_get-map as_port (map (λ r. r.name) registers) k ∙ ap (option_map as_port) (slice_get-map (λ r. r.name) registers k ∙ ap (option_map (λ r. r.name)) at)

-- what was written so far, and what is written of the registers from number k on, is the whole
pub record AreLines (start : List ℕ) (ports : List Port) (k : ℕ) (out : List ℕ) : Type 0 where
  pub within : k ≤ length ports
  pub whole : out ++ text_of (groups_layout (grouped (drop k ports))) ≡ start ++ text_of (groups_layout (grouped ports))

pub lines_next : (start : List ℕ) (ports : List Port) (k end last : ℕ) (a z : Port) (out new : List ℕ) → suc last ≡ end → Stands ports k a → Stands ports last z → IsRunEnd ports k end
    → new ≡ out ++ text_of (group_layout (group_of a z)) → AreLines start ports k out → AreLines start ports end new
lines_next start ports k end last a z out new e s t r put w =
    let some = r.some in
    let f : grouped (drop k ports) ≡ group_of a z ∷ grouped (drop (suc last) ports) = run_front ports (last - k) k last a z (omega (arith, some, e)) s t (subst (IsRunEnd ports k) (sym e) r) in
    record {
      within = r.within;
      whole =
          ap (λ k. new ++ text_of (groups_layout (grouped (drop k ports)))) (sym e)
          ∙ next_part (group_layout (group_of a z)) (groups_layout (grouped (drop (suc last) ports))) out new (start ++ text_of (groups_layout (grouped ports))) put
          (ap (λ (gs : List Group). out ++ text_of (groups_layout gs)) (sym f) ∙ w.whole);
    }

pub lines_end : (start : List ℕ) (ports : List Port) (k : ℕ) (out : List ℕ) → length ports ≤ k → AreLines start ports k out → out ≡ start ++ text_of (groups_layout (grouped ports))
lines_end start ports k out past w =
    at_end out (text_of (groups_layout (grouped (drop k ports)))) (start ++ text_of (groups_layout (grouped ports)))
    (ap (λ (ps : List Port). text_of (groups_layout (grouped ps))) (drop_all k ports past)) w.whole
